-- The number of each refusal, as the format has it.
use Rattle.std.specs.Prelude.{ℕ, List, ◌∷◌, ◌++◌}
use Rattle.std.specs.Fmt.{decimal}
use Rattle.spec.specs.Text.{bytes, comma}
use Rattle.answers.specs.declared.Refusal.{Refusal}

abbrev pub refusal_number : Refusal → ℕ
refusal_number Refusal.LongText = 1
refusal_number Refusal.BadForm = 2
refusal_number Refusal.OutOfRange = 3
refusal_number Refusal.NotEarlier = 4
refusal_number Refusal.BadTypes = 5
refusal_number Refusal.LargeType = 6
refusal_number Refusal.NotOnce = 7
refusal_number Refusal.ManyLines = 8
refusal_number Refusal.TooDeep = 9
refusal_number Refusal.LargeSums = 10
refusal_number Refusal.UnknownPlace = 20
refusal_number Refusal.InvalidPlace = 21
refusal_number Refusal.TypeMismatch = 22
refusal_number Refusal.UnsupportedType = 23
refusal_number Refusal.UnsupportedExpression = 24
refusal_number Refusal.ShortPointer = 25
refusal_number Refusal.LongInteger = 26
refusal_number Refusal.FarOffset = 27
refusal_number Refusal.LongListing = 28

-- what the program tells of a refusal
abbrev pub refusal_line : ℕ → ℕ → List ℕ
refusal_line n l = bytes "refused," ++ decimal n ++ comma ∷ decimal l
