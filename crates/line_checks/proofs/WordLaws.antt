-- The words of types by their numbers.
use mathlib.Core.Path.{◌≡◌, refl, sym, ap, ◌∙◌}
use mathlib.Core.List.{List, ◌∷◌, []}
use Prim.Native.Nat.{ℕ, zero, suc}
use lib.ListN.{get_or}
use Rattle.spec.specs.Read.{type_number}
use Rattle.line_checks.specs.Words.{word_of}
use Rattle.line_checks.specs.declared.words.TypeWord.{TypeWord}
use Rattle.tables.specs.Tables.{type_word_by}
use Rattle.spec.specs.Ticket.{t_unit}

-- a number that is no word's, and the first word's
pub by_other : (w : ℕ) → (w ≡ 1 → ⊥) → (w ≡ 2 → ⊥) → (w ≡ 3 → ⊥) → (w ≡ 4 → ⊥) → (w ≡ 5 → ⊥) → (w ≡ 6 → ⊥) → (w ≡ 7 → ⊥) → (w ≡ 8 → ⊥) → t_unit ≡ type_word_by w
unfolding type_word_by
by_other zero a b c d e g h i = refl
by_other (suc zero) a b c d e g h i = absurd (a refl)
by_other (suc (suc zero)) a b c d e g h i = absurd (b refl)
by_other (suc (suc (suc zero))) a b c d e g h i = absurd (c refl)
by_other (suc (suc (suc (suc zero)))) a b c d e g h i = absurd (d refl)
by_other (suc (suc (suc (suc (suc zero))))) a b c d e g h i = absurd (e refl)
by_other (suc (suc (suc (suc (suc (suc zero)))))) a b c d e g h i = absurd (g refl)
by_other (suc (suc (suc (suc (suc (suc (suc zero))))))) a b c d e g h i = absurd (h refl)
by_other (suc (suc (suc (suc (suc (suc (suc (suc zero)))))))) a b c d e g h i = absurd (i refl)
by_other (suc (suc (suc (suc (suc (suc (suc (suc (suc w))))))))) a b c d e g h i = refl

-- the word of a number, back
words : List TypeWord
words = TypeWord.Unit ∷ TypeWord.Bool ∷ TypeWord.Bits ∷ TypeWord.Float ∷ TypeWord.Pointer ∷ TypeWord.Array ∷ TypeWord.Struct ∷ TypeWord.Tuple ∷ TypeWord.Opaque ∷ []

back : ℕ → TypeWord
back n = get_or words n TypeWord.Unit

back_is : (a : TypeWord) → back (type_number (word_of a)) ≡ a
unfolding back words
back_is TypeWord.Unit = refl
back_is TypeWord.Bool = refl
back_is TypeWord.Bits = refl
back_is TypeWord.Float = refl
back_is TypeWord.Pointer = refl
back_is TypeWord.Array = refl
back_is TypeWord.Struct = refl
back_is TypeWord.Tuple = refl
back_is TypeWord.Opaque = refl

-- words of one number are one
pub word_one : (a b : TypeWord) → type_number (word_of a) ≡ type_number (word_of b) → a ≡ b
word_one a b e = sym (back_is a) ∙ ap back e ∙ back_is b
