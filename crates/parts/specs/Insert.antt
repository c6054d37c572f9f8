-- Insert over records: those before part i, the new head and its records, and those behind part i.
use Rattle.std.specs.Prelude.{◌≡◌, ℕ, ◌+◌, ◌-◌, ◌≤◌, length, drop, Result, Ok, Err}
use mathlib.Core.List.{List, ◌∷◌, ◌++◌, []}
use Rattle.std.proofs.Math.ListN.{take}
use Rattle.answers.specs.declared.Refusal.{Refusal}
use Rattle.answers.specs.Refusals.{refusal_number}
use Rattle.values.specs.declared.Value.{Value as Val}
use Rattle.values.specs.Heads.{Shape, unit_shape, bit_shape, bytes_shape, aggregate_shape, Head, head_of, Sound_value, records}
use Rattle.values.specs.Left.{value_words}
use Rattle.values.specs.Stack.{heads, Stands, Moved, found_in}

-- how many parts a head counts
abbrev pub part_count : Shape → ℕ
part_count unit_shape = 0
part_count (bit_shape b) = 0
part_count (bytes_shape b) = 0
part_count (aggregate_shape n m) = n

-- the records hs of which those from part i on are h ∷ ks, with xs for part i
abbrev pub with_part : List Head → Head → List Head → List Head → List Head
with_part hs h ks xs = take (length hs - length (h ∷ ks)) hs ++ (xs ++ drop (records h) ks)

-- an aggregate of n parts, whose records these are
abbrev pub aggregate_head : ℕ → ℕ → List Head → Head
aggregate_head ty n hs = record { ty = ty; shape = aggregate_shape n (length hs) }

abbrev pub CaseInsert : List ℕ → ℕ → ℕ → ℕ → List Head → List Head → List Head → List ℕ → Result (Val × ℕ) Refusal → Type 0
CaseInsert l top ty n hs [] xs l' (Err k) = refusal_number k ≡ 24
CaseInsert l top ty n hs [] xs l' (Ok y) = ⊥
CaseInsert l top ty n hs (h ∷ ks) xs l' (Err k) = ⊥
CaseInsert l top ty n hs (h ∷ ks) xs l' (Ok y) = (head_of y.0 ≡ aggregate_head ty n (with_part hs h ks xs)) × Sound_value y.0 × Moved l top (with_part hs h ks xs) l' y.1

-- the aggregate's records stand from the top to mid, those of the new value from mid to end
pub record Inserts (l : List ℕ) (top mid end : ℕ) (v : Val) (i : ℕ) (x : Val) (ty : ℕ) (l' : List ℕ) (r : Result (Val × ℕ) Refusal) : Type 0 where
  pub shown : CaseInsert l top ty (part_count (head_of v).shape) (heads l top mid) (found_in (head_of v).shape (heads l top mid) i) (head_of x ∷ heads l mid end) l' r

-- what `insert` asks for
pub record Insertable (l : List ℕ) (top mid end : ℕ) (x : Val) : Type 0 where
  pub first : top ≤ mid
  pub second : mid ≤ end
  pub fits : end ≤ length l
  pub whole : Stands l top mid
  pub new : Stands l mid end
  pub sound : Sound_value x

-- the words from a to e
abbrev pub seg : ℕ → ℕ → List ℕ → List ℕ
seg a e l = take (e - a) (drop a l)

-- the words that are put from p on: x, the records from mid to end, and those from q to mid
pub record PutWords (l : List ℕ) (p q mid end : ℕ) (x : Val) (l' : List ℕ) : Type 0 where
  pub words : take (p + 8 + (end - q)) l' ≡ take p l ++ (value_words x ++ (seg mid end l ++ seg q mid l))
