-- What the functions leave in their outputs: the first bytes of an output, given back as input, restore the bytes. The premises are
-- contracts of two calls.
use Prim.Native.Nat.{ℕ, ◌%◌, ◌≤◌}
use mathlib.Core.Path.{◌≡◌, refl, sym, ap, ◌∙◌}
use mathlib.Core.Bool.{Bool, true, false}
use mathlib.Core.List.{List}
use native.Mathlib.Omega.{arith}
use borrow.Author.Tests.{eqb-true, eq-eqb, le-leb}
use lib.ListN.{length, take, drop}
use lib.Seq.{take-append_seam}
use Rattle.spec.specs.Answer.{left_in}
use Rattle.blocks.specs.Blocks.{block_length, transposed, transposed_back, all_mirrored, Bytes}
use Rattle.std.specs.Prelude.{Result, Ok, Err}
use Rattle.answers.specs.declared.Refused.{Refused}
use Rattle.blocks.specs.Shown.{outcome, of_tests, answer, told, Answers}
use Rattle.blocks.specs.declared.Refusal.{Refusal}
use Rattle.blocks.proofs.Answering.{answered}
use Rattle.blocks.proofs.Inverse.{length_transposed, length_transposed_back, back_of_transposed, transposed_of_back, all_mirrored_twice}
use Rattle.blocks.proofs.Mirroring.{length_mirrored}

-- a length that is told is the answer
length_told : (r : Result ℕ (Refused Refusal)) (n : ℕ) → outcome r ≡ Ok n → r ≡ Ok n
length_told (Ok m) n e = let f : m ≡ n = cc in ap Ok f
length_told (Err m) n e = cc

-- an acceptance says that the tests held, how long the answer is, and where it stands
of_accepted : (even fits : Bool) (ys output output' : List ℕ) (n : ℕ) → outcome (Ok n) ≡ told (of_tests even fits ys)
    → output' ≡ left_in (of_tests even fits ys) output → (even ≡ true) × (n ≡ length ys) × (take n output' ≡ ys)
unfolding of_tests left_in
of_accepted false fits ys output output' n r l = let z : ◌≡◌ {A = ℕ} 0 1 = cc in absurd (omega arith)
of_accepted true false ys output output' n r l = let z : ◌≡◌ {A = ℕ} 0 1 = cc in absurd (omega arith)
of_accepted true true ys output output' n r l =
    let e : n ≡ length ys = cc in
    (refl, e, rw (e, l) (take-append_seam ys (drop (length ys) output)))

-- where both lengths are right, the answer is f of the input
of_fitting : (f : List ℕ → List ℕ) (input : List ℕ) {output output' : List ℕ} {r : Result ℕ (Refused Refusal)} → Answers f input output output' r
    → length input % block_length ≡ 0 → length input ≤ length output → (r ≡ Ok (length (f input))) × (take (length (f input)) output' ≡ f input)
unfolding answer of_tests left_in
of_fitting f input {output} {output'} {r} a w h =
    let t = eq-eqb (length input % block_length) 0 w in
    let u = le-leb (length input) (length output) h in
    (length_told r (length (f input)) (rw (t, u) at (answered f input output output' r a)), rw (rw (t, u) at a.left) (take-append_seam (f input) (drop (length (f input)) output)))

-- the second call undoes the first, where its output is long enough
module _ (f g : List ℕ → List ℕ) (input : List ℕ) {output output' back back' : List ℕ} {n : ℕ} {r : Result ℕ (Refused Refusal)} (first : Answers f input output output' (Ok n))
    (second : Answers g (take n output') back back' r) (room : n ≤ length back) where
  restores : length (f input) ≡ length input → (length input % block_length ≡ 0 → g (f input) ≡ input) → (r ≡ Ok n) × (take n back' ≡ input)
  unfolding answer
  restores long undone =
      let d = of_accepted _ _ (f input) output output' n (answered f input output output' (Ok n) first) first.left in
      let whole : length input % block_length ≡ 0 = eqb-true _ _ d.0 in
      let again : Answers g (f input) back back' r = rw d.2 at second in
      let t = of_fitting g (f input) again (rw long whole) (omega (arith, d.1)) in
      let e : length (g (f input)) ≡ n = ap length (undone whole) ∙ sym long ∙ sym d.1 in
      (rw e at t.0, rw (e, undone whole) at t.1)

module _ {input output output' back back' : List ℕ} {n : ℕ} {r : Result ℕ (Refused Refusal)} (bytes : Bytes input) where
  pub transpose_then_back : Answers transposed input output output' (Ok n) → Answers transposed_back (take n output') back back' r
      → n ≤ length back → (r ≡ Ok n) × (take n back' ≡ input)
  transpose_then_back a b h = restores _ _ input a b h (length_transposed input) (back_of_transposed input bytes)

  pub back_then_transpose : Answers transposed_back input output output' (Ok n) → Answers transposed (take n output') back back' r
      → n ≤ length back → (r ≡ Ok n) × (take n back' ≡ input)
  back_then_transpose a b h = restores _ _ input a b h (length_transposed_back input) (transposed_of_back input bytes)

  pub mirror_twice : Answers all_mirrored input output output' (Ok n) → Answers all_mirrored (take n output') back back' r
      → n ≤ length back → (r ≡ Ok n) × (take n back' ≡ input)
  mirror_twice a b h = restores _ _ input a b h (length_mirrored input) (λ w. all_mirrored_twice input bytes)
