-- What the two lengths decide of the answer, and what an answer tells.
use Rattle.std.proofs.Common.{◌≡◌, ℕ, ◌%◌, List, length, sym, ap, Ok, Err, Result, eq-eqb, le-leb}
use Rattle.std.proofs.Math.Seq.{length-take-le}
use Rattle.spec.specs.Answer.{accepted, left_in}
use Rattle.answers.specs.declared.Refused.{Refused}
use Rattle.answers.proofs.Laws.{refused_by, accepted_by}
use Rattle.blocks.specs.Blocks.{block_length}
use Rattle.blocks.specs.Shown.{outcome, of_tests, answer, told, Answers, Judged}
use Rattle.blocks.specs.declared.Refusal.{Refusal}

module _ (f : List ℕ → List ℕ) (input output : List ℕ) where
  pub refused : (e : Refused Refusal) → Judged (length input) (length output) (Err e) → Answers f input output output (Err e)
  unfolding answer
  refused e j = refused_by _ _ output e (j.refuses (f input))

  pub turned : (output' : List ℕ) → Judged (length input) (length output) (Ok tt) → length (f input) ≡ length input
      → output' ≡ left_in (accepted (f input)) output → Answers f input output output' (Ok (length input))
  unfolding answer of_tests
  turned output' j e h =
      let t = eq-eqb (length input % block_length) 0 j.fits.0 in
      let u = le-leb (length input) (length output) j.fits.1 in
      accepted_by _ _ output (f input) output' (length input) (rw (t, u)) (sym e) h

-- the length of what is accepted, or the refusal's number and line
pub answered : (f : List ℕ → List ℕ) (input output output' : List ℕ) (r : Result ℕ (Refused Refusal)) → Answers f input output output' r
    → outcome r ≡ told (answer f input (length output))
answered f input output output' (Ok n) a = rw (← a.answer) (ap Ok (sym (length-take-le n output' a.within)))
answered f input output output' (Err e) a = rw (← a.answer)
