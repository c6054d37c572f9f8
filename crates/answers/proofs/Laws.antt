-- An answer by what was done: nothing written, or a text in front of the buffer.
use Rattle.std.proofs.Common.{◌≡◌, ℕ, List, length, drop, refl, ap, Ok, Err, arith, length-append}
use Rattle.std.proofs.Math.Seq.{take_at}
use Rattle.spec.specs.Answer.{Answer, refused, accepted, left_in}
use Rattle.answers.specs.declared.Refused.{Refused}
use Rattle.answers.specs.Answers.{AnswersBy}

module _ {R : Type 0} (number : R → ℕ) (a : Answer) (l : List ℕ) where
  -- what is refused leaves the buffer as it was
  pub refused_by : (e : Refused R) → a ≡ refused (number e.refusal) e.line → AnswersBy number a l l (Err e)
  unfolding left_in
  refused_by e q = rw q (record { answer = refl; left = refl; within = tt })

  -- what is accepted stands in front, and has its length
  pub accepted_by : (x l' : List ℕ) (k : ℕ) → a ≡ accepted x → k ≡ length x → l' ≡ left_in (accepted x) l → AnswersBy number a l l' (Ok k)
  unfolding left_in
  accepted_by x l' k q e h =
      rw (q, e, h)
      (record {
        answer = ap accepted (take_at x (drop (length x) l) (length x) refl);
        left = refl;
        within = rw (length-append x (drop (length x) l)) (omega arith);
      })
