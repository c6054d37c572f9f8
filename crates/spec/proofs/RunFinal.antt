-- THE WHOLE RULE.
use native.Mathlib.Nat.{le_refl}
use Rattle.spec.specs.RunClaims.{WholeRule}
use Rattle.spec.proofs.RunRuns.{kinds, effects}
use Rattle.spec.proofs.RunFrames.{agree_refl}
use Rattle.spec.proofs.RunHoare.{outcome, ran}
use Rattle.spec.proofs.RunValues.{holds_value}
use Rattle.spec.proofs.RunWhole.{rightly}

-- an accepted, rightly typed expression whose reads are in order leaves what it means
pub running : WholeRule
running T R N e t s G M P i d q h c older v c' o w =
    let L = outcome G (rightly G T R N c.storage older M P e t s i d q c.storage M (le_refl c.storage) agree_refl) h c.temporary v c' o w in
    let A = L.left.agree in
    record {
      after = effects G (kinds o.instructions) M;
      runs = ran G L;
      holds = holds_value T R v L.left;
      bytes = λ k i h. A.bytes k i h;
      bits = λ k h. A.bits k h;
    }
