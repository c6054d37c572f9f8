-- Why an aggregate's TYPE must have parts to be rightly typed: the smallest ticket whose run else leaves something else than it means.
use mathlib.Core.Bool.{true, false}
use mathlib.Core.List.{[], ◌∷◌}
use Rattle.std.specs.Prelude.{Some}
use mathlib.Core.Path.{◌≡◌, refl}
use Rattle.spec.specs.Text.{text}
use Rattle.spec.specs.Hir.{Expr, boolean, select, aggregate, no_exprs}
use Rattle.spec.specs.Typed.{typed}
use Rattle.spec.specs.Eval.{number, parts, no_data, eval, in_order}
use Rattle.spec.specs.Answer.{answer, accepted}
use Rattle.spec.specs.RunCases.{T, of_type, memory, given, leaves}
use Rattle.spec.proofs.RunExamples.{computing}

-- two aggregates of no parts, both of type bits 8: one is selected
abbrev empties : Expr
empties = select (of_type 2) (aggregate (of_type 2) no_exprs) (aggregate (of_type 2) no_exprs) (boolean (of_type 0) 1)

-- such a ticket is accepted: a temporary is made and read, and nothing is written to it
listed : answer (text (
    "f,0,0" ∷ "t,bool" ∷ "t,pointer" ∷ "t,bits,8" ∷ "n,2,aggregate" ∷ "n,2,aggregate" ∷ "n,0,bool,1" ∷ "n,2,select,0,1,2" ∷ [])) 100
    ≡ accepted (text ("storage,0,1,0,0,0,36" ∷ "value,2,bytes,1,0.0" ∷ "done,0,1,1" ∷ []))
unfolding computing
listed = refl

-- in order, and meaning no parts ..
means : (in_order T (memory 0 0) empties ≡ true) × (eval T given (memory 0 0) empties ≡ Some (parts no_data))
unfolding computing
means = (refl, refl)

-- .. but what the run leaves is the byte that the new storage happens to hold
differs : leaves empties (memory 0 0) ≡ Some (number 1 0)
unfolding computing
differs = refl

-- so it is not rightly typed: bits 8 has neither elements nor fields
not_typed : typed T empties ≡ false
unfolding computing
not_typed = refl
