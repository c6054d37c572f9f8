-- The records of the new value go before those behind the old part, and all of them move down behind the new head.
use Rattle.std.specs.Prelude.{refl, List, ℕ, ◌++◌, length, take}
use Rattle.std.proofs.Common.{ap, ◌∙◌}
use Rattle.values.specs.Left.{length_value}
use Rattle.parts.specs.Insert.{seg}
use Rattle.parts.proofs.Put.{put_words}
use Rattle.parts.proofs.put_part.Goals as goal

pub returns : goal.returns
returns c =
    let a = c.args in
    let l = a.stack.now in
    let w = c.value_words.ensures in
    record {
      words = put_words l _ c.value_words.result _ _ _ a.p a.q a.mid a.end (ap length w ∙ length_value a.x) c.requires.0 c.requires.1 c.requires.2 c.requires.3 c.turn.ensures refl c.move_down.ensures c.store8.ensures
          ∙ ap (λ (z : List ℕ). take a.p l ++ (z ++ (seg a.mid a.end l ++ seg a.q a.mid l))) w;
    }
