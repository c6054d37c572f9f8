-- What a writer has put: a text, behind what it put before.
use Rattle.std.specs.Prelude.{List, ◌++◌, [], ℕ, ◌≡◌, ◌≤◌, refl, length}
use Rattle.std.proofs.Common.{◌∙◌}
use Rattle.text.specs.Put.{Put, then, none, last}
use Rattle.text.specs.declared.writer.Writer.{Writer}

-- w' is w behind the text t
pub record Writes (w : Writer) (t : List ℕ) (w' : Writer) : Type 0 where
  pub put : Put w.buf.now w.at t w'.buf.now w'.at
  pub same : w'.buf.ghost_name ≡ w.buf.ghost_name

-- one text, and then another
pub writes_then : {w w1 w2 : Writer} {s t : List ℕ} → Writes w s w1 → Writes w1 t w2 → Writes w (s ++ t) w2
writes_then a b = record { put = then a.put b.put; same = b.same ∙ a.same }

-- nothing
pub writes_none : (w : Writer) → length w.buf.now ≤ last → w.at ≤ last → Writes w [] w
writes_none w h k = record { put = none w.buf.now w.at h k; same = refl }
