-- What a function that works on a line keeps of it.
use Rattle.std.specs.Prelude.{◌≡◌}
use Rattle.ticket.specs.declared.lines.Line.{Line}

-- all but what stands in the rows, which are the same slice still
pub record SameLine (l l' : Line) : Type 0 where
  pub rows : l'.rows.ghost_name ≡ l.rows.ghost_name
  pub lists : l'.lists ≡ l.lists
  pub counts : l'.counts ≡ l.counts
  pub form : l'.form ≡ l.form
  pub numbers : l'.numbers ≡ l.numbers
