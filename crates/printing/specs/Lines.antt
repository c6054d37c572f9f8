-- The lines of a value, one for each record: its own head's, then those of its parts.
use Rattle.std.specs.Prelude.{ℕ, List}
use Rattle.spec.specs.Print.{value_line, each}
use Rattle.lir.specs.Lines.{unit_fields, bit_fields, bytes_fields, aggregate_fields}
use Rattle.values.specs.Heads.{Shape, unit_shape, bit_shape, bytes_shape, aggregate_shape, Head}

abbrev pub shape_line : ℕ → Shape → List ℕ
shape_line ty unit_shape = value_line ty unit_fields
shape_line ty (bit_shape b) = value_line ty (bit_fields b)
shape_line ty (bytes_shape bs) = value_line ty (bytes_fields bs)
shape_line ty (aggregate_shape n m) = value_line ty (aggregate_fields n)

abbrev pub head_line : Head → List ℕ
head_line h = shape_line h.ty h.shape

abbrev pub head_lines : List Head → List ℕ
head_lines hs = each head_line hs
