-- The code's words of types as the definitions'.
use Rattle.spec.specs.Ticket.{TypeWord as Word, t_unit, t_bool, t_bits, t_float, t_pointer, t_array, t_struct, t_tuple, t_opaque}
use Rattle.line_checks.specs.declared.words.TypeWord.{TypeWord}

abbrev pub word_of : TypeWord → Word
word_of TypeWord.Unit = t_unit
word_of TypeWord.Bool = t_bool
word_of TypeWord.Bits = t_bits
word_of TypeWord.Float = t_float
word_of TypeWord.Pointer = t_pointer
word_of TypeWord.Array = t_array
word_of TypeWord.Struct = t_struct
word_of TypeWord.Tuple = t_tuple
word_of TypeWord.Opaque = t_opaque
