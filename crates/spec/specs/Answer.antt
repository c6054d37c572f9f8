-- The answer to every ticket and every lent buffer: read, lowered, printed; or a refusal's number and line.
use Rattle.std.specs.Prelude.{ℕ, zero, suc, Bool, true, false, ◌||◌, List, [], ◌∷◌, ◌++◌, eqb, leb, length, drop}
use Rattle.spec.specs.Text as text
use Rattle.spec.specs.Ticket.{Tables, expr_at, type_size_in}
use Rattle.spec.specs.Forms as forms
use Rattle.spec.specs.Read as reading
use Rattle.spec.specs.Readable.{root}
use Rattle.spec.specs.Lir.{Listing, Value, flatten_value_operands}
use Rattle.spec.specs.Print as print
use Rattle.spec.specs.Monad.{Outcome, Counters, Out}
use Rattle.spec.specs.Monad as monad
use Rattle.spec.specs.Operands as operands
use Rattle.spec.specs.Allocation as allocation
use Rattle.spec.specs.Places as places
use Rattle.spec.specs.ReadBytes as readbytes
use Rattle.spec.specs.Operators as operators
use Rattle.spec.specs.Arithmetic as arithmetic
use Rattle.spec.specs.Conversions as conversions
use Rattle.spec.specs.Select as select
use Rattle.spec.specs.Lower as lower

-- a listing's bytes, or a refusal's number and line
pub data Answer : Type 0 where
  refused : ℕ → ℕ → Answer
  accepted : List ℕ → Answer

-- ---------------------------------------------------------------- the listing of a lowering

unfoldable pub member : ℕ → List ℕ → Bool
member n [] = false
member n (x ∷ xs) = eqb n x || member n xs

-- those of the k numbers from n on that the list has, ascending and once each
unfoldable pub ascending : ℕ → ℕ → List ℕ → List ℕ
ascending zero n ns = []
ascending (suc k) n ns = elim (member n ns) [ true ↦ n ∷ ascending k (suc n) ns | false ↦ ascending k (suc n) ns ]

unfoldable pub listing_of : Tables → Value → Counters → Out → Listing
listing_of T v c o =
    record {
      storages = o.storages;
      narrowed = ascending (length T.storages) 0 o.narrowed;
      instructions = o.instructions;
      value = v;
      done = record { instructions = length o.instructions; storages = length o.storages; next = c.temporary };
    }

-- ---------------------------------------------------------------- the answer

-- 28: longer than the buffer
unfoldable pub fitted : ℕ → List ℕ → Answer
fitted room s = elim (leb (length s) room) [ true ↦ accepted s | false ↦ refused 28 0 ]

unfoldable pub of_lowering : Tables → ℕ → Outcome Value → Answer
of_lowering T room (monad.refused n l) = refused n l
of_lowering T room (monad.done v c o) = fitted room (print.print_listing (listing_of T v c o))

unfoldable pub of_reading : ℕ → reading.Read → Answer
of_reading room (reading.refused n l) = refused n l
of_reading room (reading.accepted T) = of_lowering T room (lower.lowered T)

-- the answer to a ticket's text, given the length of the lent buffer
unfoldable pub answer : List ℕ → ℕ → Answer
answer ticket room = of_reading room (reading.read_ticket ticket)

-- what the buffer holds then: a refusal writes nothing, and bytes past the listing keep their content
unfoldable pub left_in : Answer → List ℕ → List ℕ
left_in (refused n l) buffer = buffer
left_in (accepted s) buffer = s ++ drop (length s) buffer

-- ---------------------------------------------------------------- without the nodes

unfoldable pub plain_lowering : Tables → ℕ → Outcome Value → Answer
plain_lowering T room (monad.refused n l) = refused n l
plain_lowering T room (monad.done v c o) = fitted room (print.print_plain_listing (listing_of T v c o))

unfoldable pub plain_reading : ℕ → reading.Read → Answer
plain_reading room (reading.refused n l) = refused n l
plain_reading room (reading.accepted T) = plain_lowering T room (lower.lowered T)

-- the answer with document 01's listing, before instructions named their nodes
unfoldable pub plain_answer : List ℕ → ℕ → Answer
plain_answer ticket room = plain_reading room (reading.read_ticket ticket)

-- ---------------------------------------------------------------- computing

-- to unfold `computing` is to unfold all of these: a theorem that names it computes a whole answer
unfoldable pub computing : Unit {0}
unfolding text.same text.split text.fields text.line text.digits_in text.digits text.horner text.all_digits text.good_start text.numeral text.number type_size_in expr_at forms.find forms.rest_args forms.args_of forms.type_form forms.place_form forms.node_form forms.form_of forms.line_of reading.alike reading.once reading.mark reading.depth_of reading.first_failed reading.refusal_of reading.add_line reading.add reading.step reading.left_places reading.left_nodes reading.least reading.left_over reading.at_end reading.read_lines reading.read_ticket flatten_value_operands print.kind_number print.kind_length print.purpose_number print.shift_number print.compare_number print.unary_number print.binary_number print.byte_storage print.byte_operand print.bit_operand print.carry_operand print.listed print.byte_binary_word print.rotate_word print.instruction_fields print.instruction_line print.storage_line print.narrowed_line print.parts print.value_line print.value_lines print.done_line print.each print.print_listing monad.◌>>=◌ monad.◌>>◌ monad.or_refuse monad.require operands.value_bytes operands.value_bit operands.integer_bytes operands.all_immediate operands.lowest_byte operands.resize operands.nth operands.nth_value operands.set_value allocation.type_size allocation.integer_width allocation.odd_bits allocation.allocate_storage allocation.allocate_bit_temporary allocation.allocate_carry allocation.allocate_sized allocation.allocate_temporary allocation.bytes_from allocation.bytes_at allocation.location_bytes allocation.location_value_storages places.constant_usize places.within places.field_offset places.element_offset places.base_of places.part_of places.opaque_rest places.resolve_place_base places.with_type places.location_in places.resolve_place readbytes.read_elements readbytes.read_fields readbytes.read_plain readbytes.read_bool_byte readbytes.read_word readbytes.read_bytes_as_type readbytes.read_location operators.compare_op operators.unary_form operators.binary_form operators.rotate_direction operators.conversion_form arithmetic.zip2 arithmetic.zip3 arithmetic.adds arithmetic.subtracts arithmetic.negates arithmetic.masks arithmetic.rotates arithmetic.byte_rotates arithmetic.first_storage arithmetic.first_operand arithmetic.byte_rotate arithmetic.shifts arithmetic.mask_location arithmetic.unary_instructions arithmetic.lower_integer_unary arithmetic.binary_instructions arithmetic.lower_integer_binary conversions.bit_to_bytes conversions.lower_compare conversions.not_zero conversions.value_as_bit conversions.normalized_bytes conversions.resized conversions.sign_extended conversions.boolean_to_integer conversions.integer_to_bool conversions.reinterpreted conversions.lower_conversion select.select_as_byte select.select_piece select.select_pieces select.select_to_location select.lower_select select.require_addressable select.second_storage select.materialize_location_address select.lower_address_of select.lower_static_address select.lower_function_address select.lower_pointer_offset lower.lower_integer lower.lower_read lower.lower_extract lower.lower_insert lower.as_bit lower.lower_expression lower.expression_as_bit root lower.lowered member ascending listing_of fitted of_lowering of_reading answer
computing = tt
