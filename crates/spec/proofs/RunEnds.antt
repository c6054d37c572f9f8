-- From a ticket's bytes to a number, computed: answered, the bytes read back as a listing, and run.
use Prim.Native.String.{String}
use mathlib.Core.List.{List, [], ◌∷◌}
use Rattle.std.specs.Prelude.{Option, None, Some}
use mathlib.Core.Path.{◌≡◌, refl}
use Rattle.spec.specs.Text.{text}
use Rattle.spec.specs.Lir.{Listing}
use Rattle.spec.specs.ReadBack as back
use Rattle.spec.specs.Machine.{Memory, run}
use Rattle.spec.specs.Eval.{Data, number}
use Rattle.spec.specs.Answer.{Answer, refused, accepted, answer}
use Rattle.spec.specs.RunCases.{memory, given, after_run}
use Rattle.spec.proofs.RunExamples.{computing}

unfoldable pub reading_back : Unit {0}
unfolding computing back.lines back.headed back.then back.◌>>=◌ back.pure back.next back.times back.whole back.nth back.number back.byte_storage_of back.byte_operand_of back.bit_operand_of back.carry_of back.listed back.one_of back.shift_ops back.compare_ops back.unary_ops back.binary_ops back.purposes back.moved back.byte_binary back.carried back.address back.function back.shift back.compare back.select_byte back.select_bit back.bit_to_byte back.byte_to_bit back.sign_extend back.integer_unary back.integer_binary back.instruction_words back.find back.line_of back.lines_of back.several back.kind_of back.storage back.instruction back.done back.bit_shape back.bytes_shape back.aggregate_shape back.shape_words back.top back.values back.shaped back.value back.listing back.fields_of_lines back.lines_in back.read_listing
reading_back = tt

abbrev run_listing : Memory → Option Listing → Option Data
run_listing M None = None
run_listing M (Some l) = after_run l.value (run given l.instructions M)

abbrev run_answer : Memory → Answer → Option Data
run_answer M (refused n l) = None
run_answer M (accepted s) = run_listing M (back.read_listing s)

-- what the ticket's listing, in a buffer of 4,000 bytes, leaves in the value
abbrev pub left_by : List String → Memory → Option Data
left_by ticket M = run_answer M (answer (text ticket) 4000)

-- document 01's printed case, with 505 in the variable
printed_case : left_by ("f,0,0" ∷ "t,bool" ∷ "t,pointer" ∷ "t,bits,9" ∷ "s,2,2,1,36" ∷ "v,0,0,2,0" ∷ "p,variable,0" ∷
    "n,2,read,0" ∷ "n,2,int,12" ∷ "n,2,binary,0,0,1" ∷ []) (memory 505 0) ≡ Some (number 2 5)
unfolding reading_back
printed_case = refl

-- a byte rotated left by 5: three rotates to the right
rotated_5 : left_by ("f,0,0" ∷ "t,bool" ∷ "t,pointer" ∷ "t,bits,8" ∷ "s,1,0,1,36" ∷ "v,0,0,2,0" ∷ "p,variable,0" ∷
    "n,2,read,0" ∷ "n,2,int,5" ∷ "n,2,binary,13,0,1" ∷ []) (memory 18 0) ≡ Some (number 1 66)
unfolding reading_back
rotated_5 = refl

-- 16 bits to 9: two copies and a mask
truncated : left_by ("f,0,0" ∷ "t,bool" ∷ "t,pointer" ∷ "t,bits,9" ∷ "t,bits,16" ∷ "s,2,2,1,36" ∷ "v,0,0,3,0" ∷ "p,variable,0" ∷
    "n,3,read,0" ∷ "n,2,convert,0,0" ∷ []) (memory 65535 0) ≡ Some (number 2 511)
unfolding reading_back
truncated = refl
