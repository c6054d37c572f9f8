-- The listing's two halves: where a run begins, what it prints once lowering is done, and what it leaves.
use Rattle.std.specs.Prelude.{ℕ, ◌+◌, ◌-◌, ◌*◌, ◌≤◌, ◌≡◌, List, ◌∷◌, ◌++◌, length, take, Result, Ok, Err}
use Rattle.std.proofs.lemmas.List.Edits.{sets}
use Rattle.spec.specs.Ticket.{Tables}
use Rattle.spec.specs.Readable.{line_sum}
use Rattle.spec.specs.Lir.{Value}
use Rattle.spec.specs.Monad.{Out, done, refused}
use Rattle.spec.specs.Monad as monad
use Rattle.spec.specs.Lower.{lowered}
use Rattle.spec.specs.Print.{each, storage_line, instruction_line, narrowed_line, value_lines, done_line, print_listing}
use Rattle.spec.specs.Answer.{ascending, listing_of}
use Rattle.text.specs.Put.{sat}
use Rattle.text.specs.Writes.{Writes}
use Rattle.answers.specs.declared.Refusal.{Refusal}
use Rattle.answers.specs.declared.Refused.{Refused}
use Rattle.answers.specs.Refusals.{refusal_number}
use Rattle.emission.specs.declared.emitter.Emitter.{Emitter}
use Rattle.values.specs.declared.Lowering.{Lowering}
use Rattle.values.specs.declared.Value.{Value as Val}
use Rattle.values.specs.Heads.{head_of, Sound_value}
use Rattle.values.specs.Stack.{heads, Stands}
use Rattle.reads.specs.Reading.{weight_of}
use Rattle.printing.specs.Lines.{head_lines}
use Rattle.printing.specs.Marks.{marks_from, narrowed_lines}
use Rattle.sections.specs.declared.Sections.{Sections}
use Rattle.sections.specs.declared.Lent.{Lent}

-- the records of all nodes' values
abbrev pub all_weights : Tables → ℕ
all_weights T = line_sum (weight_of T) T.nodes

-- a stack for all the values of a ticket's nodes
pub record Ready (T : Tables) (stack : List ℕ) : Type 0 where
  pub deep : 8 * all_weights T ≤ length stack

-- storages go on from the older ones, temporaries from NEXT; nothing is printed, and the stack is empty
pub record Starts (T : Tables) (l : Lowering) : Type 0 where
  pub storage : l.out.storage ≡ length T.storages
  pub temporary : l.out.temporary ≡ T.next
  pub instructions : l.out.instructions ≡ 0
  pub code : l.out.code.at ≡ 0
  pub store : l.out.store.at ≡ 0
  pub top : l.top ≡ 0
  pub ready : Ready T l.stack.now

-- the same slices are lent
pub record SameLent (l l' : Lent) : Type 0 where
  pub code : l'.code.ghost_name ≡ l.code.ghost_name
  pub store : l'.store.ghost_name ≡ l.store.ghost_name
  pub narrowed : l'.narrowed.ghost_name ≡ l.narrowed.ghost_name
  pub stack : l'.stack.ghost_name ≡ l.stack.ghost_name

-- ---------------------------------------------------------------- texts of a lowering that is done

abbrev pub storages_text : Out → List ℕ
storages_text o = each storage_line o.storages

abbrev pub narrowed_text : Tables → Out → List ℕ
narrowed_text T o = each narrowed_line (ascending (length T.storages) 0 o.narrowed)

abbrev pub code_text : Out → List ℕ
code_text o = each instruction_line o.instructions

-- the value's lines and the last one
abbrev pub end_text : Value → monad.Counters → Out → List ℕ
end_text v c o = value_lines v ++ done_line (record { instructions = length o.instructions; storages = length o.storages; next = c.temporary })

-- the listing's halves
abbrev pub front_text : Tables → Out → List ℕ
front_text T o = storages_text o ++ narrowed_text T o

abbrev pub back_text : Value → monad.Counters → Out → List ℕ
back_text v c o = code_text o ++ end_text v c o

abbrev pub print_of : Tables → Value → monad.Counters → Out → List ℕ
print_of T v c o = print_listing (listing_of T v c o)

-- ---------------------------------------------------------------- what is printed behind a lowering, by the code's value and state

-- with n storages before it
abbrev pub end_printed : ℕ → Val → List ℕ → ℕ → Emitter → List ℕ
end_printed n x stack top e =
    head_lines (head_of x ∷ heads stack 0 top) ++ done_line (record { instructions = e.instructions; storages = e.storage - n; next = e.temporary })

pub record Printable (n : ℕ) (x : Val) (stack : List ℕ) (top : ℕ) (e : Emitter) : Type 0 where
  pub sound : Sound_value x
  pub fits : top ≤ length stack
  pub stands : Stands stack 0 top
  pub newer : n ≤ e.storage

-- the narrowed storages' lines behind the storages, the last lines behind the instructions, and where both end
pub record Finished (n : ℕ) (marks : List ℕ) (x : Val) (stack : List ℕ) (top : ℕ) (e e' : Emitter) (m : Sections) : Type 0 where
  pub front : Writes e.store (narrowed_lines (marks_from n 0 marks)) e'.store
  pub back : Writes e.code (end_printed n x stack top e) e'.code
  pub first : m.front ≡ e'.store.at
  pub end : m.end ≡ sat (m.front + e'.code.at)

-- ---------------------------------------------------------------- a run

-- where the halves end, by the definitions, of a lowering that is done
pub record Sectioned (T : Tables) (m : Sections) : Type 0 where
  pub value : Value
  pub counters : monad.Counters
  pub out : Out
  pub is : lowered T ≡ done value counters out
  pub front : m.front ≡ sat (length (front_text T out))
  pub end : m.end ≡ sat (m.front + length (back_text value counters out))

-- each half stands at the start of its slice, if it has room there
pub record Halves (T : Tables) (store code : List ℕ) : Type 0 where
  pub front : (v : Value) (c : monad.Counters) (o : Out) → lowered T ≡ done v c o → length (front_text T o) ≤ length store → take (length (front_text T o)) store ≡ front_text T o
  pub back : (v : Value) (c : monad.Counters) (o : Out) → lowered T ≡ done v c o → length (back_text v c o) ≤ length code → take (length (back_text v c o)) code ≡ back_text v c o

abbrev pub CaseMeasured : Tables → Result Sections (Refused Refusal) → Type 0
CaseMeasured T (Ok m) = Sectioned T m
CaseMeasured T (Err e) = lowered T ≡ refused (refusal_number e.refusal) e.line

pub record Measures (T : Tables) (store code : List ℕ) (r : Result Sections (Refused Refusal)) : Type 0 where
  pub shown : CaseMeasured T r
  pub halves : Halves T store code

-- the whole listing
pub record ListingPut (T : Tables) (l l' : List ℕ) : Type 0 where
  pub text : (v : Value) (c : monad.Counters) (o : Out) → lowered T ≡ done v c o → l' ≡ sets l 0 (print_of T v c o)
