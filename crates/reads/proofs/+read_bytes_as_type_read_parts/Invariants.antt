use Rattle.std.proofs.Common.{◌+◌, ◌*◌}
use Rattle.tables.specs.Ticket.{ticket_of}
use Rattle.reads.specs.Reading.{at_of}
use Rattle.reads.proofs.PartLaws.{Held}
use Rattle.reads.proofs.+read_bytes_as_type_read_parts.Given as goal

abbrev pub decreases-read_bytes_as_type : goal.decreases-read_bytes_as_type
decreases-read_bytes_as_type l = l.depth * 2

abbrev pub decreases-read_parts : goal.decreases-read_parts
decreases-read_parts l = l.depth * 2 + 1

abbrev pub invariant-read_parts-loop-i : goal.invariant-read_parts-loop-i
invariant-read_parts-loop-i l = Held (ticket_of l.tables.lines) l.tables.lines.lists.now l.depth l.storage.0 l.parts (at_of l.h) l.n l.o l.initial.l l.i l.at l.l
