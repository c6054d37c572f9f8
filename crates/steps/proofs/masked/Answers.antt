-- `steps::masked` meets its contract: a mask, and then the value.
use Rattle.reads.specs.Reading.{at_of}
use Rattle.tables.specs.Ticket.{ticket_of}
use Rattle.steps.proofs.Temporaries.{room_read, masked_meets}
use Rattle.emission.specs.Emits.{emits_keeps}
use Rattle.values.specs.Left.{holds_then, holds_out}
use Rattle.steps.proofs.masked.Goals as goal

pub read_temporary-requires : goal.read_temporary-requires
read_temporary-requires c = room_read (ticket_of c.args.tables.now.lines) (at_of c.args.h) _ c.args.d c.args.tables.now.readable c.requires.1 c.mask_location.ensures

pub returns-clause-meets : goal.returns-clause-meets
returns-clause-meets c = masked_meets (ticket_of c.args.tables.now.lines) (at_of c.args.h) c.odd_bits-odd.result c.args.d c.requires.1.node c.odd_bits-odd.ensures.is c.requires.0 c.mask_location.ensures c.read_temporary.ensures.meets

pub returns-clause-holds : goal.returns-clause-holds
returns-clause-holds c = holds_then (holds_out (emits_keeps c.mask_location.ensures)) c.read_temporary.ensures.holds
