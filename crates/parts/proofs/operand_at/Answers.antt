-- A bit is a record's only operand; of bytes each is one.
use Rattle.std.proofs.Common.{sym}
use Rattle.parts.proofs.Nexts.{own_byte, no_byte}
use Rattle.parts.proofs.operand_at.Goals as goal

pub returns-in-Bytes-clause-gives : goal.returns-in-Bytes-clause-gives
returns-in-Bytes-clause-gives c = rw c.in-Bytes.is (rw c.byte_at.ensures (sym (own_byte c.in-Bytes.b c.args.i c.if-i-b.true)))

pub returns-in_default-2-clause-gives : goal.returns-in_default-2-clause-gives
returns-in_default-2-clause-gives c = rw c.in-Bytes.is (sym (no_byte c.in-Bytes.b c.args.i c.if-i-b.false))
