-- A block copy where there is room for all of w, else byte by byte.
use native.Mathlib.Omega.{arith}
use mathlib.Core.Path.{refl}
use Rattle.text.proofs.Copying.{middle_put}
use Rattle.text.proofs.writer.Writer.bytes.Goals as goal

pub returns-then-w-self : goal.returns-then-w-self
returns-then-w-self c =
    let a = c.args in
    record { put = middle_put a.self.now.buf.now a.w.now a.self.now.at (omega arith) (omega arith) c.copy_from_slice.ensures.after; same = refl }
