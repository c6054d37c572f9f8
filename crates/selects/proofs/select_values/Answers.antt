-- With no records behind either side both are their own bytes.
use Rattle.std.specs.Prelude.{◌≡◌, length}
use Rattle.std.proofs.Common.{rules}
use Rattle.selects.proofs.Laws.{pieces_bytes, bytes_alone, shortest}
use Rattle.selects.proofs.select_values.Goals as goal

pub returns-in-Bytes-Bytes-Bytes : goal.returns-in-Bytes-Bytes-Bytes
returns-in-Bytes-Bytes-Bytes c =
    let a = c.args in
    let b = c.in-Bytes-Bytes-Bytes in
    let e : length a.first.now ≡ 0 = search rules in
    let f : length a.second.now ≡ 0 = search rules in
    rw (bytes_alone a.t a.first.now b.is-1 e, bytes_alone a.f a.second.now b.is-2 f, b.is-0)
    (pieces_bytes _ _ b.to.count b.x b.y (shortest b.to.count b.x.total b.y.total c.min.ensures c.min-in-Bytes-Bytes-Bytes.ensures) c.select_bytes.ensures)
