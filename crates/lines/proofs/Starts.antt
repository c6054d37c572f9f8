-- `storage,k,` as it is printed: 29 bytes at most, and they stand in front of the array.
use mathlib.Core.Path.{◌≡◌, refl}
use mathlib.Core.List.{List, ◌∷◌, ◌++◌, append_assoc, []}
use Prim.Native.Nat.{ℕ, ◌^◌, ◌≤◌, ◌<◌}
use native.Mathlib.Omega.{arith}
use lib.ListN.{length, take, drop, length-append}
use lib.Seq.{take_at}
use Rattle.spec.specs.Text.{bytes, digits, comma}
use Rattle.text.specs.Put.{Put}
use Rattle.text.proofs.Front.{digits_length, in_front}
use Rattle.text.specs.Writes.{Writes, writes_then}
use Rattle.text.specs.declared.writer.Writer.{Writer}
use Rattle.lines.specs.Lines.{storage_start}

start_length : (k : ℕ) → k < 2 ^ 64 → length (storage_start k) ≤ 29
unfolding storage_start
start_length k h =
    let d = digits_length k 19 (omega arith) in
    omega (arith, length-append (bytes "storage,") (digits k ++ comma ∷ []), length-append (digits k) (comma ∷ []))

-- what is put in front of an array that has room for it ends where it was put
written_front : {l vs l' : List ℕ} {r : ℕ} → Put l 0 vs l' r → length vs ≤ length l → (take r l' ≡ vs) × (r ≤ length l)
written_front {l} {vs} p h =
    let f = in_front p h in
    (rw (f.0, f.1) (take_at vs (drop (length vs) l) (length vs) refl), omega (arith, f.0))

pub start_written : {w w1 w2 w3 : Writer} (l : List ℕ) (k : ℕ) → k < 2 ^ 64 → 32 ≤ length l → w.buf.now ≡ l → w.at ≡ 0
    → Writes w (bytes "storage,") w1 → Writes w1 (digits k) w2 → Writes w2 (comma ∷ []) w3
    → (take w3.at w3.buf.now ≡ storage_start k) × (w3.at ≤ length l)
unfolding storage_start
start_written {w} {w1} {w2} {w3} l k h g e z a b c =
    let s = start_length k h in
    let p : Put l 0 (bytes "storage," ++ (digits k ++ comma ∷ [])) w3.buf.now w3.at = rw (e, z, append_assoc) at (writes_then (writes_then a b) c).put in
    written_front p (omega arith)
