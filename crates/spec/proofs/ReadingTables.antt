-- Tables line by line: counts, types and the first line's numbers are kept right by every accepted line.
use Prim.Native.Nat.{ℕ, ◌≤◌}
use mathlib.Core.List.{List}
use Rattle.std.specs.Prelude.{None}
use mathlib.Core.Path.{◌≡◌, refl}
use native.Mathlib.Omega.{arith}
use borrow.Author.Tests.{ltb-true}
use lib.ListN.{length, length-append}
use Rattle.spec.specs.Limits.{type_lines, storage_lines, variable_lines, static_lines, place_lines, node_lines, greatest_16}
use Rattle.spec.specs.Ticket.{Tables, TypeLine}
use Rattle.spec.specs.Forms.{Arg, Head, f_line, s_line, v_line, g_line, t_line, p_line, n_line, function_fields}
use Rattle.spec.specs.Read.{Reading, refusal_of, add_line}
use Rattle.spec.specs.Readable.{All}
use Rattle.spec.proofs.ReadingTests.{passed, ranged, in_range}
use Rattle.spec.proofs.ReadingForms.{Args, done, next}
use Rattle.spec.proofs.ReadingLines.{Formed}
use Rattle.spec.proofs.ReadingTypes.{Types, types_append}
use Rattle.spec.proofs.ReadingTypeLine.{Begun, begun, new_type}

-- ---------------------------------------------------------------- lines of a kind

abbrev pub Counted : Tables → Type 0
Counted T =
    (length T.types ≤ type_lines) × (length T.storages ≤ storage_lines) × (length T.variables ≤ variable_lines)
    × (length T.statics ≤ static_lines) × (length T.places ≤ place_lines) × (length T.nodes ≤ node_lines)

pub counted : (R : Reading) (n : ℕ) (h : Head) (xa : List Arg) → refusal_of R (record { head = h; args = xa }) ≡ None → Counted R.tables
    → Counted (add_line R.tables n h xa)
unfolding refusal_of add_line
counted R n f_line xa e c = c
counted R n s_line xa e c =
    let p = ltb-true (length R.tables.storages) storage_lines (passed _ _ _ _ _ _ _ _ _ e).few in
    simp length-append (omega arith)
counted R n v_line xa e c =
    let p = ltb-true (length R.tables.variables) variable_lines (passed _ _ _ _ _ _ _ _ _ e).few in
    simp length-append (omega arith)
counted R n g_line xa e c =
    let p = ltb-true (length R.tables.statics) static_lines (passed _ _ _ _ _ _ _ _ _ e).few in
    simp length-append (omega arith)
counted R n (t_line w) xa e c =
    let p = ltb-true (length R.tables.types) type_lines (passed _ _ _ _ _ _ _ _ _ e).few in
    simp length-append (omega arith)
counted R n (p_line w) xa e c =
    let p = ltb-true (length R.tables.places) place_lines (passed _ _ _ _ _ _ _ _ _ e).few in
    simp length-append (omega arith)
counted R n (n_line w) xa e c =
    let p = ltb-true (length R.tables.nodes) node_lines (passed _ _ _ _ _ _ _ _ _ e).few in
    simp length-append (omega arith)

-- ---------------------------------------------------------------- types

pub record Typed (ts : List TypeLine) : Type 0 where
  pub right : Types ts
  pub start : Begun ts

pub typed : (R : Reading) (n : ℕ) (h : Head) (xa : List Arg) → Formed h xa → refusal_of R (record { head = h; args = xa }) ≡ None
    → Typed R.tables.types → Typed (add_line R.tables n h xa).types
unfolding add_line
typed R n f_line xa f e c = c
typed R n s_line xa f e c = c
typed R n v_line xa f e c = c
typed R n g_line xa f e c = c
typed R n (t_line w) xa f e c =
    record { right = types_append R.tables.types _ c.right (new_type R w xa f e); start = begun R w xa _ e refl c.start }
typed R n (p_line w) xa f e c = c
typed R n (n_line w) xa f e c = c

-- ---------------------------------------------------------------- the first line

pub record Headed (function next : ℕ) : Type 0 where
  pub function_most : function ≤ greatest_16
  pub next_most : next ≤ greatest_16

abbrev pub Head_of : Tables → Type 0
Head_of T = Headed T.function T.next

new_head : (R : Reading) (n : ℕ) (xa : List Arg) → Args function_fields None xa → refusal_of R (record { head = f_line; args = xa }) ≡ None
    → Head_of (add_line R.tables n f_line xa)
unfolding add_line All
new_head R n xa (next a (next b done)) e =
    let r = ranged R (record { head = f_line; args = _ }) e in
    record { function_most = (in_range 0 greatest_16 a r.0).1; next_most = (in_range 0 greatest_16 b r.1.0).1 }

pub headed : (R : Reading) (n : ℕ) (h : Head) (xa : List Arg) → Formed h xa → refusal_of R (record { head = h; args = xa }) ≡ None
    → Head_of R.tables → Head_of (add_line R.tables n h xa)
unfolding add_line
headed R n f_line xa f e c = new_head R n xa f e
headed R n s_line xa f e c = c
headed R n v_line xa f e c = c
headed R n g_line xa f e c = c
headed R n (t_line w) xa f e c = c
headed R n (p_line w) xa f e c = c
headed R n (n_line w) xa f e c = c
