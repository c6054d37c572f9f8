-- What a readable ticket says of its types, variables and statics: sizes and offsets are small.
use mathlib.Core.Path.{◌≡◌, refl, ap, subst, ◌∙◌}
use mathlib.Core.List.{List, ◌∷◌, ◌++◌, []}
use Rattle.std.specs.Prelude.{Option, None}
use Rattle.std.specs.Option.{ForSome, option_map}
use Prim.Native.Nat.{ℕ, zero, suc, ◌+◌, ◌-◌, ◌≤◌}
use native.Mathlib.Omega.{arith}
use native.Mathlib.Numerals.{add-one}
use lib.ListN.{get_or}
use borrow.Author.Tests.{lt-ltb, le-ltb}
use Rattle.spec.specs.Hir.{At}
use Rattle.spec.specs.Limits.{offset_limit, type_size_limit}
use Rattle.spec.specs.Ticket.{Tables, type_at, sum}
use Rattle.spec.specs.Readable.{PlacedRight, Readable}
use Rattle.spec.specs.Operands.{nth}
use Rattle.spec.specs.Allocation.{type_size}
use Rattle.spec.specs.Places.{constant_usize}
use Rattle.spec.proofs.ReadingLists.{All_nth}
use Rattle.tables.specs.declared.NodeKind.{NodeKind}
use Rattle.tables.specs.declared.Placed.{Placed}
use Rattle.tables.specs.declared.lookups.Tables as code
use Rattle.tables.specs.Ticket.{ticket_of}
use Rattle.tables.specs.Tables.{tab, run, placed_line, variables_of, statics_of, tables_of, tree_of}
use Rattle.tables.proofs.Laws.{run_more, nth_run, nth_run_out, take_run, size_here, place_none, place_here, nth_variable, nth_static}
use Rattle.places.proofs.Laws.{steps}
use Rattle.places.specs.Abstract.{Held}

-- ---------------------------------------------------------------- sums of sizes

sum_more : (f : ℕ → ℕ) (xs : List ℕ) (x : ℕ) → sum f (xs ++ x ∷ []) ≡ sum f xs + f x
sum_more f [] x = omega arith
sum_more f (y ∷ xs) x = let e = sum_more f xs x in omega arith

pub sum_run_more : (f : ℕ → ℕ) (lists : List ℕ) (a n : ℕ) → sum f (run lists a (n + 1)) ≡ sum f (run lists a n) + f (get_or lists (a + n) 0)
sum_run_more f lists a n = rw (add-one, run_more lists a n) (sum_more f (run lists a n) (get_or lists (a + n) 0))

pub sum_run_none : (f : ℕ → ℕ) (lists : List ℕ) (a : ℕ) → sum f (run lists a 0) ≡ 0
unfolding run tab
sum_run_none f lists a = refl

-- the sum of fewer is no more: d are left off
pub sum_run_fewer : (f : ℕ → ℕ) (lists : List ℕ) (a n d : ℕ) → sum f (run lists a n) ≤ sum f (run lists a (n + d))
sum_run_fewer f lists a n zero = let e : n + 0 ≡ n = omega arith in rw e (omega arith)
sum_run_fewer f lists a n (suc d) =
    let e : n + suc d ≡ n + d + 1 = omega arith in
    let h = sum_run_fewer f lists a n d in
    rw (e, sum_run_more f lists a (n + d)) (omega arith)

pub sum_run_at_most : (f : ℕ → ℕ) (lists : List ℕ) (a i n : ℕ) → i ≤ n → sum f (run lists a i) ≤ sum f (run lists a n)
sum_run_at_most f lists a i n h = let e : i + (n - i) ≡ n = omega arith in rw e at (sum_run_fewer f lists a i (n - i))

-- ---------------------------------------------------------------- lines of a readable ticket

pub held_line : (T : Tables) → Readable T → (ty : ℕ) → Held T (type_at T ty).word (type_at T ty).args
unfolding type_size
held_line T r ty = record { most = subst (λ n. n ≤ type_size_limit) (r.types.sized ty) (r.types.size_most ty) }

-- a variable's or static's offset is small
module _ (t : code.Tables) (k : ℕ) (found : Option Placed) where
  pub variable_near : nth (variables_of t.lines.rows.now t.lines.lists.now t.lines.counts) k ≡ option_map placed_line found → ForSome found (λ p. p.offset ≤ offset_limit)
  unfolding tables_of
  variable_near e = λ p g. (All_nth (PlacedRight (ticket_of t.lines)) (ticket_of t.lines).variables k (placed_line p) t.readable.variables (e ∙ ap (option_map placed_line) g)).offset_most

  pub static_near : nth (statics_of t.lines.rows.now t.lines.lists.now t.lines.counts) k ≡ option_map placed_line found → ForSome found (λ p. p.offset ≤ offset_limit)
  unfolding tables_of
  static_near e = λ p g. (All_nth (PlacedRight (ticket_of t.lines)) (ticket_of t.lines).statics k (placed_line p) t.readable.statics (e ∙ ap (option_map placed_line) g)).offset_most

-- ---------------------------------------------------------------- what is no integer node

pub no_constant : (T : Tables) (lists : List ℕ) (d : ℕ) (h : At) (n : NodeKind) → ((a : ℕ) → n ≡ NodeKind.Int a → ⊥) → constant_usize (tree_of T lists d h n) ≡ None
unfolding constant_usize
no_constant T lists d h (NodeKind.Bool a) s = refl
no_constant T lists d h (NodeKind.Int a) s = absurd (s a refl)
no_constant T lists d h (NodeKind.F32 a) s = refl
no_constant T lists d h (NodeKind.F64 a) s = refl
no_constant T lists d h NodeKind.Null s = refl
no_constant T lists d h (NodeKind.StaticAddress a b) s = refl
no_constant T lists d h (NodeKind.Function a) s = refl
no_constant T lists d h (NodeKind.Read a) s = refl
no_constant T lists d h (NodeKind.Unary a b) s = refl
no_constant T lists d h (NodeKind.Binary a b c) s = refl
no_constant T lists d h (NodeKind.Funary a) s = refl
no_constant T lists d h (NodeKind.Fbinary a b) s = refl
no_constant T lists d h (NodeKind.Compare a b c) s = refl
no_constant T lists d h (NodeKind.Convert a b) s = refl
no_constant T lists d h (NodeKind.Select a b c) s = refl
no_constant T lists d h (NodeKind.Address a) s = refl
no_constant T lists d h (NodeKind.Offset a b) s = refl
no_constant T lists d h (NodeKind.Aggregate a b) s = refl
no_constant T lists d h (NodeKind.Extract a b) s = refl
no_constant T lists d h (NodeKind.Insert a b c) s = refl

-- ---------------------------------------------------------------- what the functions' proofs list

pub ruleset sums = (sum_run_none, sum_run_more, sum_run_at_most, size_here)

pub ruleset parts = (steps, nth_run, nth_run_out, take_run, size_here, lt-ltb, le-ltb, sum_run_at_most)

pub ruleset led = (steps, place_none, place_here, nth_variable, nth_static)
