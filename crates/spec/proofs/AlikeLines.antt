-- Two texts that differ only in older storages' regions, or in variables and statics added last of their kind to one, have the same listing.
use Prim.Native.Nat.{ℕ, suc}
use mathlib.Core.Bool.{Bool, true, false, not}
use mathlib.Core.List.{List, [], ◌∷◌, ◌++◌, append_assoc}
use Rattle.std.specs.Prelude.{Option, None, Some}
use mathlib.Core.Path.{◌≡◌, refl}
use native.Mathlib.Omega.{arith}
use borrow.Author.Tests.{eq-eqb}
use lib.Dec.{leb, eqb}
use lib.ListN.{length}
use Rattle.spec.specs.Text.{split, line_feed}
use Rattle.spec.specs.Limits.{text_limit}
use Rattle.spec.specs.Ticket.{PlacedLine, Tables}
use Rattle.spec.specs.Forms.{Head, s_line, v_line, g_line, Line, line_of, values}
use Rattle.spec.specs.Read.{Reading, rank, refusal_of, placed_line, add_line, add, stop, go, step, accepted, left_over, at_end, read_lines, start, read_ticket}
use Rattle.spec.specs.Alike.{both_end, MoreOf, of_kind, none_of, MoreLines, same_end, same_line, other_regions, more_variable, more_static, SameListing, SameListingOfLines}
use Rattle.spec.proofs.Bools.{and_left, and_right}
use Rattle.spec.proofs.AlikePairs.{pair_append}
use Rattle.spec.proofs.AlikeListing.{same_listing}
use Rattle.spec.proofs.AlikeTexts.{same_added}

-- ---------------------------------------------------------------- an accepted text, line by line

ended : (l : List ℕ) (R : Reading) (T : Tables) → read_lines (l ∷ []) R ≡ accepted T → R.tables ≡ T
unfolding read_lines at_end
ended [] R T e = by (left_over R) refl (eqb (length R.tables.nodes) 0) refl
  where
    by : (o : Option ℕ) → left_over R ≡ o → (b : Bool) → eqb (length R.tables.nodes) 0 ≡ b → R.tables ≡ T
    by (Some n) q b p = let x = rw q at e in cc
    by None q true p = let x = rw (q, p) at e in cc
    by None q false p = let x : accepted R.tables ≡ accepted T = rw (q, p) at e in cc
ended (x ∷ xs) R T e = cc

-- a line that can be read was accepted, so the others are read on from the state behind it
passed : (l m : List ℕ) (ls : List (List ℕ)) (k : Line) (R : Reading) (T : Tables) → line_of l ≡ Some k
    → read_lines (l ∷ m ∷ ls) R ≡ accepted T → read_lines (m ∷ ls) (add R k) ≡ accepted T
unfolding read_lines step
passed l m ls k R T q e = by (refusal_of R k) refl
  where
    by : (o : Option ℕ) → refusal_of R k ≡ o → read_lines (m ∷ ls) (add R k) ≡ accepted T
    by (Some n) p = let s : step R (line_of l) ≡ stop n = rw (q, p) in let x = rw (s, read_lines) at e in cc
    by None p = let s : step R (line_of l) ≡ go (add R k) = rw (q, p) in rw (s, read_lines) at e

record Line_of (l : List ℕ) : Type 0 where
  line : Line
  is : line_of l ≡ Some line

read_as : (l m : List ℕ) (ls : List (List ℕ)) (R : Reading) (T : Tables) → read_lines (l ∷ m ∷ ls) R ≡ accepted T → Line_of l
unfolding read_lines step
read_as l m ls R T e = by (line_of l) refl
  where
    by : (o : Option Line) → line_of l ≡ o → Line_of l
    by None q =
        let s : step R (line_of l) ≡ stop 2 = rw q in
        let x = rw (s, read_lines) at e in
        let z : ◌≡◌ {A = ℕ} 0 1 = cc in
        absurd (omega arith)
    by (Some k) q = record { line = k; is = q }

-- ---------------------------------------------------------------- what was added so far

-- nothing to a kind with lines yet to come
data Late (h : Head) (ls : List (List ℕ)) : List PlacedLine → Type 0 where
  nothing_added : Late h ls []
  none_left : {ps : List PlacedLine} → none_of h ls ≡ true → Late h ls ps

late_rest : {h : Head} {l : List ℕ} {ls : List (List ℕ)} {ps : List PlacedLine} → Late h (l ∷ ls) ps → Late h ls ps
unfolding none_of
late_rest nothing_added = nothing_added
late_rest {h} {l} {ls} (none_left n) = none_left (and_right (not (of_kind h (line_of l))) (none_of h ls) n)

late_line : {h : Head} {l : List ℕ} {ls : List (List ℕ)} {ps : List PlacedLine} (k : Line) → line_of l ≡ Some k → Late h (l ∷ ls) ps → k.head ≡ h → ps ≡ []
unfolding none_of
late_line k q nothing_added e = refl
late_line {h} {l} {ls} k q (none_left n) e =
    let x = rw (q, e, eq-eqb (rank h) (rank h) refl) at (and_left (not (of_kind h (line_of l))) (none_of h ls) n) in cc

-- the tables as read at the end
pub record Differ (T T' : Tables) : Type 0 where
  pub variables : List PlacedLine
  pub statics : List PlacedLine
  pub more : MoreOf variables statics T T'

more_read : {ls ls' : List (List ℕ)} {vs gs : List PlacedLine} (R R' : Reading) (T T' : Tables) → MoreLines ls ls'
    → MoreOf vs gs R.tables R'.tables → Late v_line ls vs → Late g_line ls gs
    → read_lines ls R ≡ accepted T → read_lines ls' R' ≡ accepted T' → Differ T T'
unfolding add add_line
more_read {vs = vs} {gs} R R' T T' (same_end {l}) r v g e e' =
    record { variables = vs; statics = gs; more = rw (← ended l R T e, ← ended l R' T' e') r }
more_read R R' T T' (same_line {l} {m} {m'} {ls} {ls'} d) r v g e e' =
    let a = read_as l m ls R T e in
    let k = a.line in
    more_read (add R k) (add R' k) T T' d
    (same_added R.tables R'.tables (suc R.lines) (suc R'.lines) k.head k.args r (late_line k a.is v) (late_line k a.is g))
    (late_rest v) (late_rest g) (passed l m ls k R T a.is e) (passed l m' ls' k R' T' a.is e')
more_read R R' T T' (other_regions {l} {l'} {m} {m'} {ls} {ls'} {xa} {xa'} a a' kind len owner d) r v g e e' =
    more_read (add R (record { head = s_line; args = xa })) (add R' (record { head = s_line; args = xa' })) T T' d
    (record {
      function = r.function;
      next = r.next;
      types = r.types;
      storages = pair_append r.storages (record { kind = kind; len = len; owner = owner });
      variables = r.variables;
      statics = r.statics;
      places = r.places;
      nodes = r.nodes;
    })
    (late_rest v) (late_rest g) (passed l m ls _ R T a e) (passed l' m' ls' _ R' T' a' e')
more_read {vs = vs} R R' T T' (more_variable {l} {m} {m'} {ls} {ls'} {xa} a n d) r v g e e' =
    more_read {vs = vs ++ (placed_line (values xa) ∷ [])} R (add R' (record { head = v_line; args = xa })) T T' d
    (record {
      function = r.function;
      next = r.next;
      types = r.types;
      storages = r.storages;
      variables = rw (r.variables, append_assoc);
      statics = r.statics;
      places = r.places;
      nodes = r.nodes;
    })
    (none_left n) g e (passed l m' ls' _ R' T' a e')
more_read {gs = gs} R R' T T' (more_static {l} {m} {m'} {ls} {ls'} {xa} a n d) r v g e e' =
    more_read {gs = gs ++ (placed_line (values xa) ∷ [])} R (add R' (record { head = g_line; args = xa })) T T' d
    (record {
      function = r.function;
      next = r.next;
      types = r.types;
      storages = r.storages;
      variables = r.variables;
      statics = rw (r.statics, append_assoc);
      places = r.places;
      nodes = r.nodes;
    })
    v (none_left n) e (passed l m' ls' _ R' T' a e')

-- ---------------------------------------------------------------- the whole text

-- no text that is too long was accepted
whole : (s : List ℕ) (T : Tables) → read_ticket s ≡ accepted T → read_lines (split line_feed s) start ≡ accepted T
unfolding read_ticket
whole s T e = by (leb (length s) text_limit) refl
  where
    by : (b : Bool) → leb (length s) text_limit ≡ b → read_lines (split line_feed s) start ≡ accepted T
    by false q = let x = rw (q, read_ticket) at e in cc
    by true q = rw (q, read_ticket) at e

pub lines_differ : (ticket ticket' : List ℕ) (T T' : Tables) → read_ticket ticket ≡ accepted T → read_ticket ticket' ≡ accepted T'
    → MoreLines (split line_feed ticket) (split line_feed ticket') → Differ T T'
lines_differ ticket ticket' T T' t t' d =
    more_read start start T T' d
    (record { function = refl; next = refl; types = refl; storages = both_end; variables = refl; statics = refl; places = both_end; nodes = both_end })
    nothing_added nothing_added (whole ticket T t) (whole ticket' T' t')

pub same_listing_of_lines : SameListingOfLines
unfolding SameListingOfLines SameListing
same_listing_of_lines ticket ticket' T T' room s t t' d a =
    let r = lines_differ ticket ticket' T T' t t' d in
    same_listing ticket ticket' T T' r.variables r.statics room s t t' r.more a
