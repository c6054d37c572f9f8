-- From a line's place to the part of the text that is handed back.
use mathlib.Core.Path.{◌≡◌, refl, ◌∙◌}
use mathlib.Core.List.{List, []}
use Rattle.std.specs.Prelude.{Option, None, Some, Ok, Err}
use Rattle.std.proofs.lemmas.Option.{some_pair_parts}
use Prim.Native.Nat.{ℕ, ◌+◌, ◌-◌, ◌≤◌}
use native.Mathlib.Omega.{arith}
use lib.ListN.{length, take, drop}
use denote.Ref.{Bor}
use Rattle.spec.specs.Text.{bytes}
use Rattle.lines.specs.Lines.{Line, nth_line, storage_start, chosen, Answer, of_ticket, of_listing, missing, number, storage_line}
use Rattle.lines.specs.Handed.{refusal_number, span_of, place_of, Part, part_of, Handed}
use Rattle.answers.specs.declared.Refused.{Refused}
use Rattle.lines.specs.declared.Place.{Place}
use Rattle.lines.specs.declared.Refusal.{Refusal}
use Rattle.lines.proofs.Stands.{Stands, nth_stands}

-- ---------------------------------------------------------------- the ticket first, then the listing

module _ (o q : Option Line) where
  pub place_ticket : (a b : ℕ) → Some (a, b) ≡ span_of o → Some (Place.Ticket a b) ≡ place_of (chosen o q)
  place_ticket a b e = by o e
    where
      by : (o : Option Line) → Some (a, b) ≡ span_of o → Some (Place.Ticket a b) ≡ place_of (chosen o q)
      by None h = cc
      by (Some l) h = let t = some_pair_parts a l.from b (l.from + length l.bytes) h in rw (t.0, t.1)

  pub place_listing : None ≡ span_of o → (a b : ℕ) → Some (a, b) ≡ span_of q → Some (Place.Listing a b) ≡ place_of (chosen o q)
  place_listing e a b g = by o q e g
    where
      by : (o q : Option Line) → None ≡ span_of o → Some (a, b) ≡ span_of q → Some (Place.Listing a b) ≡ place_of (chosen o q)
      by None None h h' = cc
      by None (Some l) h h' = let t = some_pair_parts a l.from b (l.from + length l.bytes) h' in rw (t.0, t.1)
      by (Some l) q h h' = cc

  pub place_missing : None ≡ span_of o → None ≡ span_of q → None ≡ place_of (chosen o q)
  place_missing e g = by o q e g
    where
      by : (o q : Option Line) → None ≡ span_of o → None ≡ span_of q → None ≡ place_of (chosen o q)
      by None None h h' = refl
      by None (Some l) h h' = cc
      by (Some l) q h h' = cc

pub ruleset place_laws = (place_ticket, place_listing, place_missing)

-- ---------------------------------------------------------------- the line at a place

-- the answer y is a line of the text s, from a to b
pub record Answered (y : Answer) (of : Line → Answer) (s : List ℕ) (a b : ℕ) : Type 0 where
  pub line : Line
  pub is : y ≡ of line
  pub from : line.from ≡ a
  pub to : line.from + length line.bytes ≡ b
  pub stands : Stands s line

by_ticket : (s : List ℕ) (o q : Option Line) → ((l : Line) → o ≡ Some l → Stands s l) → (a b : ℕ) → Some (Place.Ticket a b) ≡ place_of (chosen o q)
    → Answered (chosen o q) of_ticket s a b
by_ticket s (Some l) q st a b e = record { line = l; is = refl; from = cc; to = cc; stands = st l refl }
by_ticket s None None st a b e = cc
by_ticket s None (Some l) st a b e = cc

by_listing : (s : List ℕ) (o q : Option Line) → ((l : Line) → q ≡ Some l → Stands s l) → (a b : ℕ) → Some (Place.Listing a b) ≡ place_of (chosen o q)
    → Answered (chosen o q) of_listing s a b
by_listing s None (Some l) st a b e = record { line = l; is = refl; from = cc; to = cc; stands = st l refl }
by_listing s None None st a b e = cc
by_listing s (Some l) q st a b e = cc

by_missing : (o q : Option Line) → None ≡ place_of (chosen o q) → chosen o q ≡ missing
by_missing None None e = refl
by_missing None (Some l) e = cc
by_missing (Some l) q e = cc

module _ (ticket listing : List ℕ) (k : ℕ) where
  pub ticket_line : (a b : ℕ) → Some (Place.Ticket a b) ≡ place_of (storage_line ticket listing k) → Answered (storage_line ticket listing k) of_ticket ticket a b
  unfolding storage_line
  ticket_line a b e = by_ticket ticket (nth_line ticket (bytes "s,") k) (nth_line listing (storage_start k) 0) (nth_stands ticket (bytes "s,") k) a b e

  pub listing_line : (a b : ℕ) → Some (Place.Listing a b) ≡ place_of (storage_line ticket listing k) → Answered (storage_line ticket listing k) of_listing listing a b
  unfolding storage_line
  listing_line a b e = by_listing listing (nth_line ticket (bytes "s,") k) (nth_line listing (storage_start k) 0) (nth_stands listing (storage_start k) 0) a b e

  pub no_line : None ≡ place_of (storage_line ticket listing k) → storage_line ticket listing k ≡ missing
  unfolding storage_line
  no_line e = by_missing (nth_line ticket (bytes "s,") k) (nth_line listing (storage_start k) 0) e

-- ---------------------------------------------------------------- the part from a to b

pub within : {y : Answer} {of : Line → Answer} {s : List ℕ} {a b : ℕ} → Answered y of s a b → (a ≤ b) × (b ≤ length s)
within d = (omega (arith, d.from, d.to), omega (arith, d.to, d.stands.within))

part : (s x : Bor (List ℕ)) (y : Answer) (of : Line → Answer) (a b : ℕ) (d : Answered y of s.now a b) → x.now ≡ take (b - a) (drop a s.now)
    → x.ref_ptr.0 ≡ s.ref_ptr.0 → x.ref_ptr.1 ≡ a + s.ref_ptr.1 → Part s x d.line
part s x y of a b d e g h =
    let l = d.line in
    let n : b - a ≡ length l.bytes = omega (arith, d.from, d.to) in
    let m : x.now ≡ take (length l.bytes) (drop l.from s.now) = e ∙ rw (n, d.from) in
    record {
      bytes = m ∙ d.stands.bytes;
      within = omega (arith, d.stands.within);
      there = m;
      block = g;
      offset = h ∙ omega (arith, d.from);
    }

module _ (ticket listing x : Bor (List ℕ)) (y : Answer) where
  module _ (a b : ℕ) where
    pub handed_ticket : Answered y of_ticket ticket.now a b → x.now ≡ take (b - a) (drop a ticket.now) → x.ref_ptr.0 ≡ ticket.ref_ptr.0
        → x.ref_ptr.1 ≡ a + ticket.ref_ptr.1 → Handed y ticket listing (Ok x)
    handed_ticket d e g h = record { part = rw d.is (part ticket x y of_ticket a b d e g h); number = rw d.is; line = tt }

    pub handed_listing : Answered y of_listing listing.now a b → x.now ≡ take (b - a) (drop a listing.now) → x.ref_ptr.0 ≡ listing.ref_ptr.0
        → x.ref_ptr.1 ≡ a + listing.ref_ptr.1 → Handed y ticket listing (Ok x)
    handed_listing d e g h = record { part = rw d.is (part listing x y of_listing a b d e g h); number = rw d.is; line = tt }

  -- the empty part in front of the ticket
  pub part_none : (e : Refused Refusal) → Handed y ticket listing (Err e) → x.now ≡ [] → x.ref_ptr.0 ≡ ticket.ref_ptr.0 → x.ref_ptr.1 ≡ 0 + ticket.ref_ptr.1
      → part_of ticket listing x y
  part_none e d n g h = by e.refusal y d.number
    where
      by : (r : Refusal) (y : Answer) → refusal_number r ≡ number y → part_of ticket listing x y
      by Refusal.NoLine (of_ticket l) q = absurd (omega arith)
      by Refusal.NoLine (of_listing l) q = absurd (omega arith)
      by Refusal.NoLine missing q = record { bytes = n; within = omega arith; there = n; block = g; offset = h ∙ omega arith }

pub handed_none : (ticket listing : Bor (List ℕ)) (y : Answer) → y ≡ missing → Handed y ticket listing (Err (record { refusal = Refusal.NoLine; line = 0 }))
handed_none ticket listing y d = record { part = tt; number = rw d; line = refl }
