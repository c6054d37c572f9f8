-- What a case that holds says, from what each call ensures.
use mathlib.Core.Path.{◌≡◌, sym, ◌∙◌}
use mathlib.Core.Bool.{Bool, true, ◌&&◌}
use mathlib.Core.List.{List}
use Prim.Native.Nat.{ℕ}
use lib.Dec.{eqb}
use borrow.Author.Tests.{eqb-true}
use denote.Ref.{Bor}
use Rattle.std.specs.Prelude.{Ok, Err}
use Rattle.spec.specs.Text.{same}
use Rattle.answers.specs.declared.Refused.{Refused}
use Rattle.fields.proofs.Lines.{both_true}
use Rattle.cases.proofs.Laws.{same_equal}
use Rattle.lines.specs.Lines.{Answer, of_ticket, of_listing, missing, number}
use Rattle.lines.specs.Handed.{refusal_number, Handed, part_of}
use Rattle.lines.specs.declared.Refusal.{Refusal}
use Rattle.lines_tests.specs.Asked.{bytes_of}

part_bytes : (a : Answer) (ticket listing r : Bor (List ℕ)) → part_of ticket listing r a → r.now ≡ bytes_of a
part_bytes (of_ticket l) ticket listing r p = p.bytes
part_bytes (of_listing l) ticket listing r p = p.bytes
part_bytes missing ticket listing r p = p.bytes

module _ (a : Answer) (ticket listing : Bor (List ℕ)) where
  pub bytes_are : (r : Bor (List ℕ)) (bytes : List ℕ) (s : Bool) → part_of ticket listing r a → s ≡ same r.now bytes → s ≡ true → bytes_of a ≡ bytes
  bytes_are r bytes s p q t = sym (part_bytes a ticket listing r p) ∙ same_equal r.now bytes (sym q ∙ t)

  pub number_ok : (r : Bor (List ℕ)) (m : ℕ) → Handed a ticket listing (Ok r) → m ≡ 0 → number a ≡ m
  number_ok r m h e = sym h.number ∙ sym e

  pub number_err : (e : Refused Refusal) (n m : ℕ) (b : Bool) → Handed a ticket listing (Err e) → n ≡ refusal_number e.refusal
      → b ≡ (eqb n m && eqb e.line 0) → b ≡ true → number a ≡ m
  number_err e n m b h q f t = sym h.number ∙ sym q ∙ eqb-true n m (both_true (eqb n m) (eqb e.line 0) (sym f ∙ t)).0
