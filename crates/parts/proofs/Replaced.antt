-- The records of an aggregate whose part i is replaced.
use Rattle.std.specs.Prelude.{◌≡◌, ℕ, ◌+◌, ◌-◌, ◌*◌, ◌/◌, ◌≤◌, length, Ok}
use Rattle.std.proofs.Math.Path.{sym, ap}
use Rattle.std.proofs.Common.{◌∙◌, length-append}
use mathlib.Core.List.{List, ◌∷◌, ◌++◌, map, append_assoc}
use native.Mathlib.Omega.{arith}
use Rattle.std.proofs.Math.ListN.{take}
use Rattle.std.proofs.Math.Seq.{take-add}
use Rattle.std.proofs.lemmas.List.{take-map, map-append}
use Rattle.values.specs.declared.Value.{Value as Val}
use Rattle.values.specs.declared.Repr.{Repr as Rep}
use Rattle.values.specs.Heads.{aggregate_shape, Head, head_of, sound_append, length_heads}
use Rattle.values.specs.Left.{value_words, values_words, words_append}
use Rattle.values.specs.Stack.{value_at, between, heads, Stands}
use Rattle.parts.specs.Records.{between_to, stands_to}
use Rattle.parts.specs.Extract.{Behind, PartAt}
use Rattle.parts.specs.Insert.{with_part, CaseInsert, Inserts, Insertable, seg, PutWords}

module _ {l : List ℕ} {p q mid end : ℕ} {x : Val} {top : ℕ} (a : Insertable l top mid end x) (part : Stands l p mid) (b : Behind l p mid q) (h : top ≤ p) where
  abbrev old : List Val
  old = between l top p

  abbrev parts : List Val
  parts = old ++ (x ∷ (between l mid end ++ between l q mid))

  abbrev kept : ℕ
  kept = length (between l top mid) - length (between l p mid)

  kept_ends : p ≡ top + 8 * kept
  kept_ends = let s = a.whole in let r = part in let w = b.within in let y = b.later in omega arith

  p_within : p ≤ mid
  p_within = let w = b.within in let y = b.later in omega arith

  old_stands : Stands l top p
  old_stands = stands_to a.whole kept p kept_ends p_within

  old_heads : map head_of old ≡ take (length (heads l top mid) - length (heads l p mid)) (heads l top mid)
  old_heads =
      let n : kept ≡ length (heads l top mid) - length (heads l p mid) = let x = length_heads (between l top mid) in let y = length_heads (between l p mid) in omega arith in
      ap (λ (z : List Val). map head_of z) (between_to a.whole kept p kept_ends p_within) ∙ sym (take-map head_of kept (between l top mid)) ∙ ap (λ (z : ℕ). take z (heads l top mid)) n

  parts_heads : map head_of parts ≡ with_part (heads l top mid) (head_of (value_at l p)) (heads l (p + 8) mid) (head_of x ∷ heads l mid end)
  parts_heads =
      map-append head_of old (x ∷ (between l mid end ++ between l q mid))
      ∙ ap (λ (z : List Head). z ++ (head_of x ∷ map head_of (between l mid end ++ between l q mid))) (old_heads ∙ ap (λ (z : List Head). take (length (heads l top mid) - length z) (heads l top mid)) b.first)
      ∙ ap (λ (z : List Head). take (length (heads l top mid) - length (head_of (value_at l p) ∷ heads l (p + 8) mid)) (heads l top mid) ++ (head_of x ∷ z)) (map-append head_of (between l mid end) (between l q mid) ∙ ap (λ (z : List Head). heads l mid end ++ z) b.rest_heads)

  parts_words : take p l ++ (value_words x ++ (seg mid end l ++ seg q mid l)) ≡ take top l ++ values_words parts
  unfolding values_words
  parts_words =
      let n : top + (p - top) ≡ p = omega arith in
      let front : take p l ≡ take top l ++ values_words old = ap (λ (z : ℕ). take z l) (sym n) ∙ take-add top (p - top) l ∙ ap (λ (z : List ℕ). take top l ++ z) old_stands.whole in
      let new : seg mid end l ++ seg q mid l ≡ values_words (between l mid end ++ between l q mid) =
      ap (λ (z : List ℕ). z ++ seg q mid l) a.new.whole ∙ ap (λ (z : List ℕ). values_words (between l mid end) ++ z) b.rest.whole ∙ sym (words_append (between l mid end) (between l q mid)) in
      ap (λ (z : List ℕ). z ++ (value_words x ++ (seg mid end l ++ seg q mid l))) front
      ∙ ap (λ (z : List ℕ). (take top l ++ values_words old) ++ (value_words x ++ z)) new
      ∙ append_assoc (take top l) (values_words old) (values_words (x ∷ (between l mid end ++ between l q mid)))
      ∙ ap (λ (z : List ℕ). take top l ++ z) (sym (words_append old (x ∷ (between l mid end ++ between l q mid))))

  length_parts : p + 8 + (end - q) ≡ top + 8 * length parts
  length_parts =
      let e1 = length-append old (x ∷ (between l mid end ++ between l q mid)) in
      let e2 = length-append (between l mid end) (between l q mid) in
      let s1 = old_stands.ends in
      let s2 = a.new.ends in
      let s3 = b.rest.ends in
      let w1 = b.within in
      let w2 = a.second in
      omega arith

  replaced : {l' : List ℕ} (ty n : ℕ) → PutWords l p q mid end x l'
      → CaseInsert l top ty n (heads l top mid) (heads l p mid) (head_of x ∷ heads l mid end) l' (Ok (record { ty = ty; repr = Rep.Aggregate n ((p + 8 + (end - q) - top) / 8) }, p + 8 + (end - q)))
  replaced {l'} ty n w =
      let new = with_part (heads l top mid) (head_of (value_at l p)) (heads l (p + 8) mid) (head_of x ∷ heads l mid end) in
      let len = length_parts in
      let m : (p + 8 + (end - q) - top) / 8 ≡ length new = let e : (p + 8 + (end - q) - top) / 8 ≡ length parts = omega arith in e ∙ sym (length_heads parts) ∙ ap length parts_heads in
      rw b.first (
        ap (λ (z : ℕ). record { ty = ty; shape = aggregate_shape n z }) m,
        tt,
        record {
          parts = parts;
          shows = parts_heads;
          sound = sound_append old (x ∷ (between l mid end ++ between l q mid)) old_stands.sound (a.sound, sound_append (between l mid end) (between l q mid) a.new.sound b.rest.sound);
          topped = len;
          stacked = ap (λ (z : ℕ). take z l') (sym len) ∙ w.words ∙ parts_words;
        },
      )

-- in an aggregate of n parts part i, which stands at p, replaced by x
pub put : {l : List ℕ} {top p q mid end i : ℕ} {x : Val} {l' : List ℕ} (v : Val) (ty n m : ℕ) → Insertable l top mid end x → PartAt l top mid i p → Behind l p mid q
    → v.repr ≡ Rep.Aggregate n m → PutWords l p q mid end x l'
    → Inserts l top mid end v i x ty l' (Ok (record { ty = ty; repr = Rep.Aggregate n ((p + 8 + (end - q) - top) / 8) }, p + 8 + (end - q)))
put {l} {top} {p} {q} {mid} {end} {i} {x} {l'} v ty n m a k b g w =
    record { shown = rw g (rw (← k.found) (replaced a k.stands b k.later ty n w)) }
