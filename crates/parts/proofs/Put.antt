-- Words replaced in place: those from q to m and those from m to e change places, and move down behind a new head at p.
use Rattle.std.specs.Prelude.{◌≡◌, List, ◌++◌, ℕ, ◌+◌, ◌-◌, ◌≤◌, length, take, drop}
use Rattle.std.proofs.Common.{sym, ap, ◌∙◌, arith, append_assoc, length-append, length-drop, length-take-le, take-take, take_at, drop_at, drop-drop}
use Rattle.std.proofs.lemmas.List.{drop-take, take-append-le}
use Rattle.std.proofs.lemmas.List.Edits.{sets, sets-eq}
use Rattle.std.specs.List.{copy_within}
use borrow.Rule.Slice.PartMut.{put_mid}
use Rattle.parts.specs.Insert.{seg}

module _ (l ys ws l1 l2 l3 : List ℕ) (p q m e : ℕ) (hw : length ws ≡ 8) (hp : p + 8 ≤ q) (hq : q ≤ m) (hm : m ≤ e) (f : e ≤ length l)
    (e0 : ys ≡ drop (m - q) (seg q e l) ++ take (m - q) (seg q e l)) (e1 : l1 ≡ put_mid q (e - q) l ys) (e2 : l2 ≡ copy_within l1 q e (p + 8)) (e3 : l3 ≡ sets l2 p ws) where
  abbrev new : List ℕ
  new = seg m e l ++ seg q m l

  length_seg : (a b : ℕ) → a ≤ b → b ≤ length l → length (seg a b l) ≡ b - a
  length_seg a b h k = length-take-le (b - a) (drop a l) (simp length-drop (omega arith))

  length_new : length new ≡ e - q
  length_new =
      let a = length_seg m e hm f in
      let b = length_seg q m hq (omega arith) in
      length-append (seg m e l) (seg q m l) ∙ omega arith

  turned : ys ≡ new
  turned =
      let n : e - q ≡ (m - q) + (e - m) = omega arith in
      let k : q + (m - q) ≡ m = omega arith in
      let front : drop (m - q) (seg q e l) ≡ seg m e l =
      ap (λ (z : ℕ). drop (m - q) (take z (drop q l))) n ∙ drop-take (m - q) (e - m) (drop q l) ∙ ap (λ (z : List ℕ). take (e - m) z) (drop-drop (m - q) q l ∙ ap (λ (z : ℕ). drop z l) k) in
      let back : take (m - q) (seg q e l) ≡ seg q m l = take-take (m - q) (e - q) (drop q l) (omega arith) in
      e0 ∙ ap (λ (z : List ℕ). z ++ take (m - q) (seg q e l)) front ∙ ap (λ (z : List ℕ). seg m e l ++ z) back

  abbrev rest : List ℕ
  rest = drop (e - q) (drop q l)

  now_turned : l1 ≡ take q l ++ (new ++ rest)
  now_turned = e1 ∙ ap (λ (z : List ℕ). take q l ++ (z ++ rest)) turned

  length_q : length (take q l) ≡ q
  length_q = length-take-le q l (omega arith)

  n1 : e ≤ length l1
  n1 =
      let a = length_new in
      let b = length_q in
      let c : length l1 ≡ length (take q l ++ (new ++ rest)) = ap length now_turned in
      omega (arith, length-append (take q l) (new ++ rest), length-append new rest)

  moved : take (e - q) (drop q l1) ≡ new
  moved =
      ap (λ (z : List ℕ). take (e - q) (drop q z)) now_turned ∙ ap (λ (z : List ℕ). take (e - q) z) (drop_at (take q l) (new ++ rest) q length_q)
      ∙ take_at new rest (e - q) length_new

  below : (n : ℕ) → n ≤ q → take n l1 ≡ take n l
  below n h = let lq = length_q in ap (λ (z : List ℕ). take n z) now_turned ∙ take-append-le n (take q l) (new ++ rest) (omega arith) ∙ take-take n q l h

  abbrev behind : List ℕ
  behind = drop (p + 8 + (e - q)) l1

  now_moved : l2 ≡ take (p + 8) l ++ (new ++ behind)
  now_moved =
      e2 ∙ ap (λ (z : List ℕ). z ++ take (e - q) (drop q l1) ++ behind) (below (p + 8) hp) ∙ ap (λ (z : List ℕ). take (p + 8) l ++ z ++ behind) moved ∙ append_assoc (take (p + 8) l) new behind

  pub put_words : take (p + 8 + (e - q)) l3 ≡ take p l ++ (ws ++ (seg m e l ++ seg q m l))
  put_words =
      let n = length_new in
      let l8 : length (take (p + 8) l) ≡ p + 8 = length-take-le (p + 8) l (omega arith) in
      let k2 : length l2 ≡ length (take (p + 8) l ++ (new ++ behind)) = ap length now_moved in
      let fit : p + length ws ≤ length l2 = omega (arith, length-append (take (p + 8) l) (new ++ behind)) in
      let front : take p l2 ≡ take p l = ap (λ (z : List ℕ). take p z) now_moved ∙ take-append-le p (take (p + 8) l) (new ++ behind) (omega arith) ∙ take-take p (p + 8) l (omega arith) in
      let w8 : p + length ws ≡ p + 8 = omega arith in
      let back : drop (p + length ws) l2 ≡ new ++ behind = ap (λ (z : ℕ). drop z l2) w8 ∙ ap (λ (z : List ℕ). drop (p + 8) z) now_moved ∙ drop_at (take (p + 8) l) (new ++ behind) (p + 8) l8 in
      let all : l3 ≡ (take p l ++ (ws ++ new)) ++ behind =
      e3 ∙ sets-eq ws l2 p fit ∙ append_assoc (take p l2) ws (drop (p + length ws) l2) ∙ ap (λ (z : List ℕ). z ++ (ws ++ drop (p + length ws) l2)) front ∙ ap (λ (z : List ℕ). take p l ++ (ws ++ z)) back
      ∙ ap (λ (z : List ℕ). take p l ++ z) (sym (append_assoc ws new behind)) ∙ sym (append_assoc (take p l) (ws ++ new) behind) in
      let lp : length (take p l) ≡ p = length-take-le p l (omega arith) in
      let len : length (take p l ++ (ws ++ new)) ≡ p + 8 + (e - q) = length-append (take p l) (ws ++ new) ∙ (let a = length-append ws new in omega arith) in
      ap (λ (z : List ℕ). take (p + 8 + (e - q)) z) all ∙ take_at (take p l ++ (ws ++ new)) behind (p + 8 + (e - q)) len
