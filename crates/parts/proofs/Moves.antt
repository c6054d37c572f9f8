-- Words moved within one slice: down one by one, and past each other by three turns.
use Rattle.std.specs.Prelude.{◌≡◌, refl, List, ◌∷◌, ◌++◌, [], ℕ, suc, ◌+◌, ◌-◌, ◌≤◌, ◌<◌, length, take, drop, set, get_or}
use Rattle.std.proofs.Common.{sym, ap, ◌∙◌, arith, append-nil, length-append, length-drop, get_or-set_other, get_or-drop, length-take-le, take-append-drop, take_all, take_at, drop_at, reverse}
use Rattle.std.proofs.lemmas.List.{length-reverse, reverse-append, reverse-reverse, drop_all}
use Rattle.std.proofs.lemmas.List.Edits.{sets, sets-eq}
use Rattle.std.specs.List.{copy_within}
use borrow.Rule.Slice.PartMut.{put_mid}
use Rattle.values.proofs.Stored.{stored_more}

-- ---------------------------------------------------------------- down

-- a run of stores leaves what stands behind it
kept_behind : (l vs : List ℕ) (i j : ℕ) → i + length vs ≤ j → get_or (sets l i vs) j 0 ≡ get_or l j 0
kept_behind l [] i j h = refl
kept_behind l (v ∷ vs) i j h = kept_behind (set l i v) vs (suc i) j (omega arith) ∙ get_or-set_other l i j v 0 (λ e. omega arith)

-- j words from a on were moved down to b: one more
pub moved_more : (l₀ l : List ℕ) (a b n j : ℕ) → a + n ≤ length l₀ → j < n → b ≤ a → l ≡ sets l₀ b (take j (drop a l₀)) → set l (b + j) (get_or l (a + j) 0) ≡ sets l₀ b (take (j + 1) (drop a l₀))
moved_more l₀ l a b n j ha hj down e =
    let hd : j < length (drop a l₀) = simp length-drop (omega arith) in
    let lt : length (take j (drop a l₀)) ≡ j = length-take-le j (drop a l₀) (omega arith) in
    let read : get_or l (a + j) 0 ≡ get_or (drop a l₀) j 0 =
    ap (λ (z : List ℕ). get_or z (a + j) 0) e ∙ kept_behind l₀ (take j (drop a l₀)) b (a + j) (omega arith) ∙ sym (get_or-drop a l₀ j 0) in
    rw read (stored_more l₀ l (drop a l₀) b j hd e)

-- all of them
pub moved_all : (l₀ l : List ℕ) (a e b : ℕ) → b ≤ a → a ≤ e → e ≤ length l₀ → l ≡ sets l₀ b (take (e - a) (drop a l₀)) → l ≡ copy_within l₀ a e b
moved_all l₀ l a e b h k f g =
    let w = take (e - a) (drop a l₀) in
    let n : length w ≡ e - a = length-take-le (e - a) (drop a l₀) (simp length-drop (omega arith)) in
    g ∙ sets-eq w l₀ b (omega arith) ∙ ap (λ (z : ℕ). (take b l₀ ++ w) ++ drop (b + z) l₀) n

-- ---------------------------------------------------------------- past each other

-- all turned round, then those before k and the n from there on again
pub three_turns : (l l₁ y z : List ℕ) (m k n : ℕ) → m ≤ length l → k ≡ length l - m → l₁ ≡ reverse l → y ≡ reverse (take k l₁) → n ≡ length (y ++ drop k l₁) - k → z ≡ reverse (take n (drop k (y ++ drop k l₁)))
    → put_mid k n (y ++ drop k l₁) z ≡ drop m l ++ take m l
three_turns l l₁ y z m k n h e e1 e2 en e3 =
    let a = take m l in
    let b = drop m l in
    let u = y ++ drop k l₁ in
    let la : length a ≡ m = length-take-le m l h in
    let lb : length b ≡ k = length-drop m l ∙ sym e in
    let lra : length (reverse a) ≡ m = length-reverse a ∙ la in
    let lrb : length (reverse b) ≡ k = length-reverse b ∙ lb in
    let one : l₁ ≡ reverse b ++ reverse a = e1 ∙ ap (λ (x : List ℕ). reverse x) (sym (take-append-drop m l)) ∙ reverse-append a b in
    let front : y ≡ b = e2 ∙ ap (λ (x : List ℕ). reverse (take k x)) one ∙ ap (λ (x : List ℕ). reverse x) (take_at (reverse b) (reverse a) k lrb) ∙ reverse-reverse b in
    let back : drop k l₁ ≡ reverse a = ap (λ (x : List ℕ). drop k x) one ∙ drop_at (reverse b) (reverse a) k lrb in
    let two : u ≡ b ++ reverse a = ap (λ (x : List ℕ). x ++ drop k l₁) front ∙ ap (λ (x : List ℕ). b ++ x) back in
    let lu : length u ≡ k + m = ap length two ∙ length-append b (reverse a) ∙ omega arith in
    let low : take k u ≡ b = ap (λ (x : List ℕ). take k x) two ∙ take_at b (reverse a) k lb in
    let high : drop k u ≡ reverse a = ap (λ (x : List ℕ). drop k x) two ∙ drop_at b (reverse a) k lb in
    let again : z ≡ a = e3 ∙ ap (λ (x : List ℕ). reverse (take n x)) high ∙ ap (λ (x : List ℕ). reverse x) (take_all n (reverse a) (omega arith)) ∙ reverse-reverse a in
    let none : drop n (drop k u) ≡ [] = ap (λ (x : List ℕ). drop n x) high ∙ drop_all n (reverse a) (omega arith) in
    ap (λ (x : List ℕ). x ++ (z ++ drop n (drop k u))) low ∙ ap (λ (x : List ℕ). b ++ (x ++ drop n (drop k u))) again ∙ ap (λ (x : List ℕ). b ++ (a ++ x)) none ∙ ap (λ (x : List ℕ). b ++ x) (append-nil a)
