-- What a reader gave, a line's numbers one by one, a buffer filled and looked at byte by byte, and a refusal's line as it is printed.
use Rattle.std.proofs.Common.{◌≡◌, ℕ, zero, suc, ◌+◌, ◌/◌, ◌%◌, ◌^◌, ◌≤◌, ◌<◌, Bool, true, false, ◌&&◌, List, [], ◌∷◌, ◌++◌, Option, None, Some, length, replicate, get_or, take, drop, set, refl, sym, ap, ◌∙◌, append_assoc, append-nil, length-append, length-take, length-set, ⊎_elim, drop-cons, add-one, eqb, leb, ne_eqb, eq-eqb, arith, eqb-true, zero-add, length-take-le, Result, Ok, Err}
use Rattle.std.proofs.Math.Nat.{pow-suc}
use Rattle.std.proofs.lemmas.List.FromFn.{fill_by_all, length-map-range_with_len, get_or-map-range_with_len}
use Rattle.std.proofs.Math.Seq.{take-suc-set, take_all, length-sets, sets-eq, take_at, take-append-add}
use Rattle.std.proofs.lemmas.List.{drop_all, length-replicate, get_or-take, take-append-le}
use Rattle.std.proofs.lemmas.Bool.{cases_lt}
use Rattle.std.specs.Option.{ok_or}
use Rattle.std.specs.Io.KnownBytes.{Consumes}
use Rattle.std.proofs.KnownBytes.{Consumes-trans}
use Rattle.std.specs.Fn.{Once, FnOnceReturnsAtMut}
use Rattle.std.specs.Borrow.{MutBor}
use Rattle.spec.specs.Text.{bytes, fields, line, digits, same, split, comma, line_feed, number}
use Rattle.spec.proofs.Digits.{by_digits, digits_one, digits_more}
use Rattle.spec.specs.Answer.{Answer, refused, accepted}
use Rattle.fields.specs.Fields.{fields_from, numbers_of, cons_number, onto, NumberAt, index}
use Rattle.fields.proofs.Marks.{fields_start, fields_none, fields_some}
use Rattle.fields.proofs.Lines.{first_none, first_some, both_true}
use Rattle.text.specs.Put.{Put, sat_below}
use Rattle.text.specs.Writes.{Writes, writes_then}
use Rattle.text.specs.declared.writer.Writer.{Writer}
use Rattle.answers.specs.declared.Refused.{Refused}
use Rattle.cases.specs.declared.Broken.{Broken}
use Rattle.cases.specs.Cases.{exactly, GivesLine, GivesBlock, Unended, BadLine, BadBlock, LineHead, BlockHead, mark, filling, kept, refusal, Printed, Refuses, Accepts, Right, Judges, HoldsWithin}

-- ---------------------------------------------------------------- what a reader gave

-- the bytes given so far stand in front of a line, and no line feed is among them
pub record Taking (known known' : Option (List ℕ)) (line : List ℕ) (n : ℕ) : Type 0 where
  pub given : Consumes known known' (take n line)
  pub unended : Unended line n

-- n bytes are given behind the first m, into the part that begins there
pub given_more : (a b c : Option (List ℕ)) (m n : ℕ) (xs ys zs : List ℕ) → m ≤ length xs → n ≤ length ys → Consumes a b (take m xs) → Consumes b c (take n ys)
    → Consumes a c (take (m + n) (take m xs ++ (ys ++ zs)))
given_more a b c m n xs ys zs h k p q =
    let e : length (take m xs) ≡ m = length-take-le m xs h in
    let t : take (m + n) (take m xs ++ (ys ++ zs)) ≡ take m xs ++ take n ys =
    ap (λ (i : ℕ). take (i + n) (take m xs ++ (ys ++ zs))) (sym e) ∙ take-append-add (take m xs) (ys ++ zs) n ∙ ap (λ (l : List ℕ). take m xs ++ l) (take-append-le n ys zs k) in
    rw t (Consumes-trans a b c (take m xs) (take n ys) p q)

-- ---------------------------------------------------------------- a head's numbers

-- i of n numbers of a line are read, and stand in front of ns; those that are left begin at p
pub record Heading (s ns : List ℕ) (n i p : ℕ) : Type 0 where
  pub long : length ns ≡ n
  pub answer : numbers_of (split comma s) ≡ onto (take i ns) (numbers_of (fields_from s p))

pub heading_none : (s : List ℕ) (n : ℕ) → Heading s (replicate n 0) n 0 0
unfolding onto
heading_none s n = record { long = length-replicate n 0; answer = rw (fields_start s) (by (numbers_of (fields_from s 0))) }
  where
    by : (o : Option (List ℕ)) → o ≡ onto [] o
    by None = refl
    by (Some ys) = refl

-- a list that is too long or too short is none
exactly_other : (n : ℕ) (xs : List ℕ) → (length xs ≡ n → ⊥) → None ≡ exactly n (Some xs)
exactly_other n xs h = rw (ne_eqb (length xs) n h)

module _ {s ns : List ℕ} {n i p : ℕ} (g : Heading s ns n i p) where
  pub heading_more : (v next : ℕ) → i < n → NumberAt s p (Some (v, next)) → Heading s (set ns i v) n (i + 1) next
  unfolding onto
  heading_more v next h a =
      let l : i < length ns = omega (arith, g.long) in
      record {
        long = length-set ns i v ∙ g.long;
        answer = g.answer ∙ rw (first_some (fields_from s p) v (fields_from s next) a.answer, add-one, take-suc-set ns i v l) (by (numbers_of (fields_from s next)));
      }
    where
      by : (o : Option (List ℕ)) → onto (take i ns) (cons_number (Some v) o) ≡ onto (take i ns ++ v ∷ []) o
      by None = refl
      by (Some ys) = rw (append_assoc (take i ns) (v ∷ []) ys)

  -- behind the line's end there is no number more
  over : length s < p → numbers_of (split comma s) ≡ Some (take i ns)
  unfolding numbers_of onto
  over h = g.answer ∙ rw (fields_none s p h, append-nil (take i ns))

  pub heading_broken : i < n → NumberAt s p None → None ≡ exactly n (numbers_of (split comma s))
  unfolding onto
  heading_broken h a =
      ⊎_elim
      (λ (q : length s < p). rw (over q) (exactly_other n (take i ns) (λ e. omega (arith, length-take i ns))))
      (λ (q : p ≤ length s). rw (g.answer, first_none (fields_from s p) (fields_some s p q) a.answer))
      (cases_lt (length s) p)

  pub heading_end : n ≤ i → length s < p → Some ns ≡ exactly n (numbers_of (split comma s))
  heading_end h q = rw (over q, take_all i ns (omega (arith, g.long)), eq-eqb (length ns) n g.long)

  -- what is left of the line is one number more at least, or none
  pub heading_rest : n ≤ i → p ≤ length s → None ≡ exactly n (numbers_of (split comma s))
  unfolding onto numbers_of
  heading_rest h q = rw g.answer (by (fields_from s p) (fields_some s p q))
    where
      by : (ws : List (List ℕ)) → (ws ≡ [] → ⊥) → None ≡ exactly n (onto (take i ns) (numbers_of ws))
      by [] e = absurd (e refl)
      by (w ∷ ws) e = go (number w) (numbers_of ws)
        where
          go : (x : Option ℕ) (o : Option (List ℕ)) → None ≡ exactly n (onto (take i ns) (cons_number x o))
          go None o = refl
          go (Some x) None = refl
          go (Some x) (Some ys) = exactly_other n (take i ns ++ x ∷ ys) (λ e. omega (arith, length-append (take i ns) (x ∷ ys), length-take i ns, g.long))

pub ruleset heading = (heading_none, heading_more, heading_broken, heading_end, heading_rest)

-- what was read is a head, or none
module _ {known known' : Option (List ℕ)} (s : List ℕ) {count : ℕ} (b : Broken) {got : Option (Result ℕ Broken)} where
  pub head_line : (n : ℕ) (o : Option (List ℕ)) (r : Result (List ℕ) Broken) → GivesLine known known' s got → got ≡ Some (Ok n)
      → o ≡ exactly count (numbers_of (split comma (take n s))) → r ≡ ok_or o b → LineHead known known' count (Some r)
  head_line n None r g h e f = let l = rw h at g in rw f (record { given = tt; over = λ z. cc; broken = BadLine.other (take n s) l.given (sym e) })
  head_line n (Some ns) r g h e f = let l = rw h at g in rw f (record { given = (take n s, l.given, sym e); over = λ z. cc; broken = tt })

  pub head_cut : 0 < length s → GivesLine known known' s got → got ≡ Some (Err b) → LineHead known known' count (Some (Err b))
  head_cut h g i =
      let l = rw i at g in
      let n = l.broken.0 in
      let c = l.broken.1 in
      let m : length (take n s) ≡ n = length-take-le n s c.long in
      record {
        given = tt;
        over = λ z. cc;
        broken = BadLine.cut (take n s) c.given (omega (arith, c.some h)) (λ k j e. c.unended k (omega arith) (sym (get_or-take n s k 0 (omega arith)) ∙ e));
      }

  -- and so is a block
  module _ {size : ℕ} (h : length s ≡ size) where
    pub head_block : (n : ℕ) (o : Option (List ℕ)) (r : Result (List ℕ) Broken) → GivesBlock known known' s got → got ≡ Some (Ok n)
        → o ≡ exactly count (numbers_of (split comma (take n s))) → r ≡ ok_or o b → BlockHead known known' size count (Some r)
    head_block n None r g i e f =
        let l = rw i at g in
        let j : n ≡ index line_feed s = l.long.here ∙ rw zero-add in
        rw f (record { given = tt; over = λ z. cc; broken = BadBlock.other s h l.given (rw (← j) (sym e)) })
    head_block n (Some ns) r g i e f =
        let l = rw i at g in
        let j : n ≡ index line_feed s = l.long.here ∙ rw zero-add in
        rw f (record { given = (s, h, l.given, rw (← j) (sym e)); over = λ z. cc; broken = tt })

    pub block_cut : GivesBlock known known' s got → got ≡ Some (Err b) → BlockHead known known' size count (Some (Err b))
    block_cut g i =
        let l = rw i at g in
        let n = l.broken.0 in
        let c = l.broken.1 in
        let m : length (take n s) ≡ n = length-take-le n s (omega (arith, c.short)) in
        record { given = tt; over = λ z. cc; broken = BadBlock.cut (take n s) c.given (omega (arith, c.some)) (omega (arith, c.short)) }

-- ---------------------------------------------------------------- a buffer

pub filled : (l : List ℕ) (n : ℕ) → length l ≡ n → ((k : ℕ) → k < n → get_or l k 0 ≡ mark k) → l ≡ filling n
unfolding filling
filled l n h each = fill_by_all mark l n 0 h each

filling_length : (n : ℕ) → length (filling n) ≡ n
unfolding filling
filling_length n = length-map-range_with_len mark 0 n

pub filled_length : {l : List ℕ} {n : ℕ} → l ≡ filling n → length l ≡ n
filled_length {l} {n} e = ap length e ∙ filling_length n

filling_at : (n i : ℕ) → i < n → get_or (filling n) i 0 ≡ mark i
unfolding filling
filling_at n i h = get_or-map-range_with_len mark 0 n i i 0 h (omega arith)

module _ (l : List ℕ) (i : ℕ) where
  pub kept_end : length l ≤ i → kept l i ≡ true
  unfolding kept same
  kept_end h = rw (drop_all i l h, drop_all i (filling (length l)) (omega (arith, filling_length (length l))))

  -- what stands there and is to stand there, and what is behind them
  there : i < length l → kept l i ≡ (eqb (get_or l i 0) (mark i) && kept l (i + 1))
  unfolding kept same
  there h =
      let g : i < length (filling (length l)) = omega (arith, filling_length (length l)) in
      rw (add-one, drop-cons l i 0 h, drop-cons (filling (length l)) i 0 g, filling_at (length l) i h)

  pub kept_other : i < length l → (get_or l i 0 ≡ mark i → ⊥) → kept l i ≡ false
  kept_other h n = there h ∙ rw (ne_eqb (get_or l i 0) (mark i) n)

  pub kept_more : i < length l → get_or l i 0 ≡ mark i → kept l i ≡ kept l (i + 1)
  kept_more h e = there h ∙ rw (eq-eqb (get_or l i 0) (mark i) e)

-- ---------------------------------------------------------------- a refusal's line

-- a number below 10 ^ k has k digits at most
digits_length : (n k : ℕ) → n < 10 ^ suc k → length (digits n) ≤ suc k
digits_length = by_digits (λ (n : ℕ). (k : ℕ) → n < 10 ^ suc k → length (digits n) ≤ suc k)
    (λ n h k g. rw (digits_one n h) (omega arith))
    more
  where
    more : (n : ℕ) → 10 ≤ n → ((k : ℕ) → n / 10 < 10 ^ suc k → length (digits (n / 10)) ≤ suc k) → (k : ℕ) → n < 10 ^ suc k → length (digits n) ≤ suc k
    more n h ih zero g = absurd (omega arith)
    more n h ih (suc k) g =
        let l = length-append (digits (n / 10)) ((48 + n % 10) ∷ []) in
        let d = ih k (omega (arith, pow-suc 10 (suc k))) in
        rw (digits_more n h) (omega arith)

pieces : (n l : ℕ) → (((bytes "refused," ++ digits n) ++ comma ∷ []) ++ digits l) ++ line_feed ∷ [] ≡ refusal n l
unfolding refusal line fields
pieces n l =
    rw
    (append-nil (digits l), append_assoc (digits n ++ comma ∷ []) (digits l) (line_feed ∷ []), append_assoc (digits n) (comma ∷ []) (digits l ++ line_feed ∷ []), append_assoc (digits n) (comma ∷ digits l) (line_feed ∷ []))

refusal_length : (n l : ℕ) → n < 2 ^ 64 → l < 2 ^ 64 → length (refusal n l) ≤ 50
refusal_length n l h g =
    let a = digits_length n 19 (omega arith) in
    let b = digits_length l 19 (omega arith) in
    rw (← pieces n l) (simp length-append (omega arith))

pub printed : {w w1 w2 w3 w4 w5 : Writer} (n l : ℕ) → n < 2 ^ 64 → l < 2 ^ 64 → 64 ≤ length w.buf.now → w.at ≡ 0
    → Writes w (bytes "refused,") w1 → Writes w1 (digits n) w2 → Writes w2 (comma ∷ []) w3 → Writes w3 (digits l) w4 → Writes w4 (line_feed ∷ []) w5
    → Printed n l w5.buf.now w5.at
printed {w} {w5} n l h g k z a b c d e =
    let p : Put w.buf.now w.at (refusal n l) w5.buf.now w5.at = rw (pieces n l) at ((writes_then (writes_then (writes_then (writes_then a b) c) d) e).put) in
    let m = refusal_length n l h g in
    let i : w5.at ≡ length (refusal n l) = p.next ∙ rw (z, sat_below (0 + length (refusal n l)) (omega (arith, p.fits))) (omega arith) in
    let j : length w5.buf.now ≡ length w.buf.now = ap length p.text ∙ length-sets w.buf.now w.at (refusal n l) in
    let t : w5.buf.now ≡ refusal n l ++ drop (0 + length (refusal n l)) w.buf.now = p.text ∙ rw z (sets-eq (refusal n l) w.buf.now 0 (omega arith)) in
    record {
      here = rw (i, t) (take_at (refusal n l) (drop (0 + length (refusal n l)) w.buf.now) (length (refusal n l)) refl);
      within = omega arith;
      short = omega arith;
    }

-- ---------------------------------------------------------------- a case that holds

pub same_equal : (xs ys : List ℕ) → same xs ys ≡ true → xs ≡ ys
unfolding same
same_equal [] [] e = refl
same_equal [] (y ∷ ys) e = cc
same_equal (x ∷ xs) [] e = cc
same_equal (x ∷ xs) (y ∷ ys) e =
    let h = both_true (eqb x y) (same xs ys) e in
    rw (eqb-true x y h.0, same_equal xs ys h.1)

module _ {a : Answer} {e : List ℕ} where
  pub right_refused : {n l : ℕ} {b : List ℕ} {r : Bool} → Refuses n l e b r → refused n l ≡ a → Right a e r
  right_refused {n} {l} {b} p q =
      record { so = λ t. rw (← q) (same_equal (refusal n l) e (both_true (same (refusal n l) e) (kept b 0) (sym p.is ∙ t)).0) }

  pub right_accepted : {k : ℕ} {b : List ℕ} {r : Bool} → Accepts k e b r → accepted (take k b) ≡ a → Right a e r
  right_accepted {k} {b} p q =
      record {
        so = λ t.
            let h = both_true (leb k (length b) && same (take k b) e) (kept b k) (sym p.is ∙ t) in
            rw (← q) (same_equal (take k b) e (both_true (leb k (length b)) (same (take k b) e) h.0).1);
      }

  -- a further test changes nothing
  pub right_behind : {h r : Bool} → Right a e h → h ≡ true → Right a e r
  right_behind p t = record { so = λ g. p.so t }

  -- a case that fails says nothing
  pub right_not : Right a e false
  right_not = record { so = λ t. absurd (let z : ◌≡◌ {A = ℕ} 0 1 = cc in omega arith) }

-- ---------------------------------------------------------------- a part that is lent

module _ {F : Type 0} {g : Once F (MutBor (List ℕ) × Unit {0}) (Bool × (MutBor (List ℕ) × Unit {0}))} {f : F} where
  pub within_so : (room : ℕ) (part part' : List ℕ) (r : Bool) → length part ≡ room → FnOnceReturnsAtMut g f part true part' → HoldsWithin g f room r
  within_so room part part' r n h = record { so = λ t. (part, part', n, h) }

-- ---------------------------------------------------------------- an answer judged

-- what an answer shows, of a length and of a refusal, is what is judged
pub right_judged : {R : Type 0} (number_of : R → ℕ) (show : Result ℕ (Refused R) → List ℕ → Answer) (o : Result ℕ (Refused R)) (b : List ℕ) {a : Answer} {e : List ℕ} {r : Bool}
    → ((n : ℕ) → show (Ok n) b ≡ accepted (take n b)) → ((x : Refused R) → show (Err x) b ≡ refused (number_of x.refusal) x.line)
    → Judges number_of o e b r → show o b ≡ a → Right a e r
right_judged number_of show (Ok n) b k h j q = right_accepted j (sym (k n) ∙ q)
right_judged number_of show (Err x) b k h j q = right_refused j (sym (h x) ∙ q)
