-- Text put piece by piece; a value's lines by its records; the marks of the storages that are narrowed.
use Rattle.std.specs.Prelude.{◌≡◌, refl, ℕ, zero, suc, ◌+◌, ◌-◌, ◌≤◌, ◌<◌, ◌⊎◌, Bool, true, false, ◌||◌, List, ◌∷◌, ◌++◌, [], length, drop, set, get_or, eqb}
use Rattle.std.proofs.Common.{sym, ap, subst, ◌∙◌, arith, append_assoc, append-nil, inl, inr, length-append, length-drop, get_or-drop, drop-drop, drop_at}
use Rattle.std.proofs.lemmas.List.{get_or_append_left, get_or_past}
use borrow.Author.Tests.{eqb-true, eqb-false, ne_eqb}
use lib.ListN.{length-set}
use lib.Seq.{get_or-set_same, get_or-set_other}
use Rattle.spec.specs.Lir.{Value, value, Repr, unit, bit_value, bytes_value, aggregate, Values, no_values, ◌∷ᵛ◌}
use Rattle.spec.specs.Print.{each, narrowed_line, value_lines, repr_lines, values_lines, parts}
use Rattle.spec.specs.Answer.{member, ascending}
use Rattle.text.specs.Put.{last}
use Rattle.text.specs.Writes.{Writes, writes_then, writes_none}
use Rattle.text.specs.declared.writer.Writer.{Writer}
use Rattle.emission.specs.Appends.{each_append, each_one}
use Rattle.values.specs.declared.Value.{Value as Val}
use Rattle.values.specs.Heads.{Head, root, parts_of, repr_parts_of, preorders, shape_of, count, head_of, Sound_value}
use Rattle.values.specs.Left.{marked}
use Rattle.values.specs.Stack.{value_at}
use Rattle.parts.specs.Records.{heads_in, AreRecords, first_record, heads_none}
use Rattle.printing.specs.Lines.{shape_line, head_line, head_lines}
use Rattle.printing.specs.Marks.{unless, marked_by, marks_from, narrowed_lines}

-- ---------------------------------------------------------------- piece by piece

-- what is written of a whole text, and what is left of it
pub record Going (w : Writer) (whole : List ℕ) (w1 : Writer) (rest : List ℕ) : Type 0 where
  pub printed : List ℕ
  pub writes : Writes w printed w1
  pub is : printed ++ rest ≡ whole

pub going_none : (w : Writer) (whole : List ℕ) → length w.buf.now ≤ last → w.at ≤ last → Going w whole w whole
going_none w whole h k = record { printed = []; writes = writes_none w h k; is = refl }

pub going_first : {w w1 : Writer} {t : List ℕ} (rest : List ℕ) → Writes w t w1 → Going w (t ++ rest) w1 rest
going_first {t = t} rest a = record { printed = t; writes = a; is = refl }

pub going_more : {w : Writer} {whole : List ℕ} {w1 : Writer} {rest x : List ℕ} {w2 : Writer} (rest1 : List ℕ)
    → Going w whole w1 rest → rest ≡ x ++ rest1 → Writes w1 x w2 → Going w whole w2 rest1
going_more {x = x} rest1 g e a =
    record { printed = g.printed ++ x; writes = writes_then g.writes a; is = append_assoc g.printed x rest1 ∙ ap (λ (z : List ℕ). g.printed ++ z) (sym e) ∙ g.is }

pub going_same : {w : Writer} {whole : List ℕ} {w1 : Writer} {rest rest1 : List ℕ} → Going w whole w1 rest → rest ≡ rest1 → Going w whole w1 rest1
going_same g e = record { printed = g.printed; writes = g.writes; is = ap (λ (z : List ℕ). g.printed ++ z) (sym e) ∙ g.is }

pub going_all : {w : Writer} {whole : List ℕ} {w1 : Writer} {rest : List ℕ} → Going w whole w1 rest → rest ≡ [] → Writes w whole w1
going_all {w} {whole} {w1} g e = rw (sym (append-nil g.printed) ∙ ap (λ (z : List ℕ). g.printed ++ z) (sym e) ∙ g.is) at g.writes

-- ---------------------------------------------------------------- the records of a value

-- a value's lines are written up to those of the records ws
pub record Printing (w : Writer) (whole : List ℕ) (w1 : Writer) (ws : List ℕ) : Type 0 where
  pub records : AreRecords ws
  pub going : Going w whole w1 (head_lines (heads_in ws))

pub printing_first : {w w1 : Writer} (h : Head) {ws : List ℕ} → AreRecords ws → Writes w (head_line h) w1 → Printing w (head_lines (h ∷ heads_in ws)) w1 ws
unfolding each
printing_first h {ws} r a = record { records = r; going = going_first (head_lines (heads_in ws)) a }

-- the next of them
module _ {ws : List ℕ} (next after : List ℕ) (r : AreRecords ws) (e : ws ≡ next ++ after) (n : length next ≡ 8) where
  some : 0 < length ws
  some = let k : length ws ≡ length (next ++ after) = ap length e in omega (arith, length-append next after)

  word_is : (i : ℕ) → i < 8 → get_or ws i 0 ≡ get_or next i 0
  word_is i h = ap (λ (z : List ℕ). get_or z i 0) e ∙ get_or_append_left next after 0 i (omega arith)

  first_is : value_at ws 0 ≡ value_at next 0
  unfolding value_at
  first_is =
      rw (
        word_is 0 (omega arith),
        word_is 1 (omega arith),
        word_is 2 (omega arith),
        word_is 3 (omega arith),
        word_is 4 (omega arith),
        word_is 5 (omega arith),
        word_is 6 (omega arith),
      )

  others_are : drop 8 ws ≡ after
  others_are = ap (λ (z : List ℕ). drop 8 z) e ∙ drop_at next after 8 n

  pub next_sound : Sound_value (value_at next 0)
  next_sound = subst (λ (z : Val). Sound_value z) first_is (first_record r some).sound

  pub printing_more : {w : Writer} {whole : List ℕ} {w1 w2 : Writer} → Printing w whole w1 ws → Writes w1 (head_line (head_of (value_at next 0))) w2 → Printing w whole w2 after
  unfolding each
  printing_more p a =
      let f = first_record r some in
      let heads : heads_in ws ≡ head_of (value_at next 0) ∷ heads_in after =
      f.heads ∙ ap (λ (z : Val). head_of z ∷ heads_in (drop 8 ws)) first_is ∙ ap (λ (z : List ℕ). head_of (value_at next 0) ∷ heads_in z) others_are in
      record {
        records = subst (λ (z : List ℕ). AreRecords z) others_are f.rest;
        going = going_more (head_lines (heads_in after)) p.going (ap head_lines heads) a;
      }

pub printing_all : {w : Writer} {whole : List ℕ} {w1 : Writer} {ws : List ℕ} → Printing w whole w1 ws → length ws < 8 → Writes w whole w1
unfolding each
printing_all p h = going_all p.going (ap head_lines (heads_none p.records h))

-- ---------------------------------------------------------------- the tree that they stand for

counted : (vs : Values) → parts vs ≡ count vs
unfolding parts
counted no_values = refl
counted (v ∷ᵛ vs) = ap suc (counted vs)

mutual
  unfolding value_lines each

  pub value_text : (v : Value) → head_lines (root v ∷ parts_of v) ≡ value_lines v
  value_text (value ty r) = repr_text ty r

  repr_text : (ty : ℕ) (r : Repr) → shape_line ty (shape_of r) ++ head_lines (repr_parts_of r) ≡ repr_lines ty r
  repr_text ty unit = append-nil (repr_lines ty unit)
  repr_text ty (bit_value b) = append-nil (repr_lines ty (bit_value b))
  repr_text ty (bytes_value bs) = append-nil (repr_lines ty (bytes_value bs))
  repr_text ty (aggregate vs) = rw (counted vs, values_text vs)

  values_text : (vs : Values) → head_lines (preorders vs) ≡ values_lines vs
  values_text no_values = refl
  values_text (v ∷ᵛ vs) =
      rw (each_append head_line (parts_of v) (preorders vs), ← (append_assoc (head_line (root v)) (head_lines (parts_of v)) (head_lines (preorders vs))), value_text v, values_text vs)

-- the heads of a value that was lowered
pub value_printed : (x : Val) (hs : List Head) (v : Value) → head_of x ≡ root v → hs ≡ parts_of v → head_lines (head_of x ∷ hs) ≡ value_lines v
value_printed x hs v e f = ap (λ (z : Head). head_lines (z ∷ hs)) e ∙ ap (λ (z : List Head). head_lines (root v ∷ z)) f ∙ value_text v

-- ---------------------------------------------------------------- marks

-- the lines of the marks of the first k of n storages are written, and the marks ms are left
pub record Marking (w : Writer) (n : ℕ) (marks : List ℕ) (w1 : Writer) (k : ℕ) (ms : List ℕ) : Type 0 where
  pub left : ms ≡ drop k marks
  pub going : Going w (narrowed_lines (marks_from n 0 marks)) w1 (narrowed_lines (marks_from (n - k) k marks))

pub marking_none : (w : Writer) (n : ℕ) (marks : List ℕ) → length w.buf.now ≤ last → w.at ≤ last → Marking w n marks w 0 marks
marking_none w n marks h g =
    let e : n - 0 ≡ n = omega arith in
    record { left = refl; going = going_same (going_none w (narrowed_lines (marks_from n 0 marks)) h g) (ap (λ (z : ℕ). narrowed_lines (marks_from z 0 marks)) (sym e)) }

module _ {w : Writer} {n : ℕ} {marks : List ℕ} {w1 : Writer} {k : ℕ} {ms : List ℕ} {mark : ℕ} {after : List ℕ} (m : Marking w n marks w1 k ms) (e : ms ≡ mark ∷ after) (h : k < n) where
  mark_is : get_or marks k 0 ≡ mark
  mark_is =
      let f : drop k marks ≡ mark ∷ after = sym m.left ∙ e in
      let n0 : k + 0 ≡ k = omega arith in
      ap (λ (z : ℕ). get_or marks z 0) (sym n0) ∙ sym (get_or-drop k marks 0 0) ∙ ap (λ (z : List ℕ). get_or z 0 0) f

  others_left : after ≡ drop (k + 1) marks
  others_left = ap (λ (z : List ℕ). drop 1 z) (sym e ∙ m.left) ∙ drop-drop 1 k marks

  lines_cons : narrowed_lines (marks_from (n - k) k marks) ≡ narrowed_lines (marked_by mark k) ++ narrowed_lines (marks_from (n - (k + 1)) (k + 1) marks)
  unfolding marks_from
  lines_cons =
      let d : n - k ≡ suc (n - (k + 1)) = omega arith in
      let f : suc k ≡ k + 1 = omega arith in
      ap (λ (z : ℕ). narrowed_lines (marks_from z k marks)) d ∙ each_append narrowed_line (marked_by (get_or marks k 0) k) (marks_from (n - (k + 1)) (suc k) marks)
      ∙ ap (λ (z : ℕ). narrowed_lines (marked_by (get_or marks k 0) k) ++ narrowed_lines (marks_from (n - (k + 1)) z marks)) f
      ∙ ap (λ (z : ℕ). narrowed_lines (marked_by z k) ++ narrowed_lines (marks_from (n - (k + 1)) (k + 1) marks)) mark_is

  -- a storage that is marked
  pub marking_more : {w2 : Writer} → (mark ≡ 0 → ⊥) → Writes w1 (narrowed_line k) w2 → Marking w n marks w2 (k + 1) after
  marking_more g a =
      let one : narrowed_lines (marked_by mark k) ≡ narrowed_line k = ap (λ (b : Bool). narrowed_lines (unless b k)) (ne_eqb mark 0 g) ∙ each_one narrowed_line k in
      record { left = others_left; going = going_more _ m.going (lines_cons ∙ ap (λ (z : List ℕ). z ++ narrowed_lines (marks_from (n - (k + 1)) (k + 1) marks)) one) a }

  -- one that is not
  pub marking_same : mark ≡ 0 → Marking w n marks w1 (k + 1) after
  unfolding each
  marking_same g = record { left = others_left; going = going_same m.going (lines_cons ∙ ap (λ (z : ℕ). narrowed_lines (marked_by z k) ++ narrowed_lines (marks_from (n - (k + 1)) (k + 1) marks)) g) }

marks_past : (n k : ℕ) (marks : List ℕ) → length marks ≤ k → marks_from n k marks ≡ []
unfolding marks_from
marks_past zero k marks h = refl
marks_past (suc n) k marks h = rw (get_or_past marks k 0 h, marks_past n (suc k) marks (omega arith))

pub marking_all : {w : Writer} {n : ℕ} {marks : List ℕ} {w1 : Writer} {k : ℕ} {ms : List ℕ} → Marking w n marks w1 k ms → (n ≤ k) ⊎ (length ms ≡ 0) → Writes w (narrowed_lines (marks_from n 0 marks)) w1
unfolding marks_from each
marking_all {n = n} {marks} {k = k} m (inl h) = let d : n - k ≡ 0 = omega arith in going_all m.going (ap (λ (z : ℕ). narrowed_lines (marks_from z k marks)) d)
marking_all {n = n} {marks} {k = k} {ms} m (inr h) =
    let e : length ms ≡ length (drop k marks) = ap length m.left in
    going_all m.going (ap narrowed_lines (marks_past (n - k) k marks (omega (arith, length-drop k marks))))

-- a mark that is set stays
still_marked : (ns l : List ℕ) (k : ℕ) → get_or l k 0 ≡ 1 → get_or (marked l ns) k 0 ≡ 1
unfolding marked
still_marked [] l k e = e
still_marked (n ∷ ns) l k e = still_marked ns (set l n 1) k (by (eqb k n) refl)
  where
    inside : (l : List ℕ) (k : ℕ) → get_or l k 0 ≡ 1 → k < length l
    inside [] k e = absurd (let z : ◌≡◌ {A = ℕ} 0 1 = e in omega arith)
    inside (x ∷ l) zero e = omega arith
    inside (x ∷ l) (suc k) e = let h = inside l k e in omega arith

    by : (b : Bool) → eqb k n ≡ b → get_or (set l n 1) k 0 ≡ 1
    by true g = rw (← (eqb-true k n g)) (get_or-set_same l k 1 0 (inside l k e))
    by false g = get_or-set_other l n k 1 0 (eqb-false k n g) ∙ e

abbrev when : Bool → ℕ → List ℕ
when true k = k ∷ []
when false k = []

-- a mark is set where the storage is a member
marked_member : (ns l : List ℕ) (k : ℕ) → k < length l → get_or l k 0 ≡ 0 → marked_by (get_or (marked l ns) k 0) k ≡ when (member k ns) k
unfolding marked member
marked_member [] l k h e = rw e
marked_member (n ∷ ns) l k h e = by (eqb k n) refl (marked_member ns (set l n 1) k (rw (length-set l n 1) h))
  where
    by : (b : Bool) → eqb k n ≡ b → (get_or (set l n 1) k 0 ≡ 0 → marked_by (get_or (marked (set l n 1) ns) k 0) k ≡ when (member k ns) k)
        → marked_by (get_or (marked (set l n 1) ns) k 0) k ≡ when (b || member k ns) k
    by true g later = rw (still_marked ns (set l n 1) k (rw (← (eqb-true k n g)) (get_or-set_same l k 1 0 h)))
    by false g later = later (get_or-set_other l n k 1 0 (eqb-false k n g) ∙ e)

ascending_by : (b : Bool) (k : ℕ) (rest : List ℕ) → when b k ++ rest ≡ elim b as (λ _. List ℕ) [ true ↦ k ∷ rest | false ↦ rest ]
ascending_by true k rest = refl
ascending_by false k rest = refl

-- the storages that a lowering narrows, where none was marked before it
pub marks_ascending : (n k : ℕ) (l ns : List ℕ) → k + n ≤ length l → ((i : ℕ) → get_or l i 0 ≡ 0) → marks_from n k (marked l ns) ≡ ascending n k ns
unfolding marks_from ascending
marks_ascending zero k l ns h e = refl
marks_ascending (suc n) k l ns h e =
    ap (λ (z : List ℕ). z ++ marks_from n (suc k) (marked l ns)) (marked_member ns l k (omega arith) (e k))
    ∙ ap (λ (z : List ℕ). when (member k ns) k ++ z) (marks_ascending n (suc k) l ns (omega arith) e) ∙ ascending_by (member k ns) k (ascending n (suc k) ns)
