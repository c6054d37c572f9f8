-- The tests of a line, from number to number.
use mathlib.Core.Path.{◌≡◌, refl, sym, ap, ◌∙◌}
use mathlib.Core.Bool.{Bool, true, false, ◌&&◌}
use mathlib.Core.List.{List, ◌∷◌, ◌++◌, []}
use Prim.Native.Nat.{ℕ, zero, suc, ◌+◌, ◌-◌, ◌<◌, min}
use native.Mathlib.Omega.{arith}
use native.Mathlib.Nat.{zero-add, add-zero}
use lib.ListN.{length, get_or, take, drop, length-take, length-drop}
use Rattle.std.proofs.lemmas.List.{get_or-take, get_or-drop}
use lib.Seq.{take-length}
use Rattle.tables.specs.Tables.{tab, row_of, run, places_from}
use Rattle.tables.proofs.Laws.{length_run, get_d_tab_in}
use Rattle.fields.proofs.Tabs.{tab_here, tab_more, tab_same}
use Rattle.spec.specs.Forms.{Field, place, node, Arg, values}
use Rattle.spec.specs.Read.{all}
use Rattle.line_forms.specs.Classes.{class_at, arg_at, form_arg, args_of}
use Rattle.line_forms.proofs.FormLaws.{class_later}
use Rattle.line_checks.specs.Rows.{section, marked, used_in, nodes_from, MarkAt, Few}
use Rattle.line_checks.specs.Steps.{arg_in, args_in, Alike, Marking}
use Rattle.line_forms.specs.declared.LineKind.{LineKind}
use Rattle.line_forms.specs.declared.Form.{Form}
use Rattle.tables.specs.declared.Counts.{Counts}
use Rattle.line_checks.proofs.RowLaws.{section_same}
use Rattle.line_checks.proofs.MeasureLaws.{run_taken}

-- ---------------------------------------------------------------- classes

-- the first four numbers, or all where there are fewer
pub first_arg : (k : LineKind) (w : ℕ) (xs part : List ℕ) (n i : ℕ) (c : Field) → part ≡ take n xs → i < length part → c ≡ class_at k w i → arg_in k w xs i ≡ record { class = c; value = get_or part i 0 }
unfolding arg_at
first_arg k w xs part n i c q h e =
    let l : i < n = omega (arith, rw q at h, length-take n xs) in
    rw (e, q, get_or-take n xs i 0 l)

pub first_in : (xs part : List ℕ) (n i : ℕ) → part ≡ take n xs → i < length part → i < length xs
first_in xs part n i q h = omega (arith, rw q at h, length-take n xs)

-- those behind them are of one class
pub rest_arg : (k : LineKind) (w : ℕ) (xs part : List ℕ) (n i : ℕ) (c : Field) → part ≡ drop n xs → n ≡ min (length xs) 4 → i < length part → c ≡ class_at k w 4
    → arg_in k w xs (4 + i) ≡ record { class = c; value = get_or part i 0 }
unfolding arg_at
rest_arg k w xs part n i c q m h e =
    let four : n ≡ 4 = omega (arith, m, rw (q, length-drop n xs) at h) in
    rw (q, four, class_later k w (4 + i) (omega arith), ← e, get_or-drop 4 xs i 0)

pub rest_in : (xs part : List ℕ) (n i : ℕ) → part ≡ drop n xs → n ≡ min (length xs) 4 → i < length part → 4 + i < length xs
rest_in xs part n i q m h = omega (arith, m, rw q at h, length-drop n xs)

-- ---------------------------------------------------------------- numbers one by one

pub and_assoc : (a b c : Bool) → (a && (b && c)) ≡ ((a && b) && c)
and_assoc true b c = refl
and_assoc false b c = refl

all_both : (p : Arg → Bool) (xs ys : List Arg) → all p (xs ++ ys) ≡ (all p xs && all p ys)
all_both p [] ys = refl
all_both p (x ∷ xs) ys = rw (all_both p xs ys) (and_assoc (p x) (all p xs) (all p ys))

module _ (f : ℕ → Arg) where
  tab_both : (j i n : ℕ) → tab f j (i + n) ≡ tab f j i ++ tab f (j + i) n
  unfolding tab
  tab_both j zero n = rw (zero-add, add-zero)
  tab_both j (suc i) n = let e : suc i + n ≡ suc (i + n) = omega arith in let g : suc j + i ≡ j + suc i = omega arith in rw (e, tab, tab_both (suc j) i n, g)

  -- number i, and those behind it
  pub tab_from : (i n : ℕ) → i < n → tab f 0 n ≡ tab f 0 i ++ (f i ∷ tab f (i + 1) (n - (i + 1)))
  tab_from i n h =
      let e : i + (n - i) ≡ n = omega arith in
      let s : tab f 0 n ≡ tab f 0 i ++ tab f i (n - i) = rw (e, zero-add) at (tab_both 0 i (n - i)) in
      s ∙ rw (tab_here f i n h)

-- no number yet
pub all_none : (p : Arg → Bool) (f : ℕ → Arg) → true ≡ all p (tab f 0 0)
unfolding tab
all_none p f = refl

-- a test of one number more
pub all_more : (p : Arg → Bool) (f : ℕ → Arg) (n m : ℕ) (a : Arg) (b t : Bool) → m ≡ n + 1 → b ≡ all p (tab f 0 n) → f n ≡ a → t ≡ p a → (b && t) ≡ all p (tab f 0 m)
all_more p f n m a b t z e q g =
    rw (e, g, ← q, z, tab_more f 0 n, all_both p (tab f 0 n) (f (0 + n) ∷ []), zero-add) (by (all p (tab f 0 n)) (p (f n)))
  where
    by : (a b : Bool) → (a && b) ≡ (a && (b && true))
    by true true = refl
    by true false = refl
    by false b = refl

-- ---------------------------------------------------------------- a line's numbers as they are lent

-- those of a form, behind the first `used` of the lists
pub args_run : (f : Form) (ls : List ℕ) (used : ℕ) → args_of f ls used ≡ args_in f.kind f.word (run ls used f.count)
unfolding args_of args_in arg_at run
args_run f ls used =
    rw (length_run ls used f.count)
    (tab_same (form_arg f ls used) (arg_in f.kind f.word (run ls used f.count)) 0 f.count (λ i l h. rw (get_d_tab_in (λ j. get_or ls j 0) 0 used f.count i (omega arith))))

numbers_all : (xs : List ℕ) → tab (λ i. get_or xs i 0) 0 (length xs) ≡ xs
unfolding run
numbers_all xs = sym (run_taken xs 0 (length xs) (omega arith)) ∙ take-length xs

-- and without their classes
values_tab : (k : LineKind) (w : ℕ) (xs : List ℕ) (j n : ℕ) → values (tab (arg_in k w xs) j n) ≡ tab (λ i. get_or xs i 0) j n
unfolding tab arg_at
values_tab k w xs j zero = refl
values_tab k w xs j (suc n) = rw (values_tab k w xs (suc j) n)

pub values_in : (k : LineKind) (w : ℕ) (xs : List ℕ) → values (args_in k w xs) ≡ xs
unfolding args_in
values_in k w xs = values_tab k w xs 0 (length xs) ∙ numbers_all xs

-- ---------------------------------------------------------------- marks

pub alike_same : (u : List ℕ) → Alike u u
alike_same u = record { cells = λ q j a b. refl; rows = λ base k h. refl }

pub alike_then : (u t v : List ℕ) → Alike u t → Alike t v → Alike u v
alike_then u t v a b = record { cells = λ q j n h. b.cells q j n h ∙ a.cells q j n h; rows = λ base k h. b.rows base k h ∙ a.rows base k h }

-- rows of another section
apart : (u t : List ℕ) (base n k base' n' : ℕ) (r : Bool) → MarkAt u t base n k r → ((i : ℕ) → i < n' → k < n → row_of base' i ≡ row_of base k → ⊥)
    → section marked t base' n' ≡ section marked u base' n'
apart u t base n k base' n' r m h = section_same marked u t base' n' (λ i l. ap marked (m.others (row_of base' i) (λ g e. h i l g e)))

module _ (u t : List ℕ) (c : Counts) (few : Few c) (x : ℕ) (r : Bool) where
  pub mark_place : MarkAt u t places_from c.places x r → Marking u t c place x r
  unfolding used_in
  mark_place m =
      record {
        answer = m.answer;
        marks = rw (m.marks, apart u t places_from c.places x nodes_from c.nodes r m (λ i l g e. omega arith));
        alike = record { cells = m.cells; rows = λ base k h. m.others (row_of base k) (λ g e. omega arith) };
      }

  pub mark_node : MarkAt u t nodes_from c.nodes x r → Marking u t c node x r
  unfolding used_in
  mark_node m =
      record {
        answer = m.answer;
        marks = rw (m.marks, apart u t nodes_from c.nodes x places_from c.places r m (λ i l g e. omega arith));
        alike = record { cells = m.cells; rows = λ base k h. m.others (row_of base k) (λ g e. omega arith) };
      }
