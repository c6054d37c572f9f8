-- What the look-ups into a ticket's tables give, by the words.
use mathlib.Core.Path.{◌≡◌, refl, sym, ap, subst, ◌∙◌}
use mathlib.Core.Bool.{Bool, true, false}
use mathlib.Core.List.{List, ◌∷◌, ◌++◌, []}
use Rattle.std.specs.Prelude.{None, Some}
use Rattle.std.specs.Option.{option_map}
use Prim.Native.Nat.{ℕ, zero, suc, ◌+◌, ◌-◌, ◌*◌, ◌≤◌, ◌<◌}
use native.Mathlib.Omega.{arith}
use lib.ListN.{length, get_or, take, get_or-eq_default}
use lib.Dec.{ltb}
use borrow.Author.Tests.{lt-ltb, le-ltb, ltb-true, ltb-false}
use Rattle.spec.specs.Hir.{At, Expr, Place, null_pointer, variable}
use Rattle.spec.specs.Forms.{type_rules, place_rules, node_rules}
use Rattle.spec.specs.Read.{behind_type}
use Rattle.spec.specs.Ticket.{TypeWord, t_unit, t_bool, t_bits, t_float, t_pointer, t_array, t_opaque, no_type, no_storage_line, no_place, no_node, type_at, storage_at, place_line_at, node_at, arg, expr_of, place_of, expr_at, place_at, nowhere}
use Rattle.spec.specs.Operands.{nth}
use Rattle.spec.specs.Allocation.{type_size}
use Rattle.spec.specs.Readable.{Counted, TypesRight, Readable}
use Rattle.tables.specs.declared.Counts.{Counts}
use Rattle.tables.specs.declared.TypeKind.{TypeKind}
use Rattle.tables.specs.declared.NodeKind.{NodeKind}
use Rattle.tables.specs.declared.PlaceKind.{PlaceKind}
use Rattle.tables.specs.Tables.{pick, tab, row_of, cell, run, numbers_at, storages_from, variables_from, statics_from, places_from, nodes_from, type_cell, type_word_by, type_kinds, type_kind, type_kind_in, type_kind_at, type_word, type_args, size_at, weight_at, type_line, storage_line, owner_at, placed_line, placed_of, placed_at, placed_list, variables_of, statics_of, place_word_by, place_kinds, place_kind, place_kind_at, place_word, place_args, place_line, node_cell, node_word_by, node_kinds, node_kind, node_kind_in, node_kind_at, node_word, node_args, node_line, behind, tables_of, tree_of, place_by_kind, at_of, Sized}

-- ---------------------------------------------------------------- lists by a function

module _ {A : Type 0} (f : ℕ → A) where
  get_d_tab : (d : A) (j n k : ℕ) → (n ≤ k → f (j + k) ≡ d) → get_or (tab f j n) k d ≡ f (j + k)
  unfolding tab
  get_d_tab d j zero k h = sym (h (omega arith))
  get_d_tab d j (suc n) zero h = let e : j + 0 ≡ j = omega arith in rw e
  get_d_tab d j (suc n) (suc k) h =
      let e : suc j + k ≡ j + suc k = omega arith in
      rw (← e) (get_d_tab d (suc j) n k (λ (g : n ≤ k). rw e (h (omega arith))))

  -- what f gives past the end is the default
  pub get_d_tab0 : (d : A) (n k : ℕ) → (n ≤ k → f k ≡ d) → get_or (tab f 0 n) k d ≡ f k
  get_d_tab0 d n k h = let e : 0 + k ≡ k = omega arith in rw e at (get_d_tab d 0 n k (λ (g : n ≤ k). rw e (h g)))

  pub get_d_tab_in : (d : A) (j n k : ℕ) → k < n → get_or (tab f j n) k d ≡ f (j + k)
  get_d_tab_in d j n k h = get_d_tab d j n k (λ (g : n ≤ k). absurd (omega arith))

  pub get_d_tab_out : (d : A) (j n k : ℕ) → n ≤ k → get_or (tab f j n) k d ≡ d
  unfolding tab
  get_d_tab_out d j zero k h = refl
  get_d_tab_out d j (suc n) zero h = absurd (omega arith)
  get_d_tab_out d j (suc n) (suc k) h = get_d_tab_out d (suc j) n k (omega arith)

  pub length_tab : (j n : ℕ) → length (tab f j n) ≡ n
  unfolding tab
  length_tab j zero = refl
  length_tab j (suc n) = ap suc (length_tab (suc j) n)

  pub nth_tab_in : (j n k : ℕ) → k < n → nth (tab f j n) k ≡ Some (f (j + k))
  unfolding tab nth
  nth_tab_in j zero k h = absurd (omega arith)
  nth_tab_in j (suc n) zero h = let e : j + 0 ≡ j = omega arith in rw e
  nth_tab_in j (suc n) (suc k) h = let e : suc j + k ≡ j + suc k = omega arith in rw (← e) (nth_tab_in (suc j) n k (omega arith))

  pub nth_tab_out : (j n k : ℕ) → n ≤ k → nth (tab f j n) k ≡ None
  unfolding tab nth
  nth_tab_out j zero k h = refl
  nth_tab_out j (suc n) zero h = absurd (omega arith)
  nth_tab_out j (suc n) (suc k) h = nth_tab_out (suc j) n k (omega arith)

  pub tab_more : (j n : ℕ) → tab f j (suc n) ≡ tab f j n ++ f (j + n) ∷ []
  unfolding tab
  tab_more j zero = let e : j + 0 ≡ j = omega arith in rw e
  tab_more j (suc n) = let e : suc j + n ≡ j + suc n = omega arith in rw (← e) (ap (λ l. f j ∷ l) (tab_more (suc j) n))

  pub tab_same : (g : ℕ → A) (j n : ℕ) → ((k : ℕ) → k < n → f (j + k) ≡ g (j + k)) → tab f j n ≡ tab g j n
  unfolding tab
  tab_same g j zero h = refl
  tab_same g j (suc n) h =
      let z : j + 0 ≡ j = omega arith in
      let below = tab_same g (suc j) n (λ k l. let e : suc j + k ≡ j + suc k = omega arith in rw e (h (suc k) (omega arith))) in
      rw (below, rw z at (h 0 (omega arith)))

  pub take_tab : (j n k : ℕ) → k ≤ n → take k (tab f j n) ≡ tab f j k
  unfolding tab
  take_tab j n zero h = refl
  take_tab j zero (suc k) h = absurd (omega arith)
  take_tab j (suc n) (suc k) h = ap (λ l. f j ∷ l) (take_tab (suc j) n k (omega arith))

-- ---------------------------------------------------------------- runs of the lists

module _ (lists : List ℕ) where
  pub run_here : (a n : ℕ) → (n ≡ 0 → ⊥) → run lists a n ≡ get_or lists a 0 ∷ run lists (a + 1) (n - 1)
  unfolding run tab
  run_here a zero h = absurd (h refl)
  run_here a (suc n) h = let e : suc n - 1 ≡ n = omega arith in let g : a + 1 ≡ suc a = omega arith in rw (e, g)

  pub run_none : (a n : ℕ) → n ≡ 0 → run lists a n ≡ []
  unfolding run tab
  run_none a n e = rw e

  pub length_run : (a n : ℕ) → length (run lists a n) ≡ n
  unfolding run
  length_run a n = length_tab (λ i. get_or lists i 0) a n

  pub nth_run : (a n i : ℕ) → i < n → nth (run lists a n) i ≡ Some (get_or lists (a + i) 0)
  unfolding run
  nth_run a n i h = nth_tab_in (λ i. get_or lists i 0) a n i h

  pub nth_run_out : (a n i : ℕ) → n ≤ i → nth (run lists a n) i ≡ None
  unfolding run
  nth_run_out a n i h = nth_tab_out (λ i. get_or lists i 0) a n i h

  pub take_run : (a n i : ℕ) → i ≤ n → take i (run lists a n) ≡ run lists a i
  unfolding run
  take_run a n i h = take_tab (λ i. get_or lists i 0) a n i h

  pub run_more : (a n : ℕ) → run lists a (suc n) ≡ run lists a n ++ get_or lists (a + n) 0 ∷ []
  unfolding run
  run_more a n = tab_more (λ i. get_or lists i 0) a n

  pub arg_in : (a n i : ℕ) → i < n → arg (run lists a n) i ≡ get_or lists (a + i) 0
  unfolding run
  arg_in a n i h = get_d_tab_in (λ i. get_or lists i 0) 0 a n i h

  pub arg_out : (a n i : ℕ) → n ≤ i → arg (run lists a n) i ≡ 0
  unfolding run
  arg_out a n i h = get_d_tab_out (λ i. get_or lists i 0) 0 a n i h

  -- past the end every run is one of zeros
  run_past : (a b n : ℕ) → length lists ≤ a → length lists ≤ b → run lists a n ≡ run lists b n
  unfolding run tab
  run_past a b zero h g = refl
  run_past a b (suc n) h g =
      rw (get_or-eq_default lists 0 {n = a} h, get_or-eq_default lists 0 {n = b} g)
      (ap (λ l. 0 ∷ l) (run_past (suc a) (suc b) n (omega arith) (omega arith)))

  behind_by : (a n : ℕ) (t : Bool) → ltb a (length lists) ≡ t → run lists (suc a) n ≡ run lists (pick t (a + 1) a) n
  behind_by a n true e = let g : a + 1 ≡ suc a = omega arith in rw g
  behind_by a n false e = let h = ltb-false a (length lists) e in run_past (suc a) a n (omega arith) h

  -- a node's numbers behind its TYPE
  pub behind_run : (a n : ℕ) → behind_type (run lists a n) ≡ run lists (behind lists a) (n - 1)
  unfolding run tab behind
  behind_run a zero = refl
  behind_run a (suc n) = let e : suc n - 1 ≡ n = omega arith in rw e (behind_by a n (ltb a (length lists)) refl)

-- ---------------------------------------------------------------- cells

module _ (ws : List ℕ) (base count k j d : ℕ) where
  pub cell_in : k < count → cell ws base count k j d ≡ get_or ws (row_of base k * 6 + j) 0
  unfolding cell
  cell_in h = rw (lt-ltb k count h)

  pub cell_out : count ≤ k → cell ws base count k j d ≡ d
  unfolding cell
  cell_out h = rw (le-ltb k count h)

pub numbers_out : (ws lists : List ℕ) (base count k : ℕ) → count ≤ k → numbers_at ws lists base count k ≡ []
unfolding numbers_at run tab
numbers_out ws lists base count k h = rw (cell_out ws base count k 2 0 h)

-- ---------------------------------------------------------------- kinds, by a word's number

-- a number that is none of the first n + 1
pub past : {n w : ℕ} → n ≤ w → (w ≡ n → ⊥) → suc n ≤ w
past h e = omega arith

pub type_kind_past : (w s n a b : ℕ) → 9 ≤ w → TypeKind.Unit ≡ type_kind w s n a b
unfolding type_kind
type_kind_past w s n a b h = sym (get_or-eq_default (type_kinds s n a b) TypeKind.Unit {n = w} h)

pub place_kind_past : (w a b : ℕ) → 5 ≤ w → PlaceKind.Variable a ≡ place_kind w a b
unfolding place_kind
place_kind_past w a b h = sym (get_or-eq_default (place_kinds a b) (PlaceKind.Variable a) {n = w} h)

pub node_kind_past : (w s n a b c : ℕ) → 20 ≤ w → NodeKind.Null ≡ node_kind w s n a b c
unfolding node_kind
node_kind_past w s n a b c h = sym (get_or-eq_default (node_kinds s n a b c) NodeKind.Null {n = w} h)

-- P of the elements of two lists, one by one
abbrev Both : {A B : Type 0} → (A → B → Type 0) → List A → List B → Type 0
Both P [] [] = Unit {0}
Both P [] (y ∷ ys) = ⊥
Both P (x ∷ xs) [] = ⊥
Both P (x ∷ xs) (y ∷ ys) = P x y × Both P xs ys

both_at : {A B : Type 0} (P : A → B → Type 0) (xs : List A) (ys : List B) (d : A) (e : B) → Both P xs ys → P d e → (k : ℕ) → P (get_or xs k d) (get_or ys k e)
both_at P [] [] d e b h k = h
both_at P [] (y ∷ ys) d e b h k = absurd b
both_at P (x ∷ xs) [] d e b h k = absurd b
both_at P (x ∷ xs) (y ∷ ys) d e b h zero = b.0
both_at P (x ∷ xs) (y ∷ ys) d e b h (suc k) = both_at P xs ys d e b.1 h k

-- F looks at a type's numbers one by one, at a struct's and a tuple's all together
pub record Looks {A : Type 0} (F : TypeWord → List ℕ → A) : Type 0 where
  pub unit : (xs : List ℕ) → F t_unit xs ≡ F t_unit []
  pub bool : (xs : List ℕ) → F t_bool xs ≡ F t_bool []
  pub bits : (xs : List ℕ) → F t_bits xs ≡ F t_bits (arg xs 0 ∷ [])
  pub float : (xs : List ℕ) → F t_float xs ≡ F t_float (arg xs 0 ∷ [])
  pub pointer : (xs : List ℕ) → F t_pointer xs ≡ F t_pointer []
  pub array : (xs : List ℕ) → F t_array xs ≡ F t_array (arg xs 0 ∷ arg xs 1 ∷ [])
  pub opaque : (xs : List ℕ) → F t_opaque xs ≡ F t_opaque (arg xs 0 ∷ [])

-- lists of few numbers, by their numbers
none_in : (xs : List ℕ) → length xs ≡ 0 → xs ≡ []
none_in [] h = refl
none_in (x ∷ xs) h = absurd (omega arith)

one_in : (xs : List ℕ) → length xs ≡ 1 → xs ≡ arg xs 0 ∷ []
one_in [] h = absurd (omega arith)
one_in (x ∷ xs) h = ap (λ l. x ∷ l) (none_in xs (omega arith))

two_in : (xs : List ℕ) → length xs ≡ 2 → xs ≡ arg xs 0 ∷ arg xs 1 ∷ []
two_in [] h = absurd (omega arith)
two_in (x ∷ xs) h = ap (λ l. x ∷ l) (one_in xs (omega arith))

module _ (lists : List ℕ) (w s n : ℕ) where
  type_word_kind : type_word_by w ≡ type_word (type_kind_in lists w s n)
  unfolding type_word_by type_kind_in type_kind
  type_word_kind =
      both_at (λ r k. r.make ≡ type_word k) type_rules (type_kinds s n (arg (run lists s n) 0) (arg (run lists s n) 1)) _ TypeKind.Unit
      (refl, (refl, (refl, (refl, (refl, (refl, (refl, (refl, (refl, tt))))))))) refl w

  type_looked : {A : Type 0} {F : TypeWord → List ℕ → A} → Looks F → F (type_word_by w) (run lists s n) ≡ F (type_word (type_kind_in lists w s n)) (type_args lists (type_kind_in lists w s n))
  unfolding type_word_by type_kind_in type_kind
  type_looked {F = F} l =
      let xs = run lists s n in
      both_at (λ r k. F r.make (run lists s n) ≡ F (type_word k) (type_args lists k)) type_rules (type_kinds s n (arg (run lists s n) 0) (arg (run lists s n) 1)) _ TypeKind.Unit
      (l.unit xs, (l.bool xs, (l.bits xs, (l.float xs, (l.pointer xs, (l.array xs, (refl, (refl, (l.opaque xs, tt))))))))) (l.unit xs) w

  type_counted : Counted (type_word_by w) (run lists s n) → run lists s n ≡ type_args lists (type_kind_in lists w s n)
  unfolding type_word_by type_kind_in type_kind Counted
  type_counted h =
      let xs = run lists s n in
      both_at (λ r k. Counted r.make (run lists s n) → run lists s n ≡ type_args lists k) type_rules (type_kinds s n (arg (run lists s n) 0) (arg (run lists s n) 1)) _ TypeKind.Unit
      (none_in xs, (none_in xs, (one_in xs, (one_in xs, (none_in xs, (two_in xs, ((λ _. refl), ((λ _. refl), (one_in xs, tt))))))))) (none_in xs) w h

  node_tree : (p : ℕ → Place) (e : ℕ → Expr) (h : At) → expr_of p e h (node_word_by w) (run lists s n) ≡ expr_of p e h (node_word (node_kind_in lists w s n)) (node_args lists (node_kind_in lists w s n))
  unfolding node_word_by node_kind_in node_kind
  node_tree p e h =
      both_at (λ r k. expr_of p e h r.make (run lists s n) ≡ expr_of p e h (node_word k) (node_args lists k)) node_rules
      (node_kinds s n (arg (run lists s n) 0) (arg (run lists s n) 1) (arg (run lists s n) 2)) _ NodeKind.Null
      (refl, (refl, (refl, (refl, (refl, (refl, (refl, (refl, (refl, (refl, (refl, (refl, (refl, (refl, (refl, (refl, (refl, (refl, (refl, (refl, tt)))))))))))))))))))) refl w

place_tree : (p : ℕ → Place) (e : ℕ → Expr) (w : ℕ) (xs : List ℕ) → place_of p e (place_word_by w) xs ≡ place_of p e (place_word (place_kind w (arg xs 0) (arg xs 1))) (place_args (place_kind w (arg xs 0) (arg xs 1)))
unfolding place_word_by place_kind
place_tree p e w xs =
    both_at (λ r k. place_of p e r.make xs ≡ place_of p e (place_word k) (place_args k)) place_rules (place_kinds (arg xs 0) (arg xs 1)) _ (PlaceKind.Variable (arg xs 0))
    (refl, (refl, (refl, (refl, (refl, tt))))) refl w

-- ---------------------------------------------------------------- lines

module _ (rows lists : List ℕ) (c : Counts) where
  type_out : (k : ℕ) → c.types ≤ k → type_line rows lists c k ≡ no_type
  unfolding type_line type_word_by
  type_out k g =
      rw (
        cell_out rows 0 c.types k 0 0 g,
        cell_out rows 0 c.types k 3 0 g,
        cell_out rows 0 c.types k 4 1 g,
        cell_out rows 0 c.types k 5 1 g,
        numbers_out rows lists 0 c.types k g,
      )

  pub type_at_lem : (k : ℕ) → type_at (tables_of rows lists c) k ≡ type_line rows lists c k
  unfolding tables_of
  type_at_lem k = get_d_tab0 (type_line rows lists c) no_type c.types k (type_out k)

  pub size_here : (k : ℕ) → type_size (tables_of rows lists c) k ≡ size_at rows c k
  unfolding type_size type_line
  size_here k = ap (λ l. l.size) (type_at_lem k)

  pub weight_here : (k : ℕ) → (type_at (tables_of rows lists c) k).weight ≡ weight_at rows c k
  unfolding type_line
  weight_here k = rw (type_at_lem k)

  pub word_here : (k : ℕ) → (type_at (tables_of rows lists c) k).word ≡ type_word (type_kind_at rows lists c k)
  unfolding type_line type_kind_at
  word_here k = ap (λ l. l.word) (type_at_lem k) ∙ type_word_kind lists (type_cell rows c k 0 0) (type_cell rows c k 1 0) (type_cell rows c k 2 0)

  pub looks_here : {A : Type 0} {F : TypeWord → List ℕ → A} → Looks F → (k : ℕ)
      → F (type_at (tables_of rows lists c) k).word (type_at (tables_of rows lists c) k).args ≡ F (type_word (type_kind_at rows lists c k)) (type_args lists (type_kind_at rows lists c k))
  unfolding type_line type_kind_at numbers_at
  looks_here {F = F} l k =
      ap (λ t. F t.word t.args) (type_at_lem k) ∙ type_looked lists (type_cell rows c k 0 0) (type_cell rows c k 1 0) (type_cell rows c k 2 0) l

  -- a readable ticket's type has as many numbers as its word takes
  pub args_here : TypesRight (tables_of rows lists c) → (k : ℕ) → (type_at (tables_of rows lists c) k).args ≡ type_args lists (type_kind_at rows lists c k)
  unfolding type_line type_kind_at numbers_at
  args_here R k =
      ap (λ l. l.args) (type_at_lem k)
      ∙ type_counted lists (type_cell rows c k 0 0) (type_cell rows c k 1 0) (type_cell rows c k 2 0) (subst (λ t. Counted t.word t.args) (type_at_lem k) (R.counted k))

  storage_out : (k : ℕ) → c.storages ≤ k → storage_line rows lists c k ≡ no_storage_line
  unfolding storage_line
  storage_out k g = rw (numbers_out rows lists storages_from c.storages k g)

  pub storage_at_lem : (k : ℕ) → storage_at (tables_of rows lists c) k ≡ storage_line rows lists c k
  unfolding tables_of
  storage_at_lem k = get_d_tab0 (storage_line rows lists c) no_storage_line c.storages k (storage_out k)

  pub owner_here : (k : ℕ) → (storage_at (tables_of rows lists c) k).owner ≡ owner_at rows lists c k
  unfolding storage_line
  owner_here k = rw (storage_at_lem k)

  place_out : (k : ℕ) → c.places ≤ k → place_line rows lists c k ≡ no_place
  unfolding place_line place_word_by
  place_out k g =
      rw (
        cell_out rows places_from c.places k 0 0 g,
        cell_out rows places_from c.places k 3 0 g,
        cell_out rows places_from c.places k 4 0 g,
        numbers_out rows lists places_from c.places k g,
      )

  pub place_line_at_lem : (k : ℕ) → place_line_at (tables_of rows lists c) k ≡ place_line rows lists c k
  unfolding tables_of
  place_line_at_lem k = get_d_tab0 (place_line rows lists c) no_place c.places k (place_out k)

  node_out : (k : ℕ) → c.nodes ≤ k → node_line rows lists c k ≡ no_node
  unfolding node_line node_word_by
  node_out k g =
      rw (
        cell_out rows nodes_from c.nodes k 0 4 g,
        cell_out rows nodes_from c.nodes k 3 0 g,
        cell_out rows nodes_from c.nodes k 4 0 g,
        numbers_out rows lists nodes_from c.nodes k g,
      )

  pub node_at_lem : (k : ℕ) → node_at (tables_of rows lists c) k ≡ node_line rows lists c k
  unfolding tables_of
  node_at_lem k = get_d_tab0 (node_line rows lists c) no_node c.nodes k (node_out k)

-- ---------------------------------------------------------------- variables and statics

module _ (rows lists : List ℕ) (base count k : ℕ) where
  nth_placed_by : (t : Bool) → ltb k count ≡ t → nth (placed_list rows lists base count) k ≡ option_map placed_line (pick t (Some (placed_of (numbers_at rows lists base count k))) None)
  unfolding placed_list
  nth_placed_by true e = let z : 0 + k ≡ k = omega arith in rw z at (nth_tab_in (λ i. placed_line (placed_of (numbers_at rows lists base count i))) 0 count k (ltb-true k count e))
  nth_placed_by false e = nth_tab_out (λ i. placed_line (placed_of (numbers_at rows lists base count i))) 0 count k (ltb-false k count e)

  pub nth_placed : nth (placed_list rows lists base count) k ≡ option_map placed_line (placed_at rows lists base count k)
  unfolding placed_at
  nth_placed = nth_placed_by (ltb k count) refl

module _ (rows lists : List ℕ) (c : Counts) where
  pub nth_variable : (k : ℕ) → nth (tables_of rows lists c).variables k ≡ nth (variables_of rows lists c) k
  unfolding tables_of
  nth_variable k = refl

  pub nth_static : (k : ℕ) → nth (tables_of rows lists c).statics k ≡ nth (statics_of rows lists c) k
  unfolding tables_of
  nth_static k = refl

  -- ---------------------------------------------------------------- trees

  tree_by : (d k : ℕ) → expr_at (suc d) (tables_of rows lists c) k ≡ tree_of (tables_of rows lists c) lists d (at_of rows lists c k) (node_kind_at rows lists c k)
  unfolding expr_at node_line node_kind_at numbers_at
  tree_by d k =
      let T = tables_of rows lists c in
      rw (node_at_lem rows lists c k, behind_run lists (node_cell rows c k 1 0) (node_cell rows c k 2 0))
      (node_tree lists (node_cell rows c k 0 4) (behind lists (node_cell rows c k 1 0)) (node_cell rows c k 2 0 - 1) (λ j. place_at d T j) (λ j. expr_at d T j) (at_of rows lists c k))

  pub tree_here : (d k : ℕ) (n : NodeKind) → (d ≡ 0 → ⊥) → node_kind_at rows lists c k ≡ n → expr_at d (tables_of rows lists c) k ≡ tree_of (tables_of rows lists c) lists (d - 1) (at_of rows lists c k) n
  tree_here zero k n h e = absurd (h refl)
  tree_here (suc d) k n h e = let g : suc d - 1 ≡ d = omega arith in rw (g, ← e) (tree_by d k)

  pub tree_none : (d k : ℕ) → d ≡ 0 → expr_at d (tables_of rows lists c) k ≡ null_pointer nowhere
  unfolding expr_at
  tree_none d k e = rw e

  place_by : (d k : ℕ) → place_at (suc d) (tables_of rows lists c) k ≡ place_by_kind (tables_of rows lists c) d (place_kind_at rows lists c k)
  unfolding place_at place_line place_kind_at
  place_by d k =
      let T = tables_of rows lists c in
      rw (place_line_at_lem rows lists c k)
      (place_tree (λ j. place_at d T j) (λ j. expr_at d T j) (cell rows places_from c.places k 0 0) (numbers_at rows lists places_from c.places k))

  pub place_here : (d k : ℕ) (p : PlaceKind) → (d ≡ 0 → ⊥) → place_kind_at rows lists c k ≡ p → place_at d (tables_of rows lists c) k ≡ place_by_kind (tables_of rows lists c) (d - 1) p
  place_here zero k p h e = absurd (h refl)
  place_here (suc d) k p h e = let g : suc d - 1 ≡ d = omega arith in rw (g, ← e) (place_by d k)

  pub place_none : (d k : ℕ) → d ≡ 0 → place_at d (tables_of rows lists c) k ≡ variable 0
  unfolding place_at
  place_none d k e = rw e

-- ---------------------------------------------------------------- a readable ticket's tables are small

module _ (rows lists : List ℕ) (c : Counts) (r : Readable (tables_of rows lists c)) where
  pub readable_sized : Sized c
  unfolding tables_of placed_list
  readable_sized =
      record {
        types = omega (arith, r.type_count, length_tab (type_line rows lists c) 0 c.types);
        storages = omega (arith, r.storage_count, length_tab (storage_line rows lists c) 0 c.storages);
        variables = omega (arith, r.variable_count, length_tab (λ k. placed_line (placed_of (numbers_at rows lists variables_from c.variables k))) 0 c.variables);
        statics = omega (arith, r.static_count, length_tab (λ k. placed_line (placed_of (numbers_at rows lists statics_from c.statics k))) 0 c.statics);
        places = omega (arith, r.place_count, length_tab (place_line rows lists c) 0 c.places);
        nodes = omega (arith, r.node_count, length_tab (node_line rows lists c) 0 c.nodes);
      }

-- each count, as it is needed
module _ (rows lists : List ℕ) (c : Counts) (r : Readable (tables_of rows lists c)) where
  pub few_types : c.types ≤ 4294967296
  few_types = (readable_sized rows lists c r).types

  pub few_storages : c.storages ≤ 4294967296
  few_storages = (readable_sized rows lists c r).storages

  pub few_variables : c.variables ≤ 4294967296
  few_variables = (readable_sized rows lists c r).variables

  pub few_statics : c.statics ≤ 4294967296
  few_statics = (readable_sized rows lists c r).statics

  pub few_places : c.places ≤ 4294967296
  few_places = (readable_sized rows lists c r).places

  pub few_nodes : c.nodes ≤ 4294967296
  few_nodes = (readable_sized rows lists c r).nodes

pub ruleset few_lines = (few_types, few_storages, few_variables, few_statics, few_places, few_nodes)

pub ruleset cells = (cell_in, cell_out)

pub ruleset args = (arg_in, arg_out)
