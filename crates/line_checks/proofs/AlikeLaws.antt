-- Words that differ in marks alone hold the same depths, and what reading keeps of them.
use mathlib.Core.Path.{◌≡◌, refl, ap}
use mathlib.Core.Bool.{Bool, true, false}
use mathlib.Core.List.{List, [], ◌∷◌}
use Prim.Native.Nat.{ℕ, ◌<◌}
use native.Mathlib.Omega.{arith}
use lib.Dec.{ltb, lit<}
use borrow.Author.Tests.{eqb-false}
use Rattle.tables.specs.Tables.{pick, row_of, storages_from, variables_from, statics_from, places_from, cell}
use Rattle.tables.specs.declared.Counts.{Counts}
use Rattle.spec.specs.Forms.{Arg, Field, between, float_width, type_part, type, storage, place, node}
use Rattle.line_checks.specs.Rows.{word_at, row_at, nodes_from, Inside, Held}
use Rattle.line_checks.specs.declared.rows.Row.{Row}
use Rattle.line_checks.specs.Steps.{deepest_in, depth_in, Alike}

module _ (u t : List ℕ) (a : Alike u t) where
  pub alike_entry : (base n k j other : ℕ) → (j ≡ 5 → ⊥) → j < 6 → cell t base n k j other ≡ cell u base n k j other
  unfolding cell word_at
  alike_entry base n k j other h l = rw (a.cells (row_of base k) j h l)

module _ (u t : List ℕ) (c : Counts) (a : Alike u t) where
  alike_types : (k : ℕ) → cell t 0 c.types k 5 1 ≡ cell u 0 c.types k 5 1
  unfolding cell word_at row_at
  alike_types k = by (ltb k c.types) refl
    where
      by : (b : Bool) → ltb k c.types ≡ b → pick b (word_at t (row_of 0 k) 5) 1 ≡ pick b (word_at u (row_of 0 k) 5) 1
      by true e = ap (λ (r : Row). r.fifth) (a.rows 0 k (lit< tt))
      by false e = refl

  pub depth_alike : (f : Field) (x : ℕ) → depth_in t c f x ≡ depth_in u c f x
  depth_alike (between m n) x = refl
  depth_alike float_width x = refl
  depth_alike type_part x = alike_types x
  depth_alike type x = refl
  depth_alike storage x = refl
  depth_alike place x = alike_entry u t a places_from c.places x 4 0 (λ e. eqb-false 4 5 refl e) (lit< tt)
  depth_alike node x = alike_entry u t a nodes_from c.nodes x 4 0 (λ e. eqb-false 4 5 refl e) (lit< tt)

  pub deepest_alike : (xa : List Arg) → deepest_in t c xa ≡ deepest_in u c xa
  unfolding deepest_in
  deepest_alike [] = refl
  deepest_alike (x ∷ xa) = rw (depth_alike x.class x.value, deepest_alike xa)

-- ---------------------------------------------------------------- what is kept of the words

module _ (u t : List ℕ) (a : Alike u t) where
  pub word_same : (q j : ℕ) → j < 5 → word_at t q j ≡ word_at u q j
  word_same q j l = a.cells q j (λ e. omega arith) (omega arith)

  inside_alike : (used base n : ℕ) → Inside u used base n → Inside t used base n
  inside_alike used base n i =
      record { ends = λ k h. rw (word_same (row_of base k) 1 (lit< tt), word_same (row_of base k) 2 (lit< tt)) (i.ends k h) }

  pub held_alike : (c : Counts) → Held u c → Held t c
  held_alike c h =
      record {
        few = h.few;
        types = inside_alike c.used 0 c.types h.types;
        storages = inside_alike c.used storages_from c.storages h.storages;
        variables = inside_alike c.used variables_from c.variables h.variables;
        statics = inside_alike c.used statics_from c.statics h.statics;
        places = inside_alike c.used places_from c.places h.places;
        nodes = inside_alike c.used nodes_from c.nodes h.nodes;
      }
