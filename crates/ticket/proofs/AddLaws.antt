-- What a row more, or a function line, makes of a reading.
use mathlib.Core.Path.{◌≡◌, refl, sym, ap, ◌∙◌}
use mathlib.Core.Bool.{true, false}
use mathlib.Core.List.{List}
use mathlib.Core.Logic.{⊎_elim}
use Rattle.std.specs.Prelude.{Some}
use Rattle.std.proofs.lemmas.Option.{none-some, same_Some}
use Prim.Native.Nat.{ℕ, suc, ◌+◌, ◌*◌, ◌/◌, ◌≤◌, ◌<◌}
use native.Mathlib.Omega.{arith}
use native.Mathlib.Nat.{zero-add, eq-or-lt_of_le, le_of_suc-le-suc}
use lib.Dec.{eqb, lit<}
use lib.ListN.{length}
use borrow.Author.Tests.{ltb-true, eqb-false}
use Rattle.tables.specs.Tables.{row_of, run, storages_from, variables_from, statics_from, places_from, type_word_by}
use Rattle.spec.specs.Read.{Reading, type_number}
use Rattle.spec.specs.Limits.{type_lines, storage_lines, variable_lines, static_lines, place_lines, node_lines}
use Rattle.line_checks.specs.Rows.{word_at, row_at, type_row, storage_row, placed_row, place_row, node_row, marked, numbers, section, tables_by_counts, used_in, reading_of, Inside, Held, RowPut, Roomy, nodes_from}
use Rattle.line_checks.specs.Keys.{Keyed, key_of, key_row, noted, has_key, row_key}
use Rattle.line_checks.specs.Steps.{few_by_counts}
use Rattle.line_checks.specs.declared.rows.Row.{Row}
use Rattle.ticket.specs.Grown.{grown, row_of_line, row_by, PutBy, counted, Added}
use Rattle.line_forms.specs.declared.Form.{Form}
use Rattle.line_forms.specs.declared.LineKind.{LineKind}
use Rattle.line_forms.specs.declared.LineKind.TheVariants.{Functions, Types, Storages, Variables, Statics, Places, Nodes}
use Rattle.tables.specs.declared.Counts.{Counts}
use Rattle.ticket.specs.declared.Extent.{Extent}
use Rattle.spec.specs.Read.{rank}
use Rattle.line_forms.specs.Classes.{head_of}
use Rattle.line_checks.proofs.RowLaws.{section_more, section_kept}
use Rattle.line_checks.proofs.KeyLaws.{slot_behind, put_keys, keyed_put, note_put, note_has, keyed_note, keyed_more}

-- ---------------------------------------------------------------- rows whose numbers are within those in use

before : (u t : List ℕ) (used used' base n k : ℕ) → Inside u used base n → used ≤ used' → k < n → row_at t (row_of base k) ≡ row_at u (row_of base k)
    → word_at t (row_of base k) 1 + word_at t (row_of base k) 2 ≤ used'
unfolding row_at
before u t used used' base n k i l h e =
    let a : word_at t (row_of base k) 1 ≡ word_at u (row_of base k) 1 = ap (λ (r : Row). r.start) e in
    let b : word_at t (row_of base k) 2 ≡ word_at u (row_of base k) 2 = ap (λ (r : Row). r.count) e in
    omega (arith, i.ends k h)

inside_kept : (u t : List ℕ) (used used' base n r : ℕ) (x : Row) → RowPut u t r x → Inside u used base n → used ≤ used' → ((k : ℕ) → k < n → row_of base k ≡ r → ⊥) → Inside t used' base n
inside_kept u t used used' base n r x p i l h = record { ends = λ k g. before u t used used' base n k i l g (p.others (row_of base k) (h k g)) }

inside_more : (u t : List ℕ) (used used' base n : ℕ) (x : Row) → RowPut u t (row_of base n) x → Inside u used base n → used ≤ used' → x.start + x.count ≤ used' → Inside t used' base (n + 1)
unfolding row_at
inside_more u t used used' base n x p i l g = record { ends = λ k h. by k h }
  where
    suc_of : (k : ℕ) → k < n + 1 → suc k ≤ suc n
    suc_of k h = omega arith

    other : (k : ℕ) → k < n → row_of base k ≡ row_of base n → ⊥
    other k h e = omega arith

    by : (k : ℕ) → k < n + 1 → word_at t (row_of base k) 1 + word_at t (row_of base k) 2 ≤ used'
    by k h =
        ⊎_elim
        (λ (e : k ≡ n). rw (e, ap (λ (r : Row). r.start) p.here, ap (λ (r : Row). r.count) p.here) g)
        (λ (b : k < n). before u t used used' base n k i l b (p.others (row_of base k) (other k b)))
        (eq-or-lt_of_le (le_of_suc-le-suc (suc_of k h)))

inside_wider : (u : List ℕ) (used used' base n : ℕ) → Inside u used base n → used ≤ used' → Inside u used' base n
inside_wider u used used' base n i l = record { ends = λ k h. omega (arith, i.ends k h) }

-- a row that none of these lines has
module _ (u t : List ℕ) (c : Counts) (r : ℕ) (x : Row) (p : RowPut u t r x) (h : Held u c) where
  held_apart : ((k : ℕ) → k < c.types → row_of 0 k ≡ r → ⊥) → ((k : ℕ) → k < c.storages → row_of storages_from k ≡ r → ⊥) → ((k : ℕ) → k < c.variables → row_of variables_from k ≡ r → ⊥)
      → ((k : ℕ) → k < c.statics → row_of statics_from k ≡ r → ⊥) → ((k : ℕ) → k < c.places → row_of places_from k ≡ r → ⊥) → ((k : ℕ) → k < c.nodes → row_of nodes_from k ≡ r → ⊥) → Held t c
  held_apart a b d e f g =
      record {
        few = h.few;
        types = inside_kept u t c.used c.used 0 c.types r x p h.types (omega arith) a;
        storages = inside_kept u t c.used c.used storages_from c.storages r x p h.storages (omega arith) b;
        variables = inside_kept u t c.used c.used variables_from c.variables r x p h.variables (omega arith) d;
        statics = inside_kept u t c.used c.used statics_from c.statics r x p h.statics (omega arith) e;
        places = inside_kept u t c.used c.used places_from c.places r x p h.places (omega arith) f;
        nodes = inside_kept u t c.used c.used nodes_from c.nodes r x p h.nodes (omega arith) g;
      }

  -- the next row of a kind
  pub held_row : (k : LineKind) → Some r ≡ row_of_line k c → Held t c
  held_row Functions q = absurd (none-some r (sym q))
  held_row Types q = let z = same_Some r (c.types * 6) q in held_apart (λ k l e. omega arith) (λ k l e. omega arith) (λ k l e. omega arith) (λ k l e. omega arith) (λ k l e. omega arith) (λ k l e. omega arith)
  held_row Storages q = let z = same_Some r (row_of storages_from c.storages) q in held_apart (λ k l e. omega arith) (λ k l e. omega arith) (λ k l e. omega arith) (λ k l e. omega arith) (λ k l e. omega arith) (λ k l e. omega arith)
  held_row Variables q = let z = same_Some r (row_of variables_from c.variables) q in held_apart (λ k l e. omega arith) (λ k l e. omega arith) (λ k l e. omega arith) (λ k l e. omega arith) (λ k l e. omega arith) (λ k l e. omega arith)
  held_row Statics q = let z = same_Some r (row_of statics_from c.statics) q in held_apart (λ k l e. omega arith) (λ k l e. omega arith) (λ k l e. omega arith) (λ k l e. omega arith) (λ k l e. omega arith) (λ k l e. omega arith)
  held_row Places q = let z = same_Some r (row_of places_from c.places) q in held_apart (λ k l e. omega arith) (λ k l e. omega arith) (λ k l e. omega arith) (λ k l e. omega arith) (λ k l e. omega arith) (λ k l e. omega arith)
  held_row Nodes q = let z = same_Some r (row_of nodes_from c.nodes) q in held_apart (λ k l e. omega arith) (λ k l e. omega arith) (λ k l e. omega arith) (λ k l e. omega arith) (λ k l e. omega arith) (λ k l e. omega arith)

  pub keyed_row : (ls : List ℕ) → Roomy (length u) c → Keyed u ls c.types → (k : LineKind) → Some r ≡ row_of_line k c → Keyed t ls c.types
  keyed_row ls room i Functions q = absurd (none-some r (sym q))
  keyed_row ls room i Types q = let z = same_Some r (c.types * 6) q in keyed_put u t ls r x p (omega (arith, room.types)) c.types (λ k l e. omega arith) i
  keyed_row ls room i Storages q = let z = same_Some r (row_of storages_from c.storages) q in keyed_put u t ls r x p (omega (arith, room.storages)) c.types (λ k l e. omega arith) i
  keyed_row ls room i Variables q = let z = same_Some r (row_of variables_from c.variables) q in keyed_put u t ls r x p (omega (arith, room.variables)) c.types (λ k l e. omega arith) i
  keyed_row ls room i Statics q = let z = same_Some r (row_of statics_from c.statics) q in keyed_put u t ls r x p (omega (arith, room.statics)) c.types (λ k l e. omega arith) i
  keyed_row ls room i Places q = let z = same_Some r (row_of places_from c.places) q in keyed_put u t ls r x p (omega (arith, room.places)) c.types (λ k l e. omega arith) i
  keyed_row ls room i Nodes q = let z = same_Some r (row_of nodes_from c.nodes) q in keyed_put u t ls r x p (omega (arith, room.nodes)) c.types (λ k l e. omega arith) i

-- ---------------------------------------------------------------- a row behind those of a kind

module _ (u t : List ℕ) (base n : ℕ) (x : Row) (b : base < 6) (p : RowPut u t (row_of base n) x) where
  -- rows of another kind
  apart : (o : ℕ) → o < 6 → eqb o base ≡ false → (k : ℕ) → row_of o k ≡ row_of base n → ⊥
  apart o h e k q = eqb-false o base e (omega arith)

  kept : {A : Type 0} (f : Row → A) (o m : ℕ) → o < 6 → eqb o base ≡ false → section f t o m ≡ section f u o m
  kept f o m h e = section_kept f u t o m (row_of base n) x p (λ k g. apart o h e k)

  ends : (used n' : ℕ) (o m : ℕ) → o < 6 → eqb o base ≡ false → Inside u used o m → Inside t (used + n') o m
  ends used n' o m h e i = inside_kept u t used (used + n') o m (row_of base n) x p i (omega arith) (λ k g. apart o h e k)

-- the counts and the form of a line more
abbrev with_line : LineKind → Counts → List ℕ → ℕ → Extent → Counts
with_line k c xs n e =
    record (counted k c xs) { used = c.used + n; stage = rank (head_of k 0) + 1; lines = c.lines + 1; sizes = e.sums.size; weights = e.sums.weight }

abbrev form_of : LineKind → ℕ → ℕ → Form
form_of k w n = record { kind = k; word = w; count = n }

-- ---------------------------------------------------------------- the line that stores no row

add_function : (u ls : List ℕ) (c : Counts) (w n : ℕ) (e : Extent) → Held u c → Added u u ls (form_of Functions w n) c e (with_line Functions c (run ls c.used n) n e)
unfolding reading_of tables_by_counts used_in
add_function u ls c w n e h =
    record {
      reading = refl;
      held = record {
        few = record { types = h.few.types; storages = h.few.storages; variables = h.few.variables; statics = h.few.statics; places = h.few.places; nodes = h.few.nodes };
        types = inside_wider u c.used (c.used + n) 0 c.types h.types (omega arith);
        storages = inside_wider u c.used (c.used + n) storages_from c.storages h.storages (omega arith);
        variables = inside_wider u c.used (c.used + n) variables_from c.variables h.variables (omega arith);
        statics = inside_wider u c.used (c.used + n) statics_from c.statics h.statics (omega arith);
        places = inside_wider u c.used (c.used + n) places_from c.places h.places (omega arith);
        nodes = inside_wider u c.used (c.used + n) nodes_from c.nodes h.nodes (omega arith);
      };
      keyed = λ i. i;
      used = refl;
      lines = refl;
    }

-- ---------------------------------------------------------------- one row more

module _ (u t ls : List ℕ) (c : Counts) (w n : ℕ) (e : Extent) (h : Held u c) (room : Roomy (length u) c) where
  add_storage : few_by_counts Storages c ≡ true → PutBy Storages u t (form_of Storages w n) (run ls c.used n) c e → Added u t ls (form_of Storages w n) c e (with_line Storages c (run ls c.used n) n e)
  unfolding reading_of tables_by_counts used_in numbers
  add_storage m p =
      let x = row_by Storages (form_of Storages w n) c e in
      let less = ltb-true c.storages storage_lines m in
      let few = h.few in
      record {
        reading = rw (
          kept u t storages_from c.storages x (lit< tt) p (type_row ls) 0 c.types (lit< tt) refl,
          section_more (storage_row ls) u t storages_from c.storages x p,
          kept u t storages_from c.storages x (lit< tt) p (placed_row ls) variables_from c.variables (lit< tt) refl,
          kept u t storages_from c.storages x (lit< tt) p (placed_row ls) statics_from c.statics (lit< tt) refl,
          kept u t storages_from c.storages x (lit< tt) p (place_row ls) places_from c.places (lit< tt) refl,
          kept u t storages_from c.storages x (lit< tt) p (node_row ls) nodes_from c.nodes (lit< tt) refl,
          kept u t storages_from c.storages x (lit< tt) p marked places_from c.places (lit< tt) refl,
          kept u t storages_from c.storages x (lit< tt) p marked nodes_from c.nodes (lit< tt) refl,
        );
        held = record {
          few = record { types = few.types; storages = omega arith; variables = few.variables; statics = few.statics; places = few.places; nodes = few.nodes };
          types = ends u t storages_from c.storages x (lit< tt) p c.used n 0 c.types (lit< tt) refl h.types;
          storages = inside_more u t c.used (c.used + n) storages_from c.storages x p h.storages (omega arith) (omega arith);
          variables = ends u t storages_from c.storages x (lit< tt) p c.used n variables_from c.variables (lit< tt) refl h.variables;
          statics = ends u t storages_from c.storages x (lit< tt) p c.used n statics_from c.statics (lit< tt) refl h.statics;
          places = ends u t storages_from c.storages x (lit< tt) p c.used n places_from c.places (lit< tt) refl h.places;
          nodes = ends u t storages_from c.storages x (lit< tt) p c.used n nodes_from c.nodes (lit< tt) refl h.nodes;
        };
        keyed = keyed_put u t ls (row_of storages_from c.storages) x p (omega (arith, room.storages)) c.types (λ k g q. omega arith);
        used = refl;
        lines = refl;
      }

  add_variable : few_by_counts Variables c ≡ true → PutBy Variables u t (form_of Variables w n) (run ls c.used n) c e → Added u t ls (form_of Variables w n) c e (with_line Variables c (run ls c.used n) n e)
  unfolding reading_of tables_by_counts used_in numbers
  add_variable m p =
      let x = row_by Variables (form_of Variables w n) c e in
      let less = ltb-true c.variables variable_lines m in
      let few = h.few in
      record {
        reading = rw (
          kept u t variables_from c.variables x (lit< tt) p (type_row ls) 0 c.types (lit< tt) refl,
          kept u t variables_from c.variables x (lit< tt) p (storage_row ls) storages_from c.storages (lit< tt) refl,
          section_more (placed_row ls) u t variables_from c.variables x p,
          kept u t variables_from c.variables x (lit< tt) p (placed_row ls) statics_from c.statics (lit< tt) refl,
          kept u t variables_from c.variables x (lit< tt) p (place_row ls) places_from c.places (lit< tt) refl,
          kept u t variables_from c.variables x (lit< tt) p (node_row ls) nodes_from c.nodes (lit< tt) refl,
          kept u t variables_from c.variables x (lit< tt) p marked places_from c.places (lit< tt) refl,
          kept u t variables_from c.variables x (lit< tt) p marked nodes_from c.nodes (lit< tt) refl,
        );
        held = record {
          few = record { types = few.types; storages = few.storages; variables = omega arith; statics = few.statics; places = few.places; nodes = few.nodes };
          types = ends u t variables_from c.variables x (lit< tt) p c.used n 0 c.types (lit< tt) refl h.types;
          storages = ends u t variables_from c.variables x (lit< tt) p c.used n storages_from c.storages (lit< tt) refl h.storages;
          variables = inside_more u t c.used (c.used + n) variables_from c.variables x p h.variables (omega arith) (omega arith);
          statics = ends u t variables_from c.variables x (lit< tt) p c.used n statics_from c.statics (lit< tt) refl h.statics;
          places = ends u t variables_from c.variables x (lit< tt) p c.used n places_from c.places (lit< tt) refl h.places;
          nodes = ends u t variables_from c.variables x (lit< tt) p c.used n nodes_from c.nodes (lit< tt) refl h.nodes;
        };
        keyed = keyed_put u t ls (row_of variables_from c.variables) x p (omega (arith, room.variables)) c.types (λ k g q. omega arith);
        used = refl;
        lines = refl;
      }

  add_static : few_by_counts Statics c ≡ true → PutBy Statics u t (form_of Statics w n) (run ls c.used n) c e → Added u t ls (form_of Statics w n) c e (with_line Statics c (run ls c.used n) n e)
  unfolding reading_of tables_by_counts used_in numbers
  add_static m p =
      let x = row_by Statics (form_of Statics w n) c e in
      let less = ltb-true c.statics static_lines m in
      let few = h.few in
      record {
        reading = rw (
          kept u t statics_from c.statics x (lit< tt) p (type_row ls) 0 c.types (lit< tt) refl,
          kept u t statics_from c.statics x (lit< tt) p (storage_row ls) storages_from c.storages (lit< tt) refl,
          kept u t statics_from c.statics x (lit< tt) p (placed_row ls) variables_from c.variables (lit< tt) refl,
          section_more (placed_row ls) u t statics_from c.statics x p,
          kept u t statics_from c.statics x (lit< tt) p (place_row ls) places_from c.places (lit< tt) refl,
          kept u t statics_from c.statics x (lit< tt) p (node_row ls) nodes_from c.nodes (lit< tt) refl,
          kept u t statics_from c.statics x (lit< tt) p marked places_from c.places (lit< tt) refl,
          kept u t statics_from c.statics x (lit< tt) p marked nodes_from c.nodes (lit< tt) refl,
        );
        held = record {
          few = record { types = few.types; storages = few.storages; variables = few.variables; statics = omega arith; places = few.places; nodes = few.nodes };
          types = ends u t statics_from c.statics x (lit< tt) p c.used n 0 c.types (lit< tt) refl h.types;
          storages = ends u t statics_from c.statics x (lit< tt) p c.used n storages_from c.storages (lit< tt) refl h.storages;
          variables = ends u t statics_from c.statics x (lit< tt) p c.used n variables_from c.variables (lit< tt) refl h.variables;
          statics = inside_more u t c.used (c.used + n) statics_from c.statics x p h.statics (omega arith) (omega arith);
          places = ends u t statics_from c.statics x (lit< tt) p c.used n places_from c.places (lit< tt) refl h.places;
          nodes = ends u t statics_from c.statics x (lit< tt) p c.used n nodes_from c.nodes (lit< tt) refl h.nodes;
        };
        keyed = keyed_put u t ls (row_of statics_from c.statics) x p (omega (arith, room.statics)) c.types (λ k g q. omega arith);
        used = refl;
        lines = refl;
      }

  add_place : few_by_counts Places c ≡ true → PutBy Places u t (form_of Places w n) (run ls c.used n) c e → Added u t ls (form_of Places w n) c e (with_line Places c (run ls c.used n) n e)
  unfolding reading_of tables_by_counts used_in numbers
  add_place m p =
      let x = row_by Places (form_of Places w n) c e in
      let less = ltb-true c.places place_lines m in
      let few = h.few in
      record {
        reading = rw (
          kept u t places_from c.places x (lit< tt) p (type_row ls) 0 c.types (lit< tt) refl,
          kept u t places_from c.places x (lit< tt) p (storage_row ls) storages_from c.storages (lit< tt) refl,
          kept u t places_from c.places x (lit< tt) p (placed_row ls) variables_from c.variables (lit< tt) refl,
          kept u t places_from c.places x (lit< tt) p (placed_row ls) statics_from c.statics (lit< tt) refl,
          section_more (place_row ls) u t places_from c.places x p,
          kept u t places_from c.places x (lit< tt) p (node_row ls) nodes_from c.nodes (lit< tt) refl,
          section_more marked u t places_from c.places x p,
          kept u t places_from c.places x (lit< tt) p marked nodes_from c.nodes (lit< tt) refl,
        );
        held = record {
          few = record { types = few.types; storages = few.storages; variables = few.variables; statics = few.statics; places = omega arith; nodes = few.nodes };
          types = ends u t places_from c.places x (lit< tt) p c.used n 0 c.types (lit< tt) refl h.types;
          storages = ends u t places_from c.places x (lit< tt) p c.used n storages_from c.storages (lit< tt) refl h.storages;
          variables = ends u t places_from c.places x (lit< tt) p c.used n variables_from c.variables (lit< tt) refl h.variables;
          statics = ends u t places_from c.places x (lit< tt) p c.used n statics_from c.statics (lit< tt) refl h.statics;
          places = inside_more u t c.used (c.used + n) places_from c.places x p h.places (omega arith) (omega arith);
          nodes = ends u t places_from c.places x (lit< tt) p c.used n nodes_from c.nodes (lit< tt) refl h.nodes;
        };
        keyed = keyed_put u t ls (row_of places_from c.places) x p (omega (arith, room.places)) c.types (λ k g q. omega arith);
        used = refl;
        lines = refl;
      }

  add_node : few_by_counts Nodes c ≡ true → PutBy Nodes u t (form_of Nodes w n) (run ls c.used n) c e → Added u t ls (form_of Nodes w n) c e (with_line Nodes c (run ls c.used n) n e)
  unfolding reading_of tables_by_counts used_in numbers
  add_node m p =
      let x = row_by Nodes (form_of Nodes w n) c e in
      let less = ltb-true c.nodes node_lines m in
      let few = h.few in
      record {
        reading = rw (
          kept u t nodes_from c.nodes x (lit< tt) p (type_row ls) 0 c.types (lit< tt) refl,
          kept u t nodes_from c.nodes x (lit< tt) p (storage_row ls) storages_from c.storages (lit< tt) refl,
          kept u t nodes_from c.nodes x (lit< tt) p (placed_row ls) variables_from c.variables (lit< tt) refl,
          kept u t nodes_from c.nodes x (lit< tt) p (placed_row ls) statics_from c.statics (lit< tt) refl,
          kept u t nodes_from c.nodes x (lit< tt) p (place_row ls) places_from c.places (lit< tt) refl,
          section_more (node_row ls) u t nodes_from c.nodes x p,
          kept u t nodes_from c.nodes x (lit< tt) p marked places_from c.places (lit< tt) refl,
          section_more marked u t nodes_from c.nodes x p,
        );
        held = record {
          few = record { types = few.types; storages = few.storages; variables = few.variables; statics = few.statics; places = few.places; nodes = omega arith };
          types = ends u t nodes_from c.nodes x (lit< tt) p c.used n 0 c.types (lit< tt) refl h.types;
          storages = ends u t nodes_from c.nodes x (lit< tt) p c.used n storages_from c.storages (lit< tt) refl h.storages;
          variables = ends u t nodes_from c.nodes x (lit< tt) p c.used n variables_from c.variables (lit< tt) refl h.variables;
          statics = ends u t nodes_from c.nodes x (lit< tt) p c.used n statics_from c.statics (lit< tt) refl h.statics;
          places = ends u t nodes_from c.nodes x (lit< tt) p c.used n places_from c.places (lit< tt) refl h.places;
          nodes = inside_more u t c.used (c.used + n) nodes_from c.nodes x p h.nodes (omega arith) (omega arith);
        };
        keyed = keyed_put u t ls (row_of nodes_from c.nodes) x p (omega (arith, room.nodes)) c.types (λ k g q. omega arith);
        used = refl;
        lines = refl;
      }

-- ---------------------------------------------------------------- a type: its key noted, and then its row

-- a row behind those of lines anew: the lines are as they were
module _ (u v ls : List ℕ) (c : Counts) (r : ℕ) (x : Row) (h : Held u c) (room : Roomy (length u) c) (p : RowPut u v r x) (l : length u / 40 * 6 ≤ r) where
  behind_reading : reading_of v ls c ≡ reading_of u ls c
  unfolding reading_of tables_by_counts used_in
  behind_reading =
      rw (
        section_kept (type_row ls) u v 0 c.types r x p (λ k g q. omega (arith, room.types)),
        section_kept (storage_row ls) u v storages_from c.storages r x p (λ k g q. omega (arith, room.storages)),
        section_kept (placed_row ls) u v variables_from c.variables r x p (λ k g q. omega (arith, room.variables)),
        section_kept (placed_row ls) u v statics_from c.statics r x p (λ k g q. omega (arith, room.statics)),
        section_kept (place_row ls) u v places_from c.places r x p (λ k g q. omega (arith, room.places)),
        section_kept (node_row ls) u v nodes_from c.nodes r x p (λ k g q. omega (arith, room.nodes)),
        section_kept marked u v places_from c.places r x p (λ k g q. omega (arith, room.places)),
        section_kept marked u v nodes_from c.nodes r x p (λ k g q. omega (arith, room.nodes)),
      )

  behind_held : Held v c
  behind_held =
      held_apart u v c r x p h (λ k g q. omega (arith, room.types)) (λ k g q. omega (arith, room.storages)) (λ k g q. omega (arith, room.variables))
      (λ k g q. omega (arith, room.statics)) (λ k g q. omega (arith, room.places)) (λ k g q. omega (arith, room.nodes))

-- a key noted
module _ (u : List ℕ) (c : Counts) (H : ℕ) where
  pub held_note : Held u c → Roomy (length u) c → Held (noted u H) c
  held_note h room =
      behind_held u (noted u H) u c (key_row (length u) H) (row_at (noted u H) (key_row (length u) H)) h room (note_put u H (omega (arith, room.types))) (slot_behind (length u) H)

  pub keyed_noted : (ls : List ℕ) → Roomy (length u) c → Keyed u ls c.types → Keyed (noted u H) ls c.types
  keyed_noted ls room i = keyed_note u H (omega (arith, room.types)) ls c.types (omega (arith, room.types)) i

-- a type's row, behind those of the types
module _ (v t ls : List ℕ) (c : Counts) (w n : ℕ) (e : Extent) (h : Held v c) (m : few_by_counts Types c ≡ true) (p : RowPut v t (c.types * 6) (row_by Types (form_of Types w n) c e)) where
  abbrev X : Row
  X = row_by Types (form_of Types w n) c e

  type_put : RowPut v t (row_of 0 c.types) X
  type_put = rw zero-add p

  type_reading : reading_of t ls (with_line Types c (run ls c.used n) n e) ≡ grown (reading_of v ls c) Types w (run ls c.used n) e
  unfolding reading_of tables_by_counts used_in numbers
  type_reading =
      let q = type_put in
      rw (
        section_more (type_row ls) v t 0 c.types X q,
        kept v t 0 c.types X (lit< tt) q (storage_row ls) storages_from c.storages (lit< tt) refl,
        kept v t 0 c.types X (lit< tt) q (placed_row ls) variables_from c.variables (lit< tt) refl,
        kept v t 0 c.types X (lit< tt) q (placed_row ls) statics_from c.statics (lit< tt) refl,
        kept v t 0 c.types X (lit< tt) q (place_row ls) places_from c.places (lit< tt) refl,
        kept v t 0 c.types X (lit< tt) q (node_row ls) nodes_from c.nodes (lit< tt) refl,
        kept v t 0 c.types X (lit< tt) q marked places_from c.places (lit< tt) refl,
        kept v t 0 c.types X (lit< tt) q marked nodes_from c.nodes (lit< tt) refl,
      )

  type_held : Held t (with_line Types c (run ls c.used n) n e)
  type_held =
      let q = type_put in
      let less = ltb-true c.types type_lines m in
      let few = h.few in
      record {
        few = record { types = omega arith; storages = few.storages; variables = few.variables; statics = few.statics; places = few.places; nodes = few.nodes };
        types = inside_more v t c.used (c.used + n) 0 c.types X q h.types (omega arith) (omega arith);
        storages = ends v t 0 c.types X (lit< tt) q c.used n storages_from c.storages (lit< tt) refl h.storages;
        variables = ends v t 0 c.types X (lit< tt) q c.used n variables_from c.variables (lit< tt) refl h.variables;
        statics = ends v t 0 c.types X (lit< tt) q c.used n statics_from c.statics (lit< tt) refl h.statics;
        places = ends v t 0 c.types X (lit< tt) q c.used n places_from c.places (lit< tt) refl h.places;
        nodes = ends v t 0 c.types X (lit< tt) q c.used n nodes_from c.nodes (lit< tt) refl h.nodes;
      }

module _ (u t ls : List ℕ) (c : Counts) (w n : ℕ) (e : Extent) (h : Held u c) (room : Roomy (length u) c) (m : few_by_counts Types c ≡ true)
    (p : PutBy Types u t (form_of Types w n) (run ls c.used n) c e) where
  abbrev H : ℕ
  H = key_of (type_number (type_word_by w)) (run ls c.used n)

  -- there is room for keys
  long : 40 ≤ length u
  long = omega (arith, room.types)

  -- what was noted is no line's row, and the lines are as they were
  key_put : RowPut u (noted u H) (key_row (length u) H) (row_at (noted u H) (key_row (length u) H))
  key_put = note_put u H long

  key_held : Held (noted u H) c
  key_held = behind_held u (noted u H) ls c (key_row (length u) H) (row_at (noted u H) (key_row (length u) H)) h room key_put (slot_behind (length u) H)

  -- the new row is before the words of keys
  row_low : row_of 0 c.types < length (noted u H) / 40 * 6
  row_low = rw key_put.long (omega (arith, room.types))

  -- the new type's key
  key_new : has_key t (row_key ls (row_at t (row_of 0 c.types))) ≡ true
  unfolding numbers
  key_new =
      let q = type_put (noted u H) t ls c w n e key_held m p in
      rw (q.here, put_keys (noted u H) t ls (row_of 0 c.types) (row_by Types (form_of Types w n) c e) q row_low H) (note_has u H long)

  add_type : Added u t ls (form_of Types w n) c e (with_line Types c (run ls c.used n) n e)
  add_type =
      let q = type_put (noted u H) t ls c w n e key_held m p in
      record {
        reading =
            type_reading (noted u H) t ls c w n e key_held m p
            ∙ ap (λ (R : Reading). grown R Types w (run ls c.used n) e)
            (behind_reading u (noted u H) ls c (key_row (length u) H) (row_at (noted u H) (key_row (length u) H)) h room key_put (slot_behind (length u) H));
        held = type_held (noted u H) t ls c w n e key_held m p;
        keyed = λ i.
            keyed_more t ls c.types
            (keyed_put (noted u H) t ls (row_of 0 c.types) (row_by Types (form_of Types w n) c e) q row_low c.types (λ k b q. omega arith)
            (keyed_note u H long ls c.types (omega (arith, room.types)) i))
            key_new;
        used = refl;
        lines = refl;
      }

-- ---------------------------------------------------------------- any line

module _ (u t ls : List ℕ) (c : Counts) (w n : ℕ) (e : Extent) (h : Held u c) (room : Roomy (length u) c) where
  by_kind : (k : LineKind) → few_by_counts k c ≡ true → PutBy k u t (form_of k w n) (run ls c.used n) c e → Added u t ls (form_of k w n) c e (with_line k c (run ls c.used n) n e)
  by_kind Functions m p = rw p (add_function u ls c w n e h)
  by_kind Types m p = add_type u t ls c w n e h room m p
  by_kind Storages m p = add_storage u t ls c w n e h room m p
  by_kind Variables m p = add_variable u t ls c w n e h room m p
  by_kind Statics m p = add_static u t ls c w n e h room m p
  by_kind Places m p = add_place u t ls c w n e h room m p
  by_kind Nodes m p = add_node u t ls c w n e h room m p

-- as the code adds it: its numbers xs are lent
pub added : (u t ls xs : List ℕ) (f : Form) (c d : Counts) (e : Extent) (s : ℕ) → xs ≡ run ls c.used f.count → Held u c → Roomy (length u) c → few_by_counts f.kind c ≡ true
    → PutBy f.kind u t f xs c e → d ≡ counted f.kind c xs → s ≡ rank (head_of f.kind 0)
    → Added u t ls f c e (record d { used = c.used + f.count; stage = s + 1; lines = c.lines + 1; sizes = e.sums.size; weights = e.sums.weight })
added u t ls xs f c d e s g h room m p q r = rw (q, r, g) (by_kind u t ls c f.word f.count e h room f.kind m (rw g at p))
