-- Storages, variables and statics are kept right by every accepted line.
use Prim.Native.Nat.{ℕ, ◌≤◌}
use mathlib.Core.Bool.{Bool, true, false, ◌||◌}
use mathlib.Core.List.{List}
use Rattle.std.specs.Prelude.{None}
use mathlib.Core.Path.{◌≡◌, refl}
use native.Mathlib.Omega.{arith}
use borrow.Author.Tests.{ltb-true, leb-true, eqb-true, eqb-false}
use lib.Dec.{eqb}
use lib.ListN.{length, length-append}
use Rattle.spec.specs.Limits.{greatest_16, all_regions}
use Rattle.spec.specs.Ticket.{Tables, PlacedLine, arg}
use Rattle.spec.specs.Forms.{Arg, Head, f_line, s_line, v_line, g_line, t_line, p_line, n_line, storage_fields, placed_fields, values}
use Rattle.spec.specs.Read.{Reading, refusal_of, add_line}
use Rattle.spec.specs.Readable.{All, StorageRight, PlacedRight}
use Rattle.spec.proofs.ReadingLists.{All_map, All_append}
use Rattle.spec.proofs.ReadingTests.{in_range, Within, ranged, length_fits, fits, fitting, Standing, standing}
use Rattle.spec.proofs.ReadingForms.{Args, done, next}
use Rattle.spec.proofs.ReadingLines.{Formed}

pub record Placed (T : Tables) : Type 0 where
  pub storages : All StorageRight T.storages
  pub variables : All (PlacedRight T) T.variables
  pub statics : All (PlacedRight T) T.statics

-- a storage's LENGTH goes by its kind, and a BIT by its TYPE
length_right : (kind len : ℕ) (b : Bool) → eqb kind 2 ≡ b → length_fits b len ≡ true
    → (kind ≡ 2 → 1 ≤ len) × ((kind ≡ 2 → ⊥) → len ≡ 0)
length_right kind len true p h = (λ q. leb-true 1 len h, λ n. absurd (n (eqb-true kind 2 p)))
length_right kind len false p h = (λ q. absurd (eqb-false kind 2 p q), λ n. eqb-true len 0 h)

bit_right : (ty bit : ℕ) (b : Bool) → eqb bit 0 ≡ b → b || eqb ty 0 ≡ true → bit ≡ 1 → ty ≡ 0
bit_right ty bit true p h q = absurd (let z = eqb-true bit 0 p in omega arith)
bit_right ty bit false p h q = eqb-true ty 0 h

new_storage : (R : Reading) (xa : List Arg) → Args storage_fields None xa → refusal_of R (record { head = s_line; args = xa }) ≡ None
    → StorageRight (record { kind = arg (values xa) 0; len = arg (values xa) 1; owner = arg (values xa) 2; regions = arg (values xa) 3 })
unfolding All
new_storage R xa (next k (next l (next o (next g done)))) e =
    let r = ranged R (record { head = s_line; args = _ }) e in
    let f = length_right k l (eqb k 2) refl (fitting R (record { head = s_line; args = _ }) e) in
    record {
      kind_most = (in_range 0 3 k r.0).1;
      len_least = f.0;
      len_none = f.1;
      len_most = (in_range 0 greatest_16 l r.1.0).1;
      owner_most = (in_range 0 1 o r.1.1.0).1;
      regions_most = (in_range 0 all_regions g r.1.1.1.0).1;
    }

-- a variable or a static
abbrev placed_line : List ℕ → PlacedLine
placed_line xs = record { storage = arg xs 0; offset = arg xs 1; type = arg xs 2; bit = arg xs 3 }

new_placed : (T : Tables) (xa : List Arg) → Args placed_fields None xa → Within xa → Standing T xa → fits v_line (values xa) ≡ true
    → PlacedRight T (placed_line (values xa))
unfolding All
new_placed T xa (next s (next o (next ty (next b done)))) r h f =
    record {
      storage_earlier = ltb-true s (length T.storages) h.0;
      offset_most = (in_range 0 greatest_16 o r.1.0).1;
      type_earlier = ltb-true ty (length T.types) h.1.1.0;
      bit_most = (in_range 0 1 b r.1.1.1.0).1;
      bit_of_bool = bit_right ty b (eqb b 0) refl f;
    }

-- more storages and types do no harm
module _ (T T' : Tables) (s : length T.storages ≤ length T'.storages) (t : length T.types ≤ length T'.types) where
  grown : (ps : List PlacedLine) → All (PlacedRight T) ps → All (PlacedRight T') ps
  grown ps h =
      All_map ps
      (λ p r. record {
        storage_earlier = omega arith;
        offset_most = r.offset_most;
        type_earlier = omega arith;
        bit_most = r.bit_most;
        bit_of_bool = r.bit_of_bool;
      })
      h

pub grows : (T : Tables) (n : ℕ) (h : Head) (xa : List Arg)
    → (length T.storages ≤ length (add_line T n h xa).storages) × (length T.types ≤ length (add_line T n h xa).types)
unfolding add_line
grows T n f_line xa = omega arith
grows T n s_line xa = simp length-append (omega arith)
grows T n v_line xa = omega arith
grows T n g_line xa = omega arith
grows T n (t_line w) xa = simp length-append (omega arith)
grows T n (p_line w) xa = omega arith
grows T n (n_line w) xa = omega arith

module _ (R : Reading) (n : ℕ) where
  -- the lines before the new one
  before : (h : Head) (xa : List Arg) (ps : List PlacedLine) → All (PlacedRight R.tables) ps → All (PlacedRight (add_line R.tables n h xa)) ps
  before h xa ps = grown R.tables (add_line R.tables n h xa) (grows R.tables n h xa).0 (grows R.tables n h xa).1 ps

  -- the new one
  new : (h : Head) (xa : List Arg) → Args placed_fields None xa → refusal_of R (record { head = h; args = xa }) ≡ None → fits v_line (values xa) ≡ true
      → PlacedRight R.tables (placed_line (values xa))
  new h xa f e = new_placed R.tables xa f (ranged R (record { head = h; args = xa }) e) (standing R (record { head = h; args = xa }) e)

  pub placed : (h : Head) (xa : List Arg) → Formed h xa → refusal_of R (record { head = h; args = xa }) ≡ None
      → Placed R.tables → Placed (add_line R.tables n h xa)
  unfolding add_line
  placed f_line xa f e c =
      record { storages = c.storages; variables = before f_line xa _ c.variables; statics = before f_line xa _ c.statics }
  placed s_line xa f e c =
      record {
        storages = All_append StorageRight R.tables.storages _ c.storages (new_storage R xa f e);
        variables = before s_line xa _ c.variables;
        statics = before s_line xa _ c.statics;
      }
  placed v_line xa f e c =
      record {
        storages = c.storages;
        variables = before v_line xa _ (All_append (PlacedRight R.tables) R.tables.variables _ c.variables (new v_line xa f e (fitting R _ e)));
        statics = before v_line xa _ c.statics;
      }
  placed g_line xa f e c =
      record {
        storages = c.storages;
        variables = before g_line xa _ c.variables;
        statics = before g_line xa _ (All_append (PlacedRight R.tables) R.tables.statics _ c.statics (new g_line xa f e (fitting R _ e)));
      }
  placed (t_line w) xa f e c =
      record { storages = c.storages; variables = before (t_line w) xa _ c.variables; statics = before (t_line w) xa _ c.statics }
  placed (p_line w) xa f e c =
      record { storages = c.storages; variables = before (p_line w) xa _ c.variables; statics = before (p_line w) xa _ c.statics }
  placed (n_line w) xa f e c =
      record { storages = c.storages; variables = before (n_line w) xa _ c.variables; statics = before (n_line w) xa _ c.statics }
