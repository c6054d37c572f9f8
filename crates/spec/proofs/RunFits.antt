-- The premise that numbers fit their types' widths asks no more than that: data of a type, each number of a bits type below 2 ^ its width, fits.
use Prim.Native.Nat.{ℕ, zero, suc}
use mathlib.Core.Bool.{Bool, true, ◌&&◌}
use mathlib.Core.List.{List}
use mathlib.Core.Path.{◌≡◌, refl}
use borrow.Author.Tests.{lt-ltb}
use Rattle.spec.specs.Ticket.{Tables}
use Rattle.spec.specs.Eval.{Data, Datas, no_data, part, fits}
use Rattle.spec.proofs.Bools.{and_true}
use Rattle.spec.proofs.RunTyping.{Has, has_unit, has_bool, has_number, has_array, has_struct, has_tuple, plain_bits, plain_pointer, plain_opaque, HasAll, has_none, has_more}

module _ (T : Tables) where
  -- the meaning's own test of parts
  abbrev fit_parts : ℕ → Datas → Bool
  fit_parts k no_data = true
  fit_parts k (part t d ds) = fits T k t d && fit_parts k ds

  mutual
    unfolding fits

    -- as deep as k
    pub has_fits : (k : ℕ) {ty : ℕ} {d : Data} → Has T ty d → fits T k ty d ≡ true
    has_fits zero q = refl
    has_fits (suc k) (has_unit e) = rw e refl
    has_fits (suc k) (has_bool e l) = rw e refl
    has_fits (suc k) (has_number (plain_bits e l) z) = rw e (lt-ltb _ _ l)
    has_fits (suc k) (has_number (plain_pointer e l) z) = rw e refl
    has_fits (suc k) (has_number (plain_opaque e l) z) = rw e refl
    has_fits (suc k) (has_array e qs) = rw e (all_fit k qs)
    has_fits (suc k) (has_struct e qs) = rw e (all_fit k qs)
    has_fits (suc k) (has_tuple e qs) = rw e (all_fit k qs)

    all_fit : (k : ℕ) {ts : List ℕ} {ds : Datas} → HasAll T ts ds → fit_parts k ds ≡ true
    all_fit k has_none = refl
    all_fit k (has_more q qs) = and_true (has_fits k q) (all_fit k qs)
