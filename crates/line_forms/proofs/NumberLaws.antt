-- A form whose numbers stand in the lists.
use mathlib.Core.Path.{◌≡◌, ap}
use mathlib.Core.Bool.{Bool, true, false}
use mathlib.Core.List.{List, ◌∷◌, ◌++◌}
use Rattle.std.specs.Prelude.{None, Some}
use Prim.Native.Nat.{ℕ, zero, suc, ◌+◌, ◌*◌, ◌≤◌}
use native.Mathlib.Omega.{arith}
use native.Mathlib.Nat.{add-zero, zero-add}
use lib.ListN.{length, get_or}
use Rattle.tables.specs.Tables.{tab, pick, run}
use Rattle.fields.specs.Fields.{numbers_of, onto, fields_from, Listing, Kept}
use Rattle.tables.proofs.Laws.{length_run, arg_in}
use Rattle.fields.proofs.Tabs.{tab_same, run_kept}
use Rattle.line_forms.specs.Classes.{class_at, fields_of, rest_of, fits, arg_at, form_by_number, args_of, line_from, FormAt}
use Rattle.line_forms.specs.declared.LineKind.{LineKind}

pub run_add : (ls : List ℕ) (a m n : ℕ) → run ls a (m + n) ≡ run ls a m ++ run ls (a + m) n
unfolding run tab
run_add ls a zero n = rw (zero-add, add-zero)
run_add ls a (suc m) n = let e : suc m + n ≡ suc (m + n) = omega arith in let g : suc a + m ≡ a + suc m = omega arith in rw (e, ← g) (ap (λ t. get_or ls a 0 ∷ t) (run_add ls (suc a) m n))

-- a form's line, from its numbers as a list
lined : (k : LineKind) (w : ℕ) (ls : List ℕ) (used n : ℕ)
    → form_by_number k w (Some (run ls used n)) ≡ pick (fits (fields_of k w) (rest_of k w) n) (Some (line_from (record { kind = k; word = w; count = n }) ls used)) None
unfolding form_by_number line_from args_of arg_at
lined k w ls used n =
    rw (
      length_run ls used n,
      tab_same (arg_at (class_at k w) (λ i. get_or (run ls used n) i 0)) (arg_at (class_at k w) (λ i. get_or ls (used + i) 0)) 0 n
          (λ i l u. ap (λ (x : ℕ). record { class = class_at k w i; value = x }) (arg_in ls used n i (omega arith))),
    )

kept_less : (m n : ℕ) (u t : List ℕ) → n ≤ m → Kept m u t → Kept n u t
kept_less m n u t h k = record { same = λ i l. k.same i (omega arith) }

module _ (k : LineKind) (w : ℕ) (s u t : List ℕ) (used first p : ℕ) where
  pub numbered_broken : Listing s p u t (used + first) None → FormAt (form_by_number k w (onto (run u used first) (numbers_of (fields_from s p)))) s u t used None
  unfolding form_by_number onto
  numbered_broken a =
      record {
        answer = rw (← a.answer);
        half = tt;
        kept = kept_less (used + first) used u t (omega arith) a.kept;
      }

  module _ (n : ℕ) (a : Listing s p u t (used + first) (Some n)) (b : Bool) (q : b ≡ fits (fields_of k w) (rest_of k w) (first + n)) where
    joined : onto (run u used first) (numbers_of (fields_from s p)) ≡ Some (run t used (first + n))
    unfolding onto
    joined = rw (← a.answer, run_add t used first n, run_kept u t (used + first) used first a.kept (omega arith))

    pub numbered_not : b ≡ false → FormAt (form_by_number k w (onto (run u used first) (numbers_of (fields_from s p)))) s u t used None
    numbered_not f =
        record {
          answer = rw (joined, lined k w t used (first + n), ← q, f);
          half = tt;
          kept = kept_less (used + first) used u t (omega arith) a.kept;
        }

    pub numbered_fits : b ≡ true → first * 2 + 1 ≤ p → p ≤ length s + 1
        → FormAt (form_by_number k w (onto (run u used first) (numbers_of (fields_from s p)))) s u t used (Some (record { kind = k; word = w; count = first + n }))
    numbered_fits f l l' =
        record {
          answer = rw (joined, lined k w t used (first + n), ← q, f);
          half = omega (arith, a.fewer);
          kept = kept_less (used + first) used u t (omega arith) a.kept;
        }

pub ruleset numbered_laws = (numbered_broken, numbered_not, numbered_fits)
