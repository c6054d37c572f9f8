-- Marks and depths together, from number to number.
use mathlib.Core.Path.{◌≡◌, refl, sym}
use mathlib.Core.Bool.{not, ◌&&◌}
use mathlib.Core.List.{List, ◌∷◌, ◌++◌, []}
use Rattle.std.specs.Prelude.{None, Some}
use Rattle.std.proofs.lemmas.Option.{none-some, same_Some}
use Prim.Native.Nat.{ℕ, ◌+◌, ◌-◌, ◌<◌, max}
use native.Mathlib.Omega.{arith}
use native.Mathlib.Nat.{zero-add}
use Rattle.tables.specs.Tables.{tab}
use Rattle.fields.proofs.Tabs.{tab_more}
use Rattle.tables.specs.declared.Counts.{Counts}
use Rattle.spec.specs.Forms.{Arg}
use Rattle.spec.specs.Read.{Used, used_of, mark_of, once, mark}
use Rattle.line_checks.specs.Rows.{used_in}
use Rattle.line_checks.specs.Steps.{deepest_in, MarkedOne, MarkedDeep}
use Rattle.line_checks.proofs.CheckLaws.{and_assoc, tab_from, alike_same, alike_then}
use Rattle.line_checks.proofs.AlikeLaws.{deepest_alike}

-- ---------------------------------------------------------------- one number behind others

once_both : (xs ys : List Arg) (U : Used) → once (xs ++ ys) U ≡ (once xs U && once ys (mark xs U))
unfolding once mark
once_both [] ys U = refl
once_both (a ∷ xs) ys U = let V = mark_of U a.class a.value in rw (once_both xs ys V) (and_assoc (not (used_of U a.class a.value)) (once xs V) (once ys (mark xs V)))

mark_both : (xs ys : List Arg) (U : Used) → mark (xs ++ ys) U ≡ mark ys (mark xs U)
unfolding mark
mark_both [] ys U = refl
mark_both (a ∷ xs) ys U = mark_both xs ys _

deepest_both : (ws : List ℕ) (c : Counts) (xs ys : List Arg) → deepest_in ws c (xs ++ ys) ≡ max (deepest_in ws c xs) (deepest_in ws c ys)
unfolding deepest_in
deepest_both ws c [] ys = omega arith
deepest_both ws c (a ∷ xs) ys = let e = deepest_both ws c xs ys in omega (arith, e)

module _ (u t v : List ℕ) (c : Counts) (xs : List Arg) (a : Arg) (most : ℕ) (s : MarkedDeep u t c xs (Some most)) where
  -- marked, as those before it were
  marks_more : (d : ℕ) → MarkedOne t v c a.class a.value most (Some d) → MarkedDeep u v c (xs ++ a ∷ []) (Some d)
  unfolding once mark deepest_in
  marks_more d m =
      record {
        whole = record {
          answer = rw (once_both xs (a ∷ []) (used_in u c), ← s.whole.answer, ← s.whole.marks refl, ← m.marking.answer);
          marks = λ g. rw (mark_both xs (a ∷ []) (used_in u c), ← s.whole.marks refl) m.marking.marks;
          alike = alike_then u t v s.whole.alike m.marking.alike;
        };
        deep = λ e g. omega (arith, m.deep e g, deepest_both v c xs (a ∷ []), deepest_alike t v c m.marking.alike xs, s.deep most refl);
      }

  -- marked a second time, whatever stands behind it
  marks_twice : (ys : List Arg) → MarkedOne t v c a.class a.value most None → MarkedDeep u v c (xs ++ a ∷ ys) None
  unfolding once mark
  marks_twice ys m =
      record {
        whole = record {
          answer = rw (once_both xs (a ∷ ys) (used_in u c), ← s.whole.answer, ← s.whole.marks refl, ← m.marking.answer);
          marks = λ g. absurd (let z : ◌≡◌ {A = ℕ} 0 1 = cc in omega arith);
          alike = alike_then u t v s.whole.alike m.marking.alike;
        };
        deep = λ d g. absurd (none-some d g);
      }

-- ---------------------------------------------------------------- a loop over numbers

pub marks_none : (u : List ℕ) (c : Counts) (f : ℕ → Arg) → MarkedDeep u u c (tab f 0 0) (Some 0)
unfolding tab once mark deepest_in
marks_none u c f = record { whole = record { answer = refl; marks = λ g. refl; alike = alike_same u }; deep = λ d g. sym (same_Some 0 d g) }

module _ (u t v : List ℕ) (c : Counts) (f : ℕ → Arg) (i most : ℕ) (a : Arg) (s : MarkedDeep u t c (tab f 0 i) (Some most)) (q : f i ≡ a) where
  pub marks_next : (j d : ℕ) → j ≡ i + 1 → MarkedOne t v c a.class a.value most (Some d) → MarkedDeep u v c (tab f 0 j) (Some d)
  marks_next j d z m = rw (z, tab_more f 0 i, zero-add, q) (marks_more u t v c (tab f 0 i) a most s d m)

  pub marks_stop : (n : ℕ) → i < n → MarkedOne t v c a.class a.value most None → MarkedDeep u v c (tab f 0 n) None
  marks_stop n h m = rw (tab_from f i n h, q) (marks_twice u t v c (tab f 0 i) a most s (tab f (i + 1) (n - (i + 1))) m)
