-- A loop over the fields of a list: those passed, the one it is at, and those that are left.
use mathlib.Core.Path.{◌≡◌, refl, sym, ◌∙◌}
use mathlib.Core.Bool.{Bool, true, false}
use mathlib.Core.List.{List, map, ◌∷◌, ◌++◌, []}
use Prim.Native.Nat.{ℕ, suc}
use lib.Dec.{eqb}
use lib.ListN.{length, drop, take-append-drop}
use lib.Seq.{drop-cons}
use denote.Ref.{Bor}
use denote.Param.Members.{Mut}
use Rattle.std.specs.Prelude.{Option, Some, None}
use Rattle.std.specs.Fn.{CalledAt}
use Rattle.std.specs.Iterator.{Yields}
use Rattle.std.specs.List.{slice_split}
use Rattle.std.specs.Slice.Iter.{split_steps, split_rest, split_done, split_callee}
use Rattle.std.proofs.lemmas.List.Splits.{slice_split-cons_yes, slice_split-cons_no}
use Rattle.std.proofs.lemmas.Iterator.Splits.{YieldsList-from_slice_split}
use Rattle.std.proofs.lemmas.Iterator.Consumers.{YieldsList-so_far, YieldsList-turn, YieldsList-end}
use Rattle.spec.specs.Text.{split, comma}
use Rattle.fields.proofs.Marks.{split_some}

-- all the fields are those passed, f, and others
pub record At (all passed : List (List ℕ)) (f : List ℕ) : Type 0 where
  pub rest : List (List ℕ)
  pub is : all ≡ passed ++ f ∷ rest

-- in the library's words
split_is : (s : List ℕ) → slice_split (λ x. eqb x comma) s ≡ split comma s
unfolding split
split_is [] = refl
split_is (x ∷ xs) = go (eqb x comma) refl (split_is xs)
  where
    go : (t : Bool) → eqb x comma ≡ t → slice_split (λ x. eqb x comma) xs ≡ split comma xs → slice_split (λ x. eqb x comma) (x ∷ xs) ≡ split comma (x ∷ xs)
    go true e ih = slice_split-cons_yes (λ x. eqb x comma) x xs e ∙ rw (ih, split, e)
    go false e ih = slice_split-cons_no (λ x. eqb x comma) x xs e ∙ rw (ih, split, e, split_some comma xs)

module _ {F : Type 0} (g : Mut F (Bor ℕ × Unit {0}) Bool) (s t : _) (xs : List (Bor (List ℕ))) (y : Yields (split_steps g) s xs t) (list : List ℕ) (rest : split_rest s ≡ list) (done : split_done s ≡ false)
    {f : F} (callee : split_callee s ≡ f) (tests : (x : ℕ) (b : Bool) (q : F) → CalledAt g f x b q → (q ≡ f) × (b ≡ eqb x comma)) where
  pub here : (r : Option (Bor (List ℕ))) (u : _) (x : Bor (List ℕ)) → r ≡ Some x → split_steps g t r u → At (split comma list) (map (λ x. x.now) xs) x.now
  here r u x e p =
      let road = YieldsList-from_slice_split g (λ x. eqb x comma) list rest done callee tests in
      let turn = YieldsList-turn road xs t y r u x e p in
      let all = slice_split (λ x. eqb x comma) list in
      let n = length xs in
      record {
        rest = drop (suc n) all;
        is = sym (split_is list) ∙ sym (take-append-drop n all) ∙ rw (drop-cons all n x.now turn.0, YieldsList-so_far road xs t y, ← turn.1);
      }

  pub ended : (r : Option (Bor (List ℕ))) (u : _) → r ≡ None → split_steps g t r u → split comma list ≡ map (λ x. x.now) xs
  ended r u e p = sym (split_is list) ∙ sym (YieldsList-end (YieldsList-from_slice_split g (λ x. eqb x comma) list rest done callee tests) xs t y r u e p).0
