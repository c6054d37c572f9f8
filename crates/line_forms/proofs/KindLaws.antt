-- A line's kind by its first byte.
use mathlib.Core.Path.{◌≡◌, refl, sym, ap, ◌∙◌}
use mathlib.Core.Bool.{Bool, true, false}
use mathlib.Core.List.{List, ◌∷◌, []}
use Rattle.std.specs.Prelude.{Option, None, Some, slice_get}
use Prim.Native.Nat.{ℕ, ◌<◌}
use native.Mathlib.Omega.{arith}
use lib.Dec.{eqb}
use lib.ListN.{length, get_or}
use borrow.Author.Tests.{eqb-true, ne_eqb, le-leb}
use Rattle.spec.specs.Text.{same, split, comma}
use Rattle.spec.proofs.Bools.{and_false}
use Rattle.fields.specs.Fields.{fields_from}
use Rattle.fields.proofs.Marks.{split_some}
use Rattle.spec.specs.Forms.{find, kind_rules, line_of, form_of_fields, form_by}
use Rattle.line_forms.specs.Classes.{OneByte, KindAt}
use Rattle.line_forms.specs.declared.LineKind.{LineKind}
use Rattle.line_forms.specs.declared.LineKind.TheVariants.{Functions, Types, Storages, Variables, Statics, Places, Nodes}

-- a first field of more than one byte
long_word : (x b c : ℕ) (f : List ℕ) → same (x ∷ []) (b ∷ c ∷ f) ≡ false
unfolding same
long_word x b c f = and_false (eqb x b)

long_kind : (b c : ℕ) (f : List ℕ) → find kind_rules (b ∷ c ∷ f) ≡ None
unfolding find
long_kind b c f =
    rw (find, long_word 102 b c f, find, long_word 116 b c f, find, long_word 115 b c f, find, long_word 118 b c f, find, long_word 103 b c f, find, long_word 112 b c f, find, long_word 110 b c f)

long_line : (b c : ℕ) (f : List ℕ) (ws : List (List ℕ)) → form_of_fields ((b ∷ c ∷ f) ∷ ws) ≡ None
long_line b c f ws = ap (λ r. form_by r ws) (long_kind b c f)

-- a line that begins with a comma is none, as one of the letter `,` would be
comma_first : (xs : List ℕ) → line_of (comma ∷ xs) ≡ None
unfolding line_of split find same
comma_first xs = refl

comma_kind : find kind_rules (comma ∷ []) ≡ None
unfolding find same
comma_kind = refl

alone : (b : ℕ) (t : Bool) → eqb b comma ≡ t → line_of (b ∷ []) ≡ form_by (find kind_rules (b ∷ [])) (fields_from (b ∷ []) 2)
unfolding line_of split fields_from
alone b true e = rw (eqb-true b comma e, comma_first [], comma_kind)
alone b false e = rw (split, e)

before_comma : (b : ℕ) (xs : List ℕ) (t : Bool) → eqb b comma ≡ t → line_of (b ∷ comma ∷ xs) ≡ form_by (find kind_rules (b ∷ [])) (fields_from (b ∷ comma ∷ xs) 2)
unfolding line_of split fields_from
before_comma b xs true e = rw (eqb-true b comma e, comma_first (comma ∷ xs), comma_kind)
before_comma b xs false e = rw (split, e, le-leb 2 (length (b ∷ comma ∷ xs)) (omega arith))

before_other : (b c : ℕ) (xs : List ℕ) → eqb c comma ≡ false → (t : Bool) → eqb b comma ≡ t → None ≡ line_of (b ∷ c ∷ xs)
unfolding line_of split
before_other b c xs n true e = rw (eqb-true b comma e, comma_first (c ∷ xs))
before_other b c xs n false e = rw (split, e, split, n, split_some comma xs) (sym (long_line b c _ _))

pub byte_none : (s : List ℕ) → 1 < length s → (get_or s 1 0 ≡ comma → ⊥) → OneByte s None
byte_none [] h n = absurd (omega arith)
byte_none (b ∷ []) h n = absurd (omega arith)
byte_none (b ∷ c ∷ xs) h n = record { right = before_other b c xs (ne_eqb c comma n) (eqb b comma) refl }

pub byte_first : (s : List ℕ) (r : Option ℕ) → r ≡ slice_get s 0 → (1 < length s → get_or s 1 0 ≡ comma) → OneByte s r
unfolding line_of split find same
byte_first [] r e g = rw e (record { right = refl })
byte_first (b ∷ []) r e g = rw e (record { right = (alone b (eqb b comma) refl, omega arith) })
byte_first (b ∷ c ∷ xs) r e g = rw (e, g (omega arith)) (record { right = (before_comma b xs (eqb b comma) refl, omega arith) })

-- ---------------------------------------------------------------- the letters

abbrev letter : LineKind → ℕ
letter Functions = 102
letter Types = 116
letter Storages = 115
letter Variables = 118
letter Statics = 103
letter Places = 112
letter Nodes = 110

found : (s : List ℕ) (k : LineKind) → OneByte s (Some (letter k)) → KindAt s (Some k)
unfolding find same
found s Functions a = record { right = a.right }
found s Types a = record { right = a.right }
found s Storages a = record { right = a.right }
found s Variables a = record { right = a.right }
found s Statics a = record { right = a.right }
found s Places a = record { right = a.right }
found s Nodes a = record { right = a.right }

module _ (s : List ℕ) (b : ℕ) (a : OneByte s (Some b)) where
  pub by_f : b ≡ 102 → KindAt s (Some Functions)
  by_f e = found s Functions (rw e at a)

  pub by_t : b ≡ 116 → KindAt s (Some Types)
  by_t e = found s Types (rw e at a)

  pub by_s : b ≡ 115 → KindAt s (Some Storages)
  by_s e = found s Storages (rw e at a)

  pub by_v : b ≡ 118 → KindAt s (Some Variables)
  by_v e = found s Variables (rw e at a)

  pub by_g : b ≡ 103 → KindAt s (Some Statics)
  by_g e = found s Statics (rw e at a)

  pub by_p : b ≡ 112 → KindAt s (Some Places)
  by_p e = found s Places (rw e at a)

  pub by_n : b ≡ 110 → KindAt s (Some Nodes)
  by_n e = found s Nodes (rw e at a)

other_word : (x b : ℕ) → (b ≡ x → ⊥) → same (x ∷ []) (b ∷ []) ≡ false
unfolding same
other_word x b n = rw (ne_eqb x b (λ e. n (sym e)))

other_kind : (b : ℕ) → ((k : LineKind) → b ≡ letter k → ⊥) → find kind_rules (b ∷ []) ≡ None
unfolding find
other_kind b n =
    rw (find, other_word 102 b (n Functions), find, other_word 116 b (n Types), find, other_word 115 b (n Storages), find, other_word 118 b (n Variables), find, other_word 103 b (n Statics), find, other_word 112 b (n Places), find, other_word 110 b (n Nodes))

pub by_none : (s : List ℕ) (b : ℕ) → OneByte s (Some b) → (b ≡ 102 → ⊥) → (b ≡ 116 → ⊥) → (b ≡ 115 → ⊥) → (b ≡ 118 → ⊥) → (b ≡ 103 → ⊥) → (b ≡ 112 → ⊥) → (b ≡ 110 → ⊥) → KindAt s None
by_none s b a n₁ n₂ n₃ n₄ n₅ n₆ n₇ = record { right = sym (a.right.0 ∙ ap (λ r. form_by r (fields_from s 2)) (other_kind b n)) }
  where
    n : (k : LineKind) → b ≡ letter k → ⊥
    n Functions = n₁
    n Types = n₂
    n Storages = n₃
    n Variables = n₄
    n Statics = n₅
    n Places = n₆
    n Nodes = n₇

pub ruleset letters = (by_f, by_t, by_s, by_v, by_g, by_p, by_n, by_none)
