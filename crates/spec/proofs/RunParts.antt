-- Aggregates: a type's parts, and THE STEP of extract and insert.
use Prim.Native.Nat.{ℕ, zero, suc, ◌+◌}
use mathlib.Core.Bool.{Bool, true, false, ◌&&◌}
use mathlib.Core.List.{List, [], ◌∷◌}
use Rattle.std.specs.Prelude.{Option, None, Some}
use Rattle.std.proofs.lemmas.Option.{none-some}
use mathlib.Core.Path.{◌≡◌, refl, sym, ap, ◌∙◌}
use native.Mathlib.Omega.{arith}
use native.Mathlib.Nat.{le_refl}
use lib.Dec.{ltb, eqb}
use borrow.Author.Tests.{eqb-true, lt-ltb, le-ltb, ltb-true, ltb-false}
use lib.ListN.{replicate}
use Rattle.spec.specs.Hir.{Expr, Exprs, no_exprs, ◌∷ᵉ◌}
use Rattle.spec.specs.Ticket.{Tables, type_at, arg, TypeWord, t_unit, t_bool, t_bits, t_float, t_pointer, t_array, t_struct, t_tuple, t_opaque}
use Rattle.spec.specs.Lir.{Value, value, unit, bit_value, bytes_value, Values, ◌∷ᵛ◌}
use Rattle.spec.specs.Lir as lir
use Rattle.spec.specs.Monad.{or_refuse}
use Rattle.spec.specs.Operands.{nth, nth_value, set_value, value_type, value_repr}
use Rattle.spec.specs.Lower.{lower_extract, lower_insert}
use Rattle.spec.specs.Machine.{Memory, Given}
use Rattle.spec.specs.Typed.{type_of, part_of_word, has_parts, part_type, typed, parts_typed}
use Rattle.spec.specs.Eval.{Data, parts, Datas, part, parts_in, part_at, set_part}
use Rattle.spec.proofs.RunLogic.{both, never_true}
use Rattle.spec.proofs.RunFrames.{agree_refl}
use Rattle.spec.proofs.RunHoare.{From, ◌then◌, ending, purely, got, missing, at_it, option_then, refused_first, never}
use Rattle.spec.proofs.RunTyping.{Has, has_array, has_struct, has_tuple, HasAll, has_more}
use Rattle.spec.proofs.RunValues.{Denotes, of_unit, of_bit, of_bytes, of_parts, DenoteAll, of_none, of_more, Gives}

-- ---------------------------------------------------------------- the types of a type's parts

abbrev pub part_types : TypeWord → List ℕ → List ℕ
part_types t_unit xs = []
part_types t_bool xs = []
part_types t_bits xs = []
part_types t_float xs = []
part_types t_pointer xs = []
part_types t_array xs = replicate (arg xs 1) (arg xs 0)
part_types t_struct xs = xs
part_types t_tuple xs = xs
part_types t_opaque xs = []

abbrev pub types_of : Exprs → List ℕ
types_of no_exprs = []
types_of (e ∷ᵉ es) = type_of e ∷ types_of es

nth_replicate : (n t i : ℕ) → nth (replicate n t) i ≡ elim (ltb i n) [ true ↦ Some t | false ↦ None ]
unfolding nth
nth_replicate zero t i = rw (le-ltb i 0 (omega arith)) refl
nth_replicate (suc n) t zero = rw (lt-ltb 0 (suc n) (omega arith)) refl
nth_replicate (suc n) t (suc i) = nth_replicate n t i ∙ ap (λ (b : Bool). elim b [ true ↦ Some t | false ↦ None ]) (same (ltb i n) refl)
  where
    same : (b : Bool) → ltb i n ≡ b → b ≡ ltb (suc i) (suc n)
    same true e = sym (lt-ltb (suc i) (suc n) (omega (arith, ltb-true i n e)))
    same false e = sym (le-ltb (suc i) (suc n) (omega (arith, ltb-false i n e)))

nth_part : (w : TypeWord) (xs : List ℕ) (i : ℕ) → part_of_word w xs i ≡ nth (part_types w xs) i
unfolding nth
nth_part t_unit xs i = refl
nth_part t_bool xs i = refl
nth_part t_bits xs i = refl
nth_part t_float xs i = refl
nth_part t_pointer xs i = refl
nth_part t_array xs i = sym (nth_replicate (arg xs 1) (arg xs 0) i)
nth_part t_struct xs i = refl
nth_part t_tuple xs i = refl
nth_part t_opaque xs i = refl

-- the meaning's own test of a type
abbrev pub is_type : Option ℕ → ℕ → Bool
is_type None ty = false
is_type (Some t) ty = eqb t ty

pub type_is : (o : Option ℕ) (t : ℕ) → is_type o t ≡ true → o ≡ Some t
type_is None t e = cc
type_is (Some s) t e = ap Some (eqb-true s t e)

ended : (o : Option ℕ) → elim o [ None ↦ true | Some t ↦ false ] ≡ true → o ≡ None
ended None e = refl
ended (Some t) e = cc

module _ (T : Tables) where
  abbrev pub parts_of : ℕ → List ℕ
  parts_of ty = part_types (type_at T ty).word (type_at T ty).args

  pub part_type_is : (ty i : ℕ) → part_type T ty i ≡ nth (parts_of ty) i
  unfolding part_type
  part_type_is ty i = nth_part (type_at T ty).word (type_at T ty).args i

  pub parts_have : {ty : ℕ} {ds : Datas} → Has T ty (parts ds) → HasAll T (parts_of ty) ds
  parts_have (has_array e qs) = rw e qs
  parts_have (has_struct e qs) = rw e qs
  parts_have (has_tuple e qs) = rw e qs

  pub have_parts : (ty : ℕ) {ds : Datas} → has_parts (type_at T ty).word ≡ true → HasAll T (parts_of ty) ds → Has T ty (parts ds)
  have_parts ty {ds} h qs = go (type_at T ty).word refl
    where
      go : (w : TypeWord) → (type_at T ty).word ≡ w → Has T ty (parts ds)
      go t_unit e = never_true (rw e at h)
      go t_bool e = never_true (rw e at h)
      go t_bits e = never_true (rw e at h)
      go t_float e = never_true (rw e at h)
      go t_pointer e = never_true (rw e at h)
      go t_array e = has_array e (rw e at qs)
      go t_struct e = has_struct e (rw e at qs)
      go t_tuple e = has_tuple e (rw e at qs)
      go t_opaque e = never_true (rw e at h)

  pub same_shape : (ty : ℕ) {ds es : Datas} → Has T ty (parts ds) → HasAll T (parts_of ty) es → Has T ty (parts es)
  same_shape ty (has_array e qs) ps = has_array e (rw e at ps)
  same_shape ty (has_struct e qs) ps = has_struct e (rw e at ps)
  same_shape ty (has_tuple e qs) ps = has_tuple e (rw e at ps)

  pub part_typed : (e : Expr) (es : Exprs) (ty i : ℕ) → parts_typed T (e ∷ᵉ es) ty i ≡ true
      → (is_type (part_type T ty i) (type_of e) ≡ true) × (typed T e ≡ true) × (parts_typed T es ty (suc i) ≡ true)
  unfolding parts_typed
  part_typed e es ty i h =
      let b = both (is_type (part_type T ty i) (type_of e) && typed T e) (parts_typed T es ty (suc i)) h in
      let c = both (is_type (part_type T ty i) (type_of e)) (typed T e) b.0 in
      (c.0, c.1, b.1)

  -- an aggregate's parts are those of its type, no more and no fewer
  pub all_typed : (es : Exprs) (ty i : ℕ) (ts : List ℕ) → ((j : ℕ) → part_type T ty (i + j) ≡ nth ts j) → parts_typed T es ty i ≡ true → types_of es ≡ ts
  unfolding parts_typed nth
  all_typed no_exprs ty i ts k h = go ts (sym (ended (part_type T ty i) h) ∙ rw (let z : i + 0 ≡ i = omega arith in z) at (k 0))
    where
      go : (ts : List ℕ) → None ≡ nth ts 0 → [] ≡ ts
      go [] q = refl
      go (t ∷ ts) q = absurd (none-some t q)
  all_typed (e ∷ᵉ es) ty i ts k h =
      let p = part_typed e es ty i h in
      go ts (type_is _ (type_of e) p.0) (rw (let z : i + 0 ≡ i = omega arith in z) at (k 0)) k (λ us l. all_typed es ty (suc i) us l p.2)
    where
      go : (ts : List ℕ) → part_type T ty i ≡ Some (type_of e) → part_type T ty i ≡ nth ts 0 → ((j : ℕ) → part_type T ty (i + j) ≡ nth ts j)
          → ((us : List ℕ) → ((j : ℕ) → part_type T ty (suc i + j) ≡ nth us j) → types_of es ≡ us) → type_of e ∷ types_of es ≡ ts
      go [] p q k ih = absurd (none-some (type_of e) (sym q ∙ p))
      go (t ∷ ts) p q k ih =
          let z : type_of e ≡ t = cc in
          rw (z, ih ts (λ j. ap (part_type T ty) (let y : suc i + j ≡ i + suc j = omega arith in y) ∙ k (suc j))) refl

-- ---------------------------------------------------------------- extract and insert

module _ (G : Given) (T : Tables) where
  found_part : {n t : ℕ} {M : Memory} {d : Data} {vs : Values} {ds : Datas} (ts : List ℕ) (i : ℕ) → DenoteAll n M vs ds → HasAll T ts ds
      → nth ts i ≡ Some t → part_at ds i ≡ Some d → From G n M (or_refuse 24 (nth_value vs i)) (Gives T n M t d)
  unfolding nth part_at nth_value
  found_part ts i of_none qs e p = missing G 24
  found_part {n} {t} {M} {d} ts zero (of_more {v = v} {t = u} {d = c} k r rs) (has_more q qs) e p =
      let z : u ≡ t = cc in
      let y : c ≡ d = cc in
      rw (← z, ← y) (ending G (got G 24 _) (record { later = le_refl n; agree = agree_refl; typed = k; has = q; denotes = r }))
  found_part ts (suc i) (of_more k r rs) (has_more {ts = us} q qs) e p = found_part us i rs qs e p

  pub extract_step : {n t ty : ℕ} {M : Memory} {d e : Data} (v : Value) (i : ℕ) → Denotes n M (value_repr v) d → Has T ty d
      → nth (parts_of T ty) i ≡ Some t → part_at (parts_in d) i ≡ Some e → From G n M (lower_extract T v i) (Gives T n M t e)
  unfolding lower_extract
  extract_step (value t unit) i of_unit q e p = refused_first G 24 (never G)
  extract_step (value t (bit_value b)) i (of_bit f) q e p = refused_first G 24 (never G)
  extract_step (value t (bytes_value bs)) i (of_bytes f) q e p = refused_first G 24 (never G)
  extract_step (value t (lir.aggregate vs)) i (of_parts ps) q e p = ◌then◌ G (got G 24 vs) (at_it G (found_part _ i ps (parts_have T q) e p))

  -- the meaning's own choice of a part to replace
  abbrev cons_part : ℕ → Data → Option Datas → Option Datas
  cons_part t d None = None
  cons_part t d (Some ds) = Some (part t d ds)

  -- a part replaced, in the values and in the data alike
  pub record Replaced (n : ℕ) (M : Memory) (ts : List ℕ) (us : Values) (ds : Datas) : Type 0 where
    pub denote : DenoteAll n M us ds
    pub has : HasAll T ts ds

  set_denotes : {n u : ℕ} {M : Memory} {vs : Values} {ds : Datas} {e : Data} (w : Value) (ts : List ℕ) (i : ℕ) → DenoteAll n M vs ds → HasAll T ts ds
      → nth ts i ≡ Some u → Has T u e → value_type w ≡ u → Denotes n M (value_repr w) e
      → (us : Values) → set_value vs i w ≡ Some us → (es : Datas) → set_part ds i u e ≡ Some es → Replaced n M ts us es
  unfolding nth set_value set_part
  set_denotes w ts i of_none qs k p x y us a es b = absurd (none-some us a)
  set_denotes {u = u} {e = e} w ts zero (of_more {vs = vs} {ds = ds} r s ss) (has_more {t = t} q qs) k p x y us a es b =
      let a' : us ≡ w ∷ᵛ vs = cc in
      let b' : es ≡ part u e ds = cc in
      let k' : t ≡ u = cc in
      rw (a', b', k') (record { denote = of_more x y ss; has = has_more p qs })
  set_denotes {n} {u} {M} {e = e} w ts (suc i) (of_more {v = v} {vs = vs} {t = t} {d = d} {ds = ds} r s ss) (has_more {ts = ts'} q qs) k p x y us a es b =
      go (set_value vs i w) (set_part ds i u e) a b (λ ws l fs m. set_denotes w ts' i ss qs k p x y ws l fs m)
    where
      go : (o : Option Values) (f : Option Datas) → elim o [ None ↦ None | Some ws ↦ Some (v ∷ᵛ ws) ] ≡ Some us → cons_part t d f ≡ Some es
          → ((ws : Values) → o ≡ Some ws → (fs : Datas) → f ≡ Some fs → Replaced n M ts' ws fs) → Replaced n M (t ∷ ts') us es
      go None f l m ih = absurd (none-some us l)
      go (Some ws) None l m ih = absurd (none-some es m)
      go (Some ws) (Some fs) l m ih =
          let l' : us ≡ v ∷ᵛ ws = cc in
          let m' : es ≡ part t d fs = cc in
          let z = ih ws refl fs refl in
          rw (l', m') (record { denote = of_more r s z.denote; has = has_more q z.has })

  pub insert_step : {n u ty : ℕ} {M : Memory} {d e : Data} (v w : Value) (i : ℕ) (es : Datas) → Denotes n M (value_repr v) d → Has T ty d
      → nth (parts_of T ty) i ≡ Some u → Has T u e → value_type w ≡ u → Denotes n M (value_repr w) e → set_part (parts_in d) i u e ≡ Some es
      → From G n M (lower_insert T v i w ty) (Gives T n M ty (parts es))
  unfolding lower_insert
  insert_step (value t unit) w i es of_unit q k p x y b = refused_first G 24 (never G)
  insert_step (value t (bit_value _)) w i es (of_bit f) q k p x y b = refused_first G 24 (never G)
  insert_step (value t (bytes_value bs)) w i es (of_bytes f) q k p x y b = refused_first G 24 (never G)
  insert_step {n} {ty = ty} (value t (lir.aggregate vs)) w i es (of_parts ps) q k p x y b =
      ◌then◌ G (got G 24 vs) (at_it G (option_then G 24 (set_value vs i w) (λ us a.
      let z = set_denotes w (parts_of T ty) i ps (parts_have T q) k p x y us a es b in
      ending G (purely G _) (record { later = le_refl n; agree = agree_refl; typed = refl; has = same_shape T ty q z.has; denotes = of_parts z.denote }))))
