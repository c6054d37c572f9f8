-- Type lines: what holds of each, said of earlier lines only, and so kept when a line is appended.
use Prim.Native.Nat.{ℕ, zero, suc, ◌+◌, ◌*◌, ◌≤◌, ◌<◌}
use mathlib.Core.List.{List, [], ◌∷◌, ◌++◌}
use mathlib.Core.Path.{◌≡◌, refl, sym, ap, ◌∙◌}
use native.Mathlib.Omega.{arith}
use native.Mathlib.Decide.{dec_lt}
use lib.ListN.{length, get_or, get_or-append, get_or-eq_default, length-append}
use lib.Seq.{get_or-append_seam}
use Rattle.spec.specs.Limits.{type_size_limit, type_weight_limit, type_depth_limit}
use Rattle.spec.specs.Ticket.{TypeWord, t_unit, t_bool, t_bits, t_float, t_pointer, t_array, t_struct, t_tuple, t_opaque, TypeLine, Tables, no_type, type_at, arg, type_size_by, weight_by, type_size_in}
use Rattle.spec.specs.Readable.{All, All_below, type_parts, Counted}
use Rattle.spec.proofs.ReadingLists.{All_map, All_both, below_all, sum_same}

abbrev pub at : List TypeLine → ℕ → TypeLine
at ts k = get_or ts k no_type

abbrev pub size_at : List TypeLine → ℕ → ℕ
size_at ts k = (at ts k).size

abbrev pub weight_at : List TypeLine → ℕ → ℕ
weight_at ts k = (at ts k).weight

pub record TypeRight (ts : List TypeLine) (k : ℕ) (t : TypeLine) : Type 0 where
  pub counted : Counted t.word t.args
  pub sized : t.size ≡ type_size_by (size_at ts) t.word t.args
  pub weighed : t.weight ≡ weight_by (weight_at ts) t.word t.args
  pub width_least : t.word ≡ t_bits → 1 ≤ arg t.args 0
  pub width_most : t.word ≡ t_bits → arg t.args 0 ≤ 64
  pub size_most : t.size ≤ type_size_limit
  pub weight_most : t.weight ≤ type_weight_limit
  pub parts_earlier : All_below k (type_parts t.word t.args)
  pub parts_less_deep : All (λ i. (at ts i).depth < t.depth) (type_parts t.word t.args)
  pub depth_least : 1 ≤ t.depth
  pub depth_most : t.depth ≤ type_depth_limit

-- every type line, and what stands at a number that no line has
abbrev pub Types : List TypeLine → Type 0
Types ts = (k : ℕ) → TypeRight ts k (at ts k)

-- ---------------------------------------------------------------- a size and a weight go by a type's parts only

size_by_parts : (f g : ℕ → ℕ) (w : TypeWord) (xs : List ℕ) → All (λ i. f i ≡ g i) (type_parts w xs)
    → type_size_by f w xs ≡ type_size_by g w xs
unfolding All type_parts
size_by_parts f g t_unit xs h = refl
size_by_parts f g t_bool xs h = refl
size_by_parts f g t_bits xs h = refl
size_by_parts f g t_float xs h = refl
size_by_parts f g t_pointer xs h = refl
size_by_parts f g t_array xs h = ap (λ (s : ℕ). s * arg xs 1) h.0
size_by_parts f g t_struct xs h = sum_same f g xs h
size_by_parts f g t_tuple xs h = sum_same f g xs h
size_by_parts f g t_opaque xs h = refl

weight_by_parts : (f g : ℕ → ℕ) (w : TypeWord) (xs : List ℕ) → All (λ i. f i ≡ g i) (type_parts w xs)
    → weight_by f w xs ≡ weight_by g w xs
unfolding All type_parts
weight_by_parts f g t_unit xs h = refl
weight_by_parts f g t_bool xs h = refl
weight_by_parts f g t_bits xs h = refl
weight_by_parts f g t_float xs h = refl
weight_by_parts f g t_pointer xs h = refl
weight_by_parts f g t_array xs h = ap (λ (s : ℕ). 1 + arg xs 1 * s) h.0
weight_by_parts f g t_struct xs h = ap (λ (s : ℕ). 1 + s) (sum_same f g xs h)
weight_by_parts f g t_tuple xs h = ap (λ (s : ℕ). 1 + s) (sum_same f g xs h)
weight_by_parts f g t_opaque xs h = refl

-- ---------------------------------------------------------------- one more line

-- a line says the same where one more stands behind it
kept : (ts : List TypeLine) (t : TypeLine) (k : ℕ) (u : TypeLine) → k ≤ length ts → TypeRight ts k u → TypeRight (ts ++ (t ∷ [])) k u
kept ts t k u h r =
    let ts' : List TypeLine = ts ++ (t ∷ []) in
    let xs : List ℕ = type_parts u.word u.args in
    let e : All (λ i. at ts i ≡ at ts' i) xs =
    below_all k (λ i. at ts i ≡ at ts' i) xs (λ i p. sym (get_or-append ts (t ∷ []) no_type i (omega arith))) r.parts_earlier in
    record {
      counted = r.counted;
      sized = r.sized ∙ size_by_parts (size_at ts) (size_at ts') u.word u.args (All_map xs (λ i p. ap (λ (v : TypeLine). v.size) p) e);
      weighed =
          r.weighed ∙ weight_by_parts (weight_at ts) (weight_at ts') u.word u.args (All_map xs (λ i p. ap (λ (v : TypeLine). v.weight) p) e);
      width_least = r.width_least;
      width_most = r.width_most;
      size_most = r.size_most;
      weight_most = r.weight_most;
      parts_earlier = r.parts_earlier;
      parts_less_deep = All_both xs (λ i p q. rw p at q) e r.parts_less_deep;
      depth_least = r.depth_least;
      depth_most = r.depth_most;
    }

pub no_type_right : (ts : List TypeLine) (k : ℕ) → TypeRight ts k no_type
unfolding All All_below type_parts Counted
no_type_right ts k =
    record {
      counted = refl;
      sized = refl;
      weighed = refl;
      width_least = λ e. let z : ◌≡◌ {A = ℕ} 0 1 = cc in omega arith;
      width_most = λ e. let z : ◌≡◌ {A = ℕ} 0 1 = cc in omega arith;
      size_most = omega arith;
      weight_most = omega arith;
      parts_earlier = tt;
      parts_less_deep = tt;
      depth_least = omega arith;
      depth_most = omega arith;
    }

pub types_append : (ts : List TypeLine) (t : TypeLine) → Types ts → TypeRight ts (length ts) t → Types (ts ++ (t ∷ []))
types_append ts t h new k = before (dec_lt k (length ts))
  where
    behind : Dec (length ts < k) → ¬ (k < length ts) → TypeRight (ts ++ (t ∷ [])) k (at (ts ++ (t ∷ [])) k)
    behind (yes p) q =
        rw (get_or-eq_default (ts ++ (t ∷ [])) no_type {n = k} (simp length-append (omega arith))) (no_type_right (ts ++ (t ∷ [])) k)
    behind (no p) q =
        let e : length ts ≡ k = omega arith in
        rw (← e) (rw (get_or-append_seam ts t [] no_type) (kept ts t (length ts) t (omega arith) new))

    before : Dec (k < length ts) → TypeRight (ts ++ (t ∷ [])) k (at (ts ++ (t ∷ [])) k)
    before (yes p) = rw (get_or-append ts (t ∷ []) no_type k p) (kept ts t k (at ts k) (omega arith) (h k))
    before (no q) = behind (dec_lt (length ts) k) q

-- ---------------------------------------------------------------- the stored size is the computed one

stored : (T : Tables) → Types T.types → (d ty : ℕ) → (type_at T ty).depth ≤ d → (type_at T ty).size ≡ type_size_in d T ty
unfolding type_size_in
stored T h zero ty p = absurd (let q = (h ty).depth_least in omega arith)
stored T h (suc d) ty p =
    (h ty).sized
    ∙ size_by_parts (λ i. (type_at T i).size) (λ i. type_size_in d T i) (type_at T ty).word (type_at T ty).args
    (All_map (type_parts (type_at T ty).word (type_at T ty).args) (λ i q. stored T h d i (omega arith)) (h ty).parts_less_deep)

pub stored_size : (T : Tables) → Types T.types → (ty : ℕ) → (type_at T ty).size ≡ type_size_in type_depth_limit T ty
stored_size T h ty = stored T h type_depth_limit ty (h ty).depth_most
