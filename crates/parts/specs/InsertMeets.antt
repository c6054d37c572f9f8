-- From the records to the trees: insert over two values that were lowered one after the other.
use Rattle.std.specs.Prelude.{◌≡◌, length, take, drop}
use Rattle.std.proofs.Math.Path.{refl}
use Rattle.std.proofs.Common.{sym, ap, subst, ◌∙◌, arith, length-append, drop_at}
use mathlib.Core.List.{List, ◌∷◌, ◌++◌, map, append_assoc, []}
use Rattle.std.specs.Prelude.{Option, None, Some, Result, Ok, Err}
use Prim.Native.Nat.{ℕ, zero, suc, ◌+◌, ◌-◌, ◌≤◌}
use Rattle.std.proofs.Math.Seq.{take-append-add}
use Rattle.answers.specs.declared.Refusal.{Refusal}
use Rattle.spec.specs.Hir.{At}
use Rattle.spec.specs.Lir.{Value, value, unit, bit_value, bytes_value, aggregate, Values, no_values, ◌∷ᵛ◌}
use Rattle.spec.specs.Ticket.{Tables}
use Rattle.spec.specs.Monad.{Out, Outcome, done, refused, nothing, ◌⊕◌, prepend, bind_to, pure, ◌>>=◌, or_refuse}
use Rattle.spec.specs.Operands.{set_value}
use Rattle.spec.specs.Lower.{lower_insert}
use Rattle.values.specs.declared.Lowering.{Lowering}
use Rattle.values.specs.declared.Value.{Value as Val}
use Rattle.values.specs.Heads.{Head, root, parts_of, head_of, preorders, count, records, records_parts, skip, skip_length}
use Rattle.values.specs.Left.{counters_in, with_stack, DoneValue}
use Rattle.values.specs.Laws.{prepend_prepend, left_then}
use Rattle.values.specs.Stack.{found_in, Moved, values_in, heads, between_kept, stands_kept, stands_left}
use Rattle.parts.specs.Meets.{left_fits, left_heads, moved_left, CasePart, MeetsPart}
use Rattle.parts.specs.Insert.{part_count, with_part, aggregate_head, CaseInsert, Inserts, Insertable}

-- ---------------------------------------------------------------- the tree with part i replaced

abbrev SetIs : List Head → List Head → List Head → ℕ → Option Values → Type 0
SetIs hs found xs n None = found ≡ []
SetIs hs found xs n (Some us) = (h : Head) × (ks : List Head) × (found ≡ h ∷ ks) × (preorders us ≡ with_part hs h ks xs) × (count us ≡ n)

module _ (w : Value) where
  abbrev new_records : List Head
  new_records = root w ∷ parts_of w

  here : (v : Value) (vs : Values) → SetIs (preorders (v ∷ᵛ vs)) (preorders (v ∷ᵛ vs)) new_records (suc (count vs)) (Some (w ∷ᵛ vs))
  here v vs =
      let ks = parts_of v ++ preorders vs in
      let n : suc (length ks) - suc (length ks) ≡ 0 = omega arith in (
        root v,
        ks,
        refl,
        ap (λ (z : List Head). new_records ++ z) (sym (drop_at (parts_of v) (preorders vs) (records (root v)) (sym (records_parts v))))
            ∙ ap (λ (z : ℕ). take z (root v ∷ ks) ++ (new_records ++ drop (records (root v)) ks)) (sym n),
        refl,
      )

  behind_one : (v : Value) (vs : Values) (found : List Head) → length found ≤ length (preorders vs) → (ov : Option Values) → SetIs (preorders vs) found new_records (count vs) ov
      → SetIs (preorders (v ∷ᵛ vs)) found new_records (suc (count vs)) (elim ov [ None ↦ None | Some us ↦ Some (v ∷ᵛ us) ])
  behind_one v vs found le None s = s
  behind_one v vs found le (Some us) s =
      let h = s.0 in
      let ks = s.1 in
      let hs = preorders vs in
      let ps = parts_of v in
      let g : length found ≡ length (h ∷ ks) = ap length s.2 in
      let k = length hs - length (h ∷ ks) in
      let a = length-append ps hs in
      let n : length (root v ∷ (ps ++ hs)) - length (h ∷ ks) ≡ suc (length ps + k) = omega arith in
      let rest = new_records ++ drop (records h) ks in
      let front : take (length (root v ∷ (ps ++ hs)) - length (h ∷ ks)) (root v ∷ (ps ++ hs)) ≡ root v ∷ (ps ++ take k hs) =
      ap (λ (z : ℕ). take z (root v ∷ (ps ++ hs))) n ∙ ap (λ (z : List Head). root v ∷ z) (take-append-add ps hs k) in (
        h,
        ks,
        s.2,
        ap (λ (z : List Head). root v ∷ (ps ++ z)) s.3 ∙ ap (λ (z : List Head). root v ∷ z) (sym (append_assoc ps (take k hs) rest)) ∙ ap (λ (z : List Head). z ++ rest) (sym front),
        ap suc s.4,
      )

  pub set_found : (i : ℕ) (vs : Values) → SetIs (preorders vs) (skip i (preorders vs)) new_records (count vs) (set_value vs i w)
  unfolding skip set_value
  set_found zero no_values = refl
  set_found zero (v ∷ᵛ vs) = here v vs
  set_found (suc i) no_values = refl
  set_found (suc i) (v ∷ᵛ vs) =
      rw (drop_at (parts_of v) (preorders vs) (records (root v)) (sym (records_parts v))) (behind_one v vs (skip i (preorders vs)) (skip_length i (preorders vs)) (set_value vs i w) (set_found i vs))

-- ---------------------------------------------------------------- insert

module _ {l : Lowering} {o : Outcome Value} {l1 : Lowering} {x : Val} {p : Outcome Value} {l2 : Lowering} {y : Val} (d : DoneValue l o l1 x) (e : DoneValue l1 p l2 y) (h : l.top ≤ length l.stack.now) where
  insert_heads : heads l2.stack.now l.top l1.top ≡ parts_of d.v
  insert_heads =
      let a = d.left in
      ap (λ (z : List ℕ). map head_of (values_in z)) (between_kept e.left l.top l1.top (omega arith) (omega arith) (left_fits a h)) ∙ left_heads a h

  -- what `insert` asks for
  pub insert_ready : Insertable l2.stack.now l.top l1.top l2.top y
  insert_ready =
      let a = d.left in
      let b = e.left in
      let f = left_fits a h in
      record {
        first = omega arith;
        second = omega arith;
        fits = left_fits b f;
        whole = stands_kept b (omega arith) (omega arith) f (stands_left a h);
        new = stands_left b f;
        sound = e.shows.sound;
      }

  module _ (i ty : ℕ) (env : At) (ws : List ℕ) (n : length ws ≡ length l2.stack.now) where
    abbrev appended : Out
    appended = ◌⊕◌ d.out e.out

    stop : (hs xs : List Head) (k : ℕ) (r : Result (Val × ℕ) Refusal) → CaseInsert l2.stack.now l.top ty k hs [] xs ws r → CasePart env.line l (refused 24 env.line) (with_stack l2 ws) r
    stop hs xs k (Err j) m = rw m
    stop hs xs k (Ok z) m = absurd m

    finish : (us : Values) (hs : List Head) (g : Head) (ks xs : List Head) (k : ℕ) → preorders us ≡ with_part hs g ks xs → count us ≡ k → (r : Result (Val × ℕ) Refusal)
        → CaseInsert l2.stack.now l.top ty k hs (g ∷ ks) xs ws r → CasePart env.line l (prepend appended (done (value ty (aggregate us)) (counters_in l2) nothing)) (with_stack l2 ws) r
    finish us hs g ks xs k q u (Err j) m = absurd m
    finish us hs g ks xs k q u (Ok z) m = (
      record { head = m.0 ∙ ap (λ (a : List Head). aggregate_head ty k a) (sym q) ∙ ap (λ (a : ℕ). aggregate_head ty a (preorders us)) (sym u); sound = m.1 },
      moved_left (left_then d.left e.left) h (subst (λ (a : List Head). Moved l2.stack.now l.top a ws z.1) (sym q) m.2) n,
    )

    choose : (hs found xs : List Head) (k : ℕ) (ov : Option Values) → SetIs hs found xs k ov → (r : Result (Val × ℕ) Refusal) → CaseInsert l2.stack.now l.top ty k hs found xs ws r
        → CasePart env.line l (prepend appended (prepend nothing (bind_to (λ us. pure (value ty (aggregate us))) env (or_refuse 24 ov env (counters_in l2))))) (with_stack l2 ws) r
    unfolding or_refuse
    choose hs found xs k None s r m = stop hs xs k r (subst (λ (z : List Head). CaseInsert l2.stack.now l.top ty k hs z xs ws r) s m)
    choose hs found xs k (Some us) s r m = finish us hs s.0 s.1 xs k s.3 s.4 r (subst (λ (z : List Head). CaseInsert l2.stack.now l.top ty k hs z xs ws r) s.2 m)

    by_value : (T : Tables) (v : Value) (r : Result (Val × ℕ) Refusal) → CaseInsert l2.stack.now l.top ty (part_count (root v).shape) (parts_of v) (found_in (root v).shape (parts_of v) i) (root e.v ∷ parts_of e.v) ws r
        → CasePart env.line l (prepend appended (lower_insert T v i e.v ty env (counters_in l2))) (with_stack l2 ws) r
    unfolding lower_insert or_refuse ◌>>=◌
    by_value T (value t unit) r m = stop [] (root e.v ∷ parts_of e.v) 0 r m
    by_value T (value t (bit_value z)) r m = stop [] (root e.v ∷ parts_of e.v) 0 r m
    by_value T (value t (bytes_value z)) r m = stop [] (root e.v ∷ parts_of e.v) 0 r m
    by_value T (value t (aggregate vs)) r m = choose (preorders vs) (skip i (preorders vs)) (root e.v ∷ parts_of e.v) (count vs) (set_value vs i e.v) (set_found e.v i vs) r m

    pub insert_meets : (T : Tables) {r : Result (Val × ℕ) Refusal} → Inserts l2.stack.now l.top l1.top l2.top x i y ty ws r
        → MeetsPart env.line l (prepend d.out (prepend e.out (lower_insert T d.v i e.v ty env (counters_in l2)))) (with_stack l2 ws) r
    insert_meets T {r} m =
        let hx : heads l2.stack.now l1.top l2.top ≡ parts_of e.v = left_heads e.left (left_fits d.left h) in
        let s1 = subst (λ (z : Head). CaseInsert l2.stack.now l.top ty (part_count z.shape) (heads l2.stack.now l.top l1.top) (found_in z.shape (heads l2.stack.now l.top l1.top) i) (head_of y ∷ heads l2.stack.now l1.top l2.top) ws r) d.shows.head m.shown in
        let s2 = subst (λ (z : List Head). CaseInsert l2.stack.now l.top ty (part_count (root d.v).shape) z (found_in (root d.v).shape z i) (head_of y ∷ heads l2.stack.now l1.top l2.top) ws r) insert_heads s1 in
        let s3 = subst (λ (z : Head). CaseInsert l2.stack.now l.top ty (part_count (root d.v).shape) (parts_of d.v) (found_in (root d.v).shape (parts_of d.v) i) (z ∷ heads l2.stack.now l1.top l2.top) ws r) e.shows.head s2 in
        let s4 = subst (λ (z : List Head). CaseInsert l2.stack.now l.top ty (part_count (root d.v).shape) (parts_of d.v) (found_in (root d.v).shape (parts_of d.v) i) (root e.v ∷ z) ws r) hx s3 in
        let q : CasePart env.line l (prepend appended (lower_insert T d.v i e.v ty env (counters_in l2))) (with_stack l2 ws) r = by_value T d.v r s4 in
        record { shown = subst (λ (z : Outcome Value). CasePart env.line l z (with_stack l2 ws) r) (sym (prepend_prepend d.out e.out (lower_insert T d.v i e.v ty env (counters_in l2)))) q }
