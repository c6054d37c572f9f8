-- Constants at whole bytes: a constant of bits N, N a multiple of 8, is read modulo 2 ^ N, whatever its value, and the running claims hold of it.
use Prim.Native.Nat.{ℕ, zero, suc, ◌/◌, ◌%◌, ◌^◌}
use Prim.Native.String.{String}
use mathlib.Core.Bool.{Bool, true, false, ◌&&◌, ◌||◌}
use mathlib.Core.List.{List, [], ◌∷◌, map}
use Rattle.std.specs.Prelude.{Option, None, Some}
use mathlib.Core.Path.{◌≡◌, refl, sym, ap, ap₂, ◌∙◌}
use native.Mathlib.Nat.{le_refl, mod-lt}
use lib.Pow.{pow_pos}
use lib.Dec.{eqb}
use borrow.Author.Tests.{eqb-true, lt-ltb}
use lib.ListN.{length}
use Rattle.spec.specs.Hir.{At, Expr, boolean, integer, float32, float64, null_pointer, static_address, function_address, read, integer_unary, integer_binary, float_unary, float_binary, compare, convert, select, address_of, pointer_offset, aggregate, extract_element, insert_element, Exprs, no_exprs, ◌∷ᵉ◌}
use Rattle.spec.specs.Ticket.{Tables, nowhere}
use Rattle.spec.specs.Read.{read_ticket}
use Rattle.spec.specs.Read as reading
use Rattle.spec.specs.Readable.{TypesRight, root}
use Rattle.spec.specs.Lir.{ByteOperand, immediate}
use Rattle.spec.specs.Operands.{integer_bytes}
use Rattle.spec.specs.Allocation.{bool_type, pointer_type, type_size}
use Rattle.spec.specs.Lower.{lower_integer, lower_expression, lower_expressions, lowered}
use Rattle.spec.specs.Machine.{Memory, Proper, Given, bytes_of}
use Rattle.spec.specs.Typed.{at_of, type_of, width, is_bits, part_type, conversion_typed, typed, parts_typed}
use Rattle.spec.proofs.RunParts.{is_type}
use Rattle.spec.specs.Eval.{Data, number, eval, fits, in_order}
use Rattle.spec.specs.RunCases.{given}
use Rattle.spec.specs.Text.{text}
use Rattle.spec.specs.Answer.{answer, accepted}
use Rattle.spec.specs.Demands.{Leaves}
use Rattle.spec.specs.RunNeeds.{bools_in_range, all_bools_in_range}
use Rattle.spec.proofs.Answers.{printed}
use Rattle.spec.proofs.ReadingTicket.{readable, bools_read}
use Rattle.spec.proofs.RunLogic.{both}
use Rattle.spec.proofs.RunWords.{size, mask_last, masked}
use Rattle.spec.proofs.RunTyping.{IsBits, bits_of_test}
use Rattle.spec.proofs.RunFinal.{running}
use Rattle.spec.proofs.RunEnds.{reading_back, left_by}
use Rattle.spec.proofs.RunPremises.{M}
use Rattle.spec.proofs.RunDivides.{divides}
use Rattle.spec.proofs.RunMeans.{means}
use Rattle.spec.proofs.RunDefined.{MeansAndLeaves}
use Rattle.spec.proofs.RunReady.{needs_read}
use Rattle.spec.proofs.RunDemand.{left_by as leaves_by}

-- a test of operands' types, and of the operands
one : (f : ℕ → Bool → Bool) {y y' : ℕ} {b b' : Bool} → y ≡ y' → b ≡ b' → f y b ≡ f y' b'
one f p q = rw (p, q) refl

two : (f : ℕ → ℕ → Bool → Bool → Bool) {y y' z z' : ℕ} {b b' c c' : Bool} → y ≡ y' → z ≡ z' → b ≡ b' → c ≡ c' → f y z b c ≡ f y' z' b' c'
two f p q r s = rw (p, q, r, s) refl

three : (f : ℕ → ℕ → ℕ → Bool → Bool → Bool → Bool) {x x' y y' z z' : ℕ} {a a' b b' c c' : Bool}
    → x ≡ x' → y ≡ y' → z ≡ z' → a ≡ a' → b ≡ b' → c ≡ c' → f x y z a b c ≡ f x' y' z' a' b' c'
three f p q r s t u = rw (p, q, r, s, t, u) refl

module _ (T : Tables) where
  -- a bits type of whole bytes
  abbrev pub whole_bytes : ℕ → Bool
  whole_bytes ty = is_bits T ty && eqb (width T ty % 8) 0

  abbrev pub constant : ℕ → ℕ → ℕ
  constant ty v = elim (whole_bytes ty) [ true ↦ v % 2 ^ width T ty | false ↦ v ]

  -- the expression with the constants that lowering comes to so read
  unfoldable mutual
    pub wrapped : Expr → Expr
    wrapped (boolean h b) = boolean h b
    wrapped (integer h v) = integer h (constant h.ty v)
    wrapped (float32 h v) = float32 h v
    wrapped (float64 h v) = float64 h v
    wrapped (null_pointer h) = null_pointer h
    wrapped (static_address h k o) = static_address h k o
    wrapped (function_address h f) = function_address h f
    wrapped (read h p) = read h p
    wrapped (integer_unary h op e) = integer_unary h op (wrapped e)
    wrapped (integer_binary h op l r) = integer_binary h op (wrapped l) (wrapped r)
    wrapped (float_unary h e) = float_unary h e
    wrapped (float_binary h l r) = float_binary h l r
    wrapped (compare h op l r) = compare h op (wrapped l) (wrapped r)
    wrapped (convert h op e) = convert h op (wrapped e)
    wrapped (select h t f c) = select h (wrapped t) (wrapped f) (wrapped c)
    wrapped (address_of h p) = address_of h p
    wrapped (pointer_offset h b o) = pointer_offset h (wrapped b) (wrapped o)
    wrapped (aggregate h es) = aggregate h (all_wrapped es)
    wrapped (extract_element h e i) = extract_element h (wrapped e) i
    wrapped (insert_element h e i w) = insert_element h (wrapped e) i (wrapped w)

    pub all_wrapped : Exprs → Exprs
    all_wrapped no_exprs = no_exprs
    all_wrapped (e ∷ᵉ es) = wrapped e ∷ᵉ all_wrapped es

  -- ------------------------------------------------------------ typed alike

  same_at : (e : Expr) → at_of (wrapped e) ≡ at_of e
  unfolding wrapped
  same_at (boolean h b) = refl
  same_at (integer h v) = refl
  same_at (float32 h v) = refl
  same_at (float64 h v) = refl
  same_at (null_pointer h) = refl
  same_at (static_address h k o) = refl
  same_at (function_address h f) = refl
  same_at (read h p) = refl
  same_at (integer_unary h op e) = refl
  same_at (integer_binary h op l r) = refl
  same_at (float_unary h e) = refl
  same_at (float_binary h l r) = refl
  same_at (compare h op l r) = refl
  same_at (convert h op e) = refl
  same_at (select h t f c) = refl
  same_at (address_of h p) = refl
  same_at (pointer_offset h b o) = refl
  same_at (aggregate h es) = refl
  same_at (extract_element h e i) = refl
  same_at (insert_element h e i w) = refl

  same_type : (e : Expr) → type_of (wrapped e) ≡ type_of e
  same_type e = ap (λ (h : At). h.ty) (same_at e)

  mutual
    unfolding wrapped all_wrapped typed parts_typed

    pub typed_wrapped : (e : Expr) → typed T (wrapped e) ≡ typed T e
    typed_wrapped (boolean h b) = refl
    typed_wrapped (integer h v) = refl
    typed_wrapped (float32 h v) = refl
    typed_wrapped (float64 h v) = refl
    typed_wrapped (null_pointer h) = refl
    typed_wrapped (static_address h k o) = refl
    typed_wrapped (function_address h f) = refl
    typed_wrapped (read h p) = refl
    typed_wrapped (integer_unary h op e) = one (λ y b. is_bits T h.ty && eqb y h.ty && b) (same_type e) (typed_wrapped e)
    typed_wrapped (integer_binary h op l r) = two (λ y z b c. is_bits T h.ty && eqb y h.ty && eqb z h.ty && b && c) (same_type l) (same_type r) (typed_wrapped l) (typed_wrapped r)
    typed_wrapped (float_unary h e) = refl
    typed_wrapped (float_binary h l r) = refl
    typed_wrapped (compare h op l r) = two (λ y z b c. eqb h.ty bool_type && is_bits T y && eqb z y && b && c) (same_type l) (same_type r) (typed_wrapped l) (typed_wrapped r)
    typed_wrapped (convert h op e) = one (λ y b. conversion_typed T op y h.ty && b) (same_type e) (typed_wrapped e)
    typed_wrapped (select h t f c) = three (λ x y z a b d. eqb x h.ty && eqb y h.ty && (eqb z bool_type || is_bits T z) && a && b && d) (same_type t) (same_type f) (same_type c)
        (typed_wrapped t) (typed_wrapped f) (typed_wrapped c)
    typed_wrapped (address_of h p) = refl
    typed_wrapped (pointer_offset h b o) = two (λ y z c d. eqb h.ty pointer_type && eqb y pointer_type && is_bits T z && c && d) (same_type b) (same_type o) (typed_wrapped b) (typed_wrapped o)
    typed_wrapped (aggregate h es) = rw (parts_wrapped es h.ty 0) refl
    typed_wrapped (extract_element h e i) = one (λ y b. is_type (part_type T y i) h.ty && b) (same_type e) (typed_wrapped e)
    typed_wrapped (insert_element h e i w) = two (λ y z b c. eqb y h.ty && is_type (part_type T h.ty i) z && b && c) (same_type e) (same_type w) (typed_wrapped e) (typed_wrapped w)

    parts_wrapped : (es : Exprs) (ty i : ℕ) → parts_typed T (all_wrapped es) ty i ≡ parts_typed T es ty i
    parts_wrapped no_exprs ty i = refl
    parts_wrapped (e ∷ᵉ es) ty i =
        ap₂ (λ (a b : Bool). a && b) (one (λ y b. is_type (part_type T ty i) y && b) (same_type e) (typed_wrapped e)) (parts_wrapped es ty (suc i))

  mutual
    unfolding wrapped all_wrapped bools_in_range all_bools_in_range

    bools_wrapped : (e : Expr) → bools_in_range (wrapped e) ≡ bools_in_range e
    bools_wrapped (boolean h b) = refl
    bools_wrapped (integer h v) = refl
    bools_wrapped (float32 h v) = refl
    bools_wrapped (float64 h v) = refl
    bools_wrapped (null_pointer h) = refl
    bools_wrapped (static_address h k o) = refl
    bools_wrapped (function_address h f) = refl
    bools_wrapped (read h p) = refl
    bools_wrapped (integer_unary h op e) = rw (bools_wrapped e) refl
    bools_wrapped (integer_binary h op l r) = rw (bools_wrapped l, bools_wrapped r) refl
    bools_wrapped (float_unary h e) = refl
    bools_wrapped (float_binary h l r) = refl
    bools_wrapped (compare h op l r) = rw (bools_wrapped l, bools_wrapped r) refl
    bools_wrapped (convert h op e) = rw (bools_wrapped e) refl
    bools_wrapped (select h t f c) = rw (bools_wrapped t, bools_wrapped f, bools_wrapped c) refl
    bools_wrapped (address_of h p) = refl
    bools_wrapped (pointer_offset h b o) = rw (bools_wrapped b, bools_wrapped o) refl
    bools_wrapped (aggregate h es) = rw (all_bools_wrapped es) refl
    bools_wrapped (extract_element h e i) = rw (bools_wrapped e) refl
    bools_wrapped (insert_element h e i w) = rw (bools_wrapped e, bools_wrapped w) refl

    all_bools_wrapped : (es : Exprs) → all_bools_in_range (all_wrapped es) ≡ all_bools_in_range es
    all_bools_wrapped no_exprs = refl
    all_bools_wrapped (e ∷ᵉ es) = rw (bools_wrapped e, all_bools_wrapped es) refl

-- ---------------------------------------------------------------- lowered alike

immediates : (k v : ℕ) → integer_bytes v k ≡ map immediate (bytes_of k v)
unfolding integer_bytes bytes_of
immediates zero v = refl
immediates (suc k) v = ap (λ (bs : List ByteOperand). immediate (v % 256) ∷ bs) (immediates k (v / 256))

-- whole bytes of a number are those of the number modulo 2 ^ w
bytes_alike : (w v : ℕ) → w % 8 ≡ 0 → bytes_of (size w) (v % 2 ^ w) ≡ bytes_of (size w) v
unfolding mask_last
bytes_alike w v q = sym (rw q at (masked w v))

module _ (T : Tables) (R : TypesRight T) where
  same_bytes : (ty v : ℕ) → IsBits T ty (width T ty) → width T ty % 8 ≡ 0 → integer_bytes (v % 2 ^ width T ty) (type_size T ty) ≡ integer_bytes v (type_size T ty)
  unfolding type_size
  same_bytes ty v B q = rw B.sized (immediates _ _ ∙ ap (λ (bs : List ℕ). map immediate bs) (bytes_alike (width T ty) v q) ∙ sym (immediates _ _))

  integer_alike : (ty v : ℕ) → lower_integer T (constant T ty v) ty ≡ lower_integer T v ty
  unfolding lower_integer
  integer_alike ty v = by (whole_bytes T ty) refl
    where
      by : (b : Bool) → whole_bytes T ty ≡ b → lower_integer T (elim b [ true ↦ v % 2 ^ width T ty | false ↦ v ]) ty ≡ lower_integer T v ty
      by false e = refl
      by true e =
          let t = both (is_bits T ty) (eqb (width T ty % 8) 0) e in
          rw (same_bytes ty v (bits_of_test T R ty t.0) (eqb-true (width T ty % 8) 0 t.1)) refl

  mutual
    unfolding wrapped all_wrapped lower_expression lower_expressions

    pub lowered_alike : (e : Expr) → lower_expression T (wrapped T e) ≡ lower_expression T e
    lowered_alike (boolean h b) = refl
    lowered_alike (integer h v) = rw (integer_alike h.ty v) refl
    lowered_alike (float32 h v) = refl
    lowered_alike (float64 h v) = refl
    lowered_alike (null_pointer h) = refl
    lowered_alike (static_address h k o) = refl
    lowered_alike (function_address h f) = refl
    lowered_alike (read h p) = refl
    lowered_alike (integer_unary h op e) = rw (lowered_alike e) refl
    lowered_alike (integer_binary h op l r) = rw (lowered_alike l, lowered_alike r) refl
    lowered_alike (float_unary h e) = refl
    lowered_alike (float_binary h l r) = refl
    lowered_alike (compare h op l r) = rw (lowered_alike l, lowered_alike r) refl
    lowered_alike (convert h op e) = rw (lowered_alike e) refl
    lowered_alike (select h t f c) = rw (lowered_alike t, lowered_alike f, lowered_alike c) refl
    lowered_alike (address_of h p) = refl
    lowered_alike (pointer_offset h b o) = rw (lowered_alike b, lowered_alike o) refl
    lowered_alike (aggregate h es) = rw (all_alike es) refl
    lowered_alike (extract_element h e i) = rw (lowered_alike e) refl
    lowered_alike (insert_element h e i w) = rw (lowered_alike e, lowered_alike w) refl

    all_alike : (es : Exprs) → lower_expressions T (all_wrapped T es) ≡ lower_expressions T es
    all_alike no_exprs = refl
    all_alike (e ∷ᵉ es) = rw (lowered_alike e, all_alike es) refl

-- ---------------------------------------------------------------- the claim

-- of every text and every lent buffer: run, the listing leaves what the expression means with its constants so read
pub constants_wrap : (ticket buffer s : List ℕ) (T : Tables) → read_ticket ticket ≡ reading.accepted T → answer ticket (length buffer) ≡ accepted s
    → typed T (root T) ≡ true
    → (G : Given) (M : Memory) → Proper M → in_order T M (wrapped T (root T)) ≡ true
    → (d : Data) → eval T G M (wrapped T (root T)) ≡ Some d
    → Leaves G M (length T.storages) s d
unfolding lowered
constants_wrap ticket buffer s T r a t G M P i d q =
    let p = printed ticket s (length buffer) T r a in
    let R = (readable ticket T r).types in
    leaves_by G M T s d p
    (running T R (needs_read ticket T r) (wrapped T (root T)) (typed_wrapped T (root T) ∙ t) (bools_wrapped T (root T) ∙ bools_read ticket T r) G M P i d q nowhere
    (record { storage = length T.storages; temporary = T.next }) (le_refl _) p.value p.counters p.out (rw (lowered_alike T R (root T)) p.lowers))

-- .. and it means something, where no division is undefined
pub constants_wrap_defined : (ticket buffer s : List ℕ) (T : Tables) → read_ticket ticket ≡ reading.accepted T → answer ticket (length buffer) ≡ accepted s
    → typed T (root T) ≡ true
    → (G : Given) (M : Memory) → Proper M → in_order T M (wrapped T (root T)) ≡ true → divides T G M (wrapped T (root T)) ≡ true
    → MeansAndLeaves T G M (wrapped T (root T)) s
unfolding lowered
constants_wrap_defined ticket buffer s T r a t G M P i d =
    let p = printed ticket s (length buffer) T r a in
    let R = (readable ticket T r).types in
    let m = means G T R (needs_read ticket T r) (length T.storages) (le_refl _) M P (wrapped T (root T)) (typed_wrapped T (root T) ∙ t)
    (bools_wrapped T (root T) ∙ bools_read ticket T r) i d nowhere
    (record { storage = length T.storages; temporary = T.next }) (le_refl _) p.value p.counters p.out (rw (lowered_alike T R (root T)) p.lowers) in
    record { meaning = m.it; is = m.is; leaves = constants_wrap ticket buffer s T r a t G M P i m.it m.is }

-- at whole bytes every constant is in order; at another width a constant stays what it is
pub constant_in_order : (T : Tables) → TypesRight T → (memory : Memory) (h : At) (v : ℕ) → whole_bytes T h.ty ≡ true → in_order T memory (wrapped T (integer h v)) ≡ true
unfolding wrapped in_order fits
constant_in_order T R memory h v e =
    let B = bits_of_test T R h.ty (both (is_bits T h.ty) (eqb (width T h.ty % 8) 0) e).0 in
    let small : in_order T memory (integer h (v % 2 ^ width T h.ty)) ≡ true = rw B.word (lt-ltb _ _ (mod-lt v (pow_pos (width T h.ty)))) in
    ap (λ (b : Bool). in_order T memory (integer h (elim b [ true ↦ v % 2 ^ width T h.ty | false ↦ v ]))) e ∙ small

pub constant_stays : (T : Tables) (h : At) (v : ℕ) → whole_bytes T h.ty ≡ false → wrapped T (integer h v) ≡ integer h v
unfolding wrapped
constant_stays T h v e = ap (λ (b : Bool). integer h (elim b [ true ↦ v % 2 ^ width T h.ty | false ↦ v ])) e

-- ---------------------------------------------------------------- computed

abbrev meaning : Memory → reading.Read → Option Data
meaning M (reading.refused n l) = None
meaning M (reading.accepted T) =
    elim (typed T (root T) && in_order T M (wrapped T (root T))) [ true ↦ eval T given M (wrapped T (root T)) | false ↦ None ]

abbrev ticket : List String → List String
ticket ls = "f,0,0" ∷ "t,bool" ∷ "t,pointer" ∷ "t,bits,8" ∷ "t,bits,9" ∷ "t,bits,16" ∷ "t,bits,64" ∷ ls

unfoldable pub tickets : List (List String)
tickets =
    ("n,2,int,300" ∷ []) ∷
    ("n,4,int,18446744073709551615" ∷ []) ∷
    ("n,5,int,18446744073709551615" ∷ []) ∷
    ("n,2,int,65535" ∷ "n,2,int,258" ∷ "n,2,binary,0,0,1" ∷ []) ∷
    []

unfoldable pub results : List (Option Data)
results = Some (number 1 44) ∷ Some (number 2 65535) ∷ Some (number 8 18446744073709551615) ∷ Some (number 1 1) ∷ []

pub tickets_hold :
    (map (λ ls. meaning M (read_ticket (text (ticket ls)))) tickets ≡ results) ×
    (map (λ ls. left_by (ticket ls) M) tickets ≡ results)
unfolding tickets results reading_back root wrapped all_wrapped
tickets_hold = (refl, refl)

-- 512 is no number of 9 bits
pub nine_bits : (meaning M (read_ticket (text (ticket ("n,3,int,511" ∷ [])))) ≡ Some (number 2 511)) × (meaning M (read_ticket (text (ticket ("n,3,int,512" ∷ [])))) ≡ None)
unfolding reading_back root wrapped all_wrapped
nine_bits = (refl, refl)
