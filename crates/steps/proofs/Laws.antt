-- What the steps leave.
use Rattle.std.specs.Prelude.{◌≡◌, refl, List, ℕ, zero, suc, ◌+◌, ◌-◌, ◌/◌, ◌^◌, ◌≤◌, ◌<◌, Option, None, Some, Result, Ok, IfOk}
use Rattle.std.specs.Option.{option_map}
use Rattle.std.proofs.Common.{sym, ap, subst, ◌∙◌, arith}
use native.Mathlib.Nat.{div-div-eq-div-mul, pow-suc, div-one}
use borrow.Author.Tests.{lt-ltb, le-leb, lt-leb}
use lib.ListN.{get_or-eq_default}
use Rattle.answers.specs.declared.Refusal.{Refusal}
use Rattle.spec.specs.Limits.{offset_limit}
use Rattle.spec.specs.Hir as hir
use Rattle.spec.specs.Hir.{Place, variable, static, field, element, byte_offset, null_pointer}
use Rattle.spec.specs.Ticket as ticket
use Rattle.spec.specs.Ticket.{Tables, type_at, place_at, nowhere}
use Rattle.spec.specs.Lir.{ByteOperand, value, bytes_value}
use Rattle.spec.specs.Monad.{Lower, Outcome, done, refused, nothing, prepend, bind_to, ◌>>=◌, ◌>>◌, or_refuse, require}
use Rattle.spec.specs.Monad as monad
use Rattle.spec.specs.Operands.{value_type, integer_bytes}
use Rattle.spec.specs.Operators.{compare_op}
use Rattle.spec.specs.Allocation.{Location, type_size, width_of, allocate_storage, allocate_bit_temporary}
use Rattle.spec.specs.Places.{with_type, location_in, resolve_place}
use Rattle.spec.specs.Lower.{lower_integer, lower_expression}
use Rattle.lir.specs.Abstract.{tab, byte_at, bytes_of}
use Rattle.lir.specs.declared.Source.{Source}
use Rattle.emission.specs.Forms.{HasWidth, comparing}
use Rattle.tables.specs.declared.TypeKind.{TypeKind}
use Rattle.tables.specs.declared.lookups.Tables as code
use Rattle.tables.specs.declared.lookups.Lines as code-lines
use Rattle.tables.specs.Ticket.{ticket_of}
use Rattle.tables.specs.Tables.{type_kind_at, type_word, type_args, size_at}
use Rattle.tables.proofs.Laws.{Looks, looks_here, size_here}
use Rattle.places.specs.declared.found.Location.{Location as Loc}
use Rattle.places.specs.Answers.{outcome_of}
use Rattle.places.specs.Abstract.{location_from, location_at}
use Rattle.values.specs.declared.Lowering.{Lowering}
use Rattle.values.specs.declared.Value.{Value as Val}
use Rattle.values.specs.declared.Repr.{Repr as Rep}
use Rattle.values.specs.Heads.{bytes_shape, shape_in, head_of, flat_of}
use Rattle.values.specs.Left.{counters_in, MeetsValue}
use Rattle.reads.specs.Reading.{TypeRoom}
use Rattle.reads.proofs.Laws.{leaf_meets}
use Rattle.steps.specs.Steps.{constant_of}

-- ---------------------------------------------------------------- constants

constant_tab : (v k j n : ℕ) → j + n ≤ k → tab (byte_at (record { source = Source.Constant v; count = k; total = k })) j n ≡ integer_bytes (v / 256 ^ j) n
unfolding tab integer_bytes
constant_tab v k j zero h = refl
constant_tab v k j (suc n) h = rw (lt-ltb j k (omega arith), constant_tab v k (suc j) n (omega arith), div-div-eq-div-mul, pow-suc)

constant_bytes : (v n : ℕ) → bytes_of (record { source = Source.Constant v; count = n; total = n }) ≡ integer_bytes v n
unfolding bytes_of
constant_bytes v n = let h = constant_tab v n 0 n (omega arith) in rw (div-one v) at h

-- a number as so many bytes
constant_meets : (l : Lowering) (ty v n : ℕ) → n ≤ 16 → MeetsValue l (done (value ty (bytes_value (integer_bytes v n))) (counters_in l) nothing) l (Ok (constant_of ty v n))
constant_meets l ty v n k =
    leaf_meets l (constant_of ty v n) (value ty (bytes_value (integer_bytes v n)))
    (ap (λ (z : List ByteOperand). record { ty = ty; shape = bytes_shape z }) (constant_bytes v n)) (record { reach_most = omega arith; total_most = omega arith }) refl

module _ (t : code-lines.Lines) (v ty : ℕ) (h : hir.At) where
  pub integer_meets : (l : Lowering) {size : ℕ} → size ≡ size_at t.rows.now t.counts ty → size ≤ 16 → MeetsValue l (lower_integer (ticket_of t) v ty h (counters_in l)) l (Ok (constant_of ty v size))
  unfolding lower_integer require ◌>>◌
  integer_meets l {size} e k = let g : type_size (ticket_of t) ty ≡ size = size_here t.rows.now t.lists.now t.counts ty ∙ sym e in rw (g, le-leb size 16 k) (constant_meets l ty v size k)

  pub integer_refused : (n : monad.Counters) {size : ℕ} → size ≡ size_at t.rows.now t.counts ty → 16 < size → lower_integer (ticket_of t) v ty h n ≡ refused 26 h.line
  unfolding lower_integer require ◌>>◌
  integer_refused n {size} e k = let g : type_size (ticket_of t) ty ≡ size = size_here t.rows.now t.lists.now t.counts ty ∙ sym e in rw (g, lt-leb size 16 k)

pub null_meets : (l : Lowering) (T : Tables) (h from : hir.At) → MeetsValue l (lower_expression T (null_pointer h) from (counters_in l)) l (Ok (constant_of h.ty 0 2))
unfolding lower_expression integer_bytes
null_meets l T h from = constant_meets l h.ty 0 2 (omega arith)

-- ---------------------------------------------------------------- widths

type_in : (ty : ℕ) (r : Rep) → value_type (flat_of (record { ty = ty; shape = shape_in r })) ≡ ty
type_in ty Rep.Unit = refl
type_in ty (Rep.Bit b) = refl
type_in ty (Rep.Bytes b) = refl
type_in ty (Rep.Aggregate n m) = refl

same_option : {A : Type 0} (o : Option A) → o ≡ option_map (λ x. x) o
same_option None = refl
same_option (Some x) = refl

-- the width of a value's type
pub wide : {T : Tables} {o : Option ℕ} (v : Val) → HasWidth T v.ty o
    → width_of (type_at T (value_type (flat_of (head_of v)))).word (type_at T (value_type (flat_of (head_of v)))).args ≡ option_map (λ x. x) o
wide {o = o} v w = rw (type_in v.ty v.repr) (w.is ∙ same_option o)

looks_width : Looks width_of
looks_width =
    record {
      unit = λ xs. refl;
      bool = λ xs. refl;
      bits = λ xs. refl;
      float = λ xs. refl;
      pointer = λ xs. refl;
      array = λ xs. refl;
      opaque = λ xs. refl;
    }

pub has_width : (t : code-lines.Lines) (ty : ℕ) {o : Option ℕ} → width_of (type_word (type_kind_at t.rows.now t.lists.now t.counts ty)) (type_args t.lists.now (type_kind_at t.rows.now t.lists.now t.counts ty)) ≡ o
    → HasWidth (ticket_of t) ty o
has_width t ty e = record { is = looks_here t.rows.now t.lists.now t.counts looks_width ty ∙ e }

-- bits and pointers alone have one
pub no_width : (lists : List ℕ) (k : TypeKind) → ((n : ℕ) → k ≡ TypeKind.Bits n → ⊥) → (k ≡ TypeKind.Pointer → ⊥) → width_of (type_word k) (type_args lists k) ≡ None
no_width lists TypeKind.Unit b p = refl
no_width lists TypeKind.Bool b p = refl
no_width lists (TypeKind.Bits n) b p = absurd (b n refl)
no_width lists (TypeKind.Float n) b p = refl
no_width lists TypeKind.Pointer b p = absurd (p refl)
no_width lists (TypeKind.Array t n) b p = refl
no_width lists (TypeKind.Struct a n) b p = refl
no_width lists (TypeKind.Tuple a n) b p = refl
no_width lists (TypeKind.Opaque n) b p = refl

-- ---------------------------------------------------------------- comparing

pub compared_float : (o : hir.CompareOp) (w : ℕ) (ls rs : List ByteOperand) (h : hir.At) (c : monad.Counters) → compare_op o ≡ None → comparing o w ls rs h c ≡ refused 24 h.line
unfolding comparing allocate_bit_temporary allocate_storage or_refuse ◌>>=◌
compared_float o w ls rs h c e = rw e

-- a number behind the last operator's
pub compare_past : (op : ℕ) → 16 ≤ op → compare_op (ticket.compare_op op) ≡ compare_op hir.equal
compare_past op h = ap compare_op (get_or-eq_default hir.compare_ops hir.equal {n = op} h)

-- the last six compare floats
floats_from : (d : ℕ) → d ≤ 5 → compare_op (ticket.compare_op (10 + d)) ≡ None
unfolding compare_op
floats_from zero h = refl
floats_from (suc zero) h = refl
floats_from (suc (suc zero)) h = refl
floats_from (suc (suc (suc zero))) h = refl
floats_from (suc (suc (suc (suc zero)))) h = refl
floats_from (suc (suc (suc (suc (suc zero))))) h = refl
floats_from (suc (suc (suc (suc (suc (suc d)))))) h = absurd (omega arith)

pub compare_floats : (op : ℕ) → 10 ≤ op → op ≤ 15 → compare_op (ticket.compare_op op) ≡ None
compare_floats op h k = let e : 10 + (op - 10) ≡ op = omega arith in rw e at (floats_from (op - 10) (omega arith))

pub ruleset operators = (compare_past, compare_floats)

-- ---------------------------------------------------------------- a place's type

abbrev TypedCase : ℕ → Outcome Location → Type 0
TypedCase ty (refused n l) = Unit {0}
TypedCase ty (done l c o) = l.ty ≡ ty

-- a location that m answers is of the type ty
record Typed (ty : ℕ) (m : Lower Location) : Type 0 where
  pub is : (h : hir.At) (c : monad.Counters) → TypedCase ty (m h c)

typed_prepend : (ty : ℕ) (o : monad.Out) (x : Outcome Location) → TypedCase ty x → TypedCase ty (prepend o x)
typed_prepend ty o (refused n l) e = tt
typed_prepend ty o (done l c p) e = e

typed_to : {A : Type 0} (ty : ℕ) (f : A → Lower Location) (h : hir.At) (x : Outcome A) → ((a : A) → Typed ty (f a)) → TypedCase ty (bind_to f h x)
typed_to ty f h (refused n l) e = tt
typed_to ty f h (done a c o) e = typed_prepend ty o (f a h c) ((e a).is h c)

typed_then : {A : Type 0} {ty : ℕ} (m : Lower A) (f : A → Lower Location) → ((a : A) → Typed ty (f a)) → Typed ty (m >>= f)
unfolding ◌>>=◌
typed_then {ty = ty} m f e = record { is = λ h c. typed_to ty f h (m h c) e }

typed_next : {A : Type 0} {ty : ℕ} (m : Lower A) (k : Lower Location) → Typed ty k → Typed ty (m >> k)
unfolding ◌>>◌
typed_next {ty = ty} m k e = record { is = λ h c. typed_to ty (λ _. k) h (m h c) (λ _. e) }

resolve_typed : (T : Tables) (p : Place) (ty : ℕ) → Typed ty (resolve_place T p ty)
unfolding resolve_place with_type location_in
resolve_typed T (variable k) ty = typed_then _ _ (λ p. typed_next _ _ (record { is = λ h c. refl }))
resolve_typed T (static k) ty = typed_then _ _ (λ p. typed_next _ _ (record { is = λ h c. refl }))
resolve_typed T (field p i) ty = typed_then _ _ (λ b. typed_then _ _ (λ f. typed_next _ _ (typed_next _ _ (record { is = λ h c. refl }))))
resolve_typed T (element p e) ty = typed_then _ _ (λ b. typed_then _ _ (λ f. typed_next _ _ (typed_next _ _ (record { is = λ h c. refl }))))
resolve_typed T (byte_offset p e) ty = typed_then _ _ (λ b. typed_then _ _ (λ n. typed_next _ _ (record { is = λ h c. refl })))

module _ (t : code.Tables) (d p ty : ℕ) {q : Result Loc Refusal} {x : Loc} (a : location_at (ticket_of t.lines) d p ty ≡ outcome_of location_from q) (e : q ≡ Ok x) where
  found_type : x.ty ≡ ty
  found_type =
      let c : monad.Counters = record { storage = 0; temporary = 0 } in
      let k : resolve_place (ticket_of t.lines) (place_at d (ticket_of t.lines) p) ty nowhere c ≡ done (location_from x) c nothing = rw (a, e) in
      subst (λ (z : Outcome Location). TypedCase ty z) k ((resolve_typed (ticket_of t.lines) (place_at d (ticket_of t.lines) p) ty).is nowhere c)

  pub room_found : {n : ℕ} {l : Lowering} → IfOk q (λ z. z.offset ≤ offset_limit) → TypeRoom (ticket_of t.lines) n ty 0 l → TypeRoom (ticket_of t.lines) n x.ty x.offset l
  room_found {n} {l} near k =
      let o : x.offset ≤ offset_limit = rw e at near in
      rw found_type (record { node = k.node; room = k.room; top = k.top; reach = omega (arith, o, t.readable.types.size_most ty) })
