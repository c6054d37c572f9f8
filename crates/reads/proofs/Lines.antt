-- A type is read as the definitions read its line: an array's elements are so many fields of one type.
use Rattle.std.specs.Prelude.{◌≡◌, refl, List, ◌∷◌, [], ℕ, zero, suc, ◌+◌, ◌-◌, ◌*◌, ◌≤◌, ◌<◌, get_or}
use Rattle.std.proofs.Common.{sym, ap, ◌∙◌, ◌⊎◌, inl, inr, arith}
use Rattle.spec.specs.Ticket.{TypeLine, Tables, type_at, sum, type_size_by, weight_by}
use Rattle.spec.specs.Lir.{Value, value, aggregate, Values}
use Rattle.spec.specs.Monad.{Lower, pure, ◌>>=◌}
use Rattle.spec.specs.Allocation.{type_size}
use Rattle.spec.specs.ReadBytes.{read_elements, read_fields, read_plain, read_word, read_bytes_as_type}
use Rattle.tables.specs.declared.TypeKind.{TypeKind}
use Rattle.tables.specs.declared.lookups.Tables as code
use Rattle.tables.specs.Tables.{tab, run, type_kind_at, type_word, type_args, type_line, size_at}
use Rattle.tables.specs.Ticket.{ticket_of}
use Rattle.tables.proofs.Laws.{Looks, type_at_lem, word_here, args_here, looks_here}
use Rattle.reads.specs.declared.Parts.{Parts}
use Rattle.reads.specs.Reading.{part_type, part_types, size_of, weight_of}

-- ---------------------------------------------------------------- the types of parts

-- the same number n times
abbrev same : ℕ → ℕ → List ℕ
same t n = tab (λ i. t) 0 n

same_anywhere : (t i j n : ℕ) → tab {A = ℕ} (λ k. t) i n ≡ tab {A = ℕ} (λ k. t) j n
unfolding tab
same_anywhere t i j zero = refl
same_anywhere t i j (suc n) = ap (λ (l : List ℕ). t ∷ l) (same_anywhere t (suc i) (suc j) n)

elements_types : (lists : List ℕ) (t n : ℕ) → part_types lists (Parts.Elements t) 0 n ≡ same t n
unfolding part_types
elements_types lists t n = refl

run_tab : (lists : List ℕ) (a j n : ℕ) → tab (λ i. get_or lists (a + i) 0) j n ≡ tab (λ i. get_or lists i 0) (a + j) n
unfolding tab
run_tab lists a j zero = refl
run_tab lists a j (suc n) = let e : suc (a + j) ≡ a + suc j = omega arith in rw (run_tab lists a (suc j) n, e)

fields_types : (lists : List ℕ) (a n : ℕ) → part_types lists (Parts.Fields a) 0 n ≡ run lists a n
unfolding part_types run
fields_types lists a n = let e : a + 0 ≡ a = omega arith in rw e at (run_tab lists a 0 n)

parts_more : (lists : List ℕ) (p : Parts) (i m : ℕ) → part_types lists p i (suc m) ≡ part_type lists p i ∷ part_types lists p (i + 1) m
unfolding part_types tab
parts_more lists p i m = let g : i + 1 ≡ suc i = omega arith in rw g

-- of n parts those from part i on: the first of them and the rest
pub parts_next : (lists : List ℕ) (p : Parts) (i n : ℕ) → i < n → part_types lists p i (n - i) ≡ part_type lists p i ∷ part_types lists p (i + 1) (n - (i + 1))
parts_next lists p i n h = let e : n - i ≡ suc (n - (i + 1)) = omega arith in rw e (parts_more lists p i (n - (i + 1)))

pub parts_none : (lists : List ℕ) (p : Parts) (i n : ℕ) → n ≤ i → part_types lists p i (n - i) ≡ []
unfolding part_types tab
parts_none lists p i n h = let e : n - i ≡ 0 = omega arith in rw e

sum_same : (f : ℕ → ℕ) (t n : ℕ) → sum f (same t n) ≡ n * f t
unfolding tab
sum_same f t zero = omega arith
sum_same f t (suc n) = rw (same_anywhere t 1 0 n, sum_same f t n) (omega arith)

-- ---------------------------------------------------------------- reading, sizes and weights, by the kind

-- an array's elements are so many fields of one type
elements_fields : (T : Tables) (rd : ℕ → ℕ → Lower Value) (t o n : ℕ) → read_elements (rd t) (type_size T t) o n ≡ read_fields T rd o (same t n)
unfolding read_elements read_fields tab
elements_fields T rd t o zero = refl
elements_fields T rd t o (suc n) = rw (elements_fields T rd t (o + type_size T t) n, same_anywhere t 1 0 n)

looks_read : (T : Tables) (rd : ℕ → ℕ → Lower Value) (s ty o : ℕ) → Looks (read_word T rd s ty o)
unfolding read_word
looks_read T rd s ty o =
    record {
      unit = λ xs. refl;
      bool = λ xs. refl;
      bits = λ xs. refl;
      float = λ xs. refl;
      pointer = λ xs. refl;
      array = λ xs. refl;
      opaque = λ xs. refl;
    }

-- values gathered under a head
abbrev pub gathered : ℕ → Lower Values → Lower Value
gathered ty m = do
  vs ← m
  pure (value ty (aggregate vs))

-- the n parts p of a type, by which it is read, sized and weighed
pub record Parted (T : Tables) (lists : List ℕ) (ty : ℕ) (p : Parts) (n : ℕ) : Type 0 where
  pub size : size_of T ty ≡ sum (size_of T) (part_types lists p 0 n)
  pub weight : weight_of T ty ≡ 1 + sum (weight_of T) (part_types lists p 0 n)
  pub read : (rd : ℕ → ℕ → Lower Value) (s o : ℕ) → read_word T rd s ty o (type_at T ty).word (type_at T ty).args ≡ gathered ty (read_fields T rd o (part_types lists p 0 n))

module _ (t : code.Tables) (ty : ℕ) where
  pub size_at_of : size_of (ticket_of t.lines) ty ≡ size_at t.lines.rows.now t.lines.counts ty
  unfolding type_line
  size_at_of = ap (λ (z : TypeLine). z.size) (type_at_lem t.lines.rows.now t.lines.lists.now t.lines.counts ty)

  -- reading at a depth that is not 0
  read_deeper : (d s o : ℕ) → (d ≡ 0 → ⊥)
      → read_bytes_as_type (ticket_of t.lines) d s ty o ≡ read_word (ticket_of t.lines) (λ t' p. read_bytes_as_type (ticket_of t.lines) (d - 1) s t' p) s ty o (type_at (ticket_of t.lines) ty).word (type_at (ticket_of t.lines) ty).args
  unfolding read_bytes_as_type
  read_deeper zero s o g = absurd (g refl)
  read_deeper (suc d) s o g = let f : suc d - 1 ≡ d = omega arith in rw f

  module _ (k : TypeKind) (e : type_kind_at t.lines.rows.now t.lines.lists.now t.lines.counts ty ≡ k) where
    word_read : (rd : ℕ → ℕ → Lower Value) (s o : ℕ)
        → read_word (ticket_of t.lines) rd s ty o (type_at (ticket_of t.lines) ty).word (type_at (ticket_of t.lines) ty).args ≡ read_word (ticket_of t.lines) rd s ty o (type_word k) (type_args t.lines.lists.now k)
    word_read rd s o = rw e at (looks_here t.lines.rows.now t.lines.lists.now t.lines.counts (looks_read (ticket_of t.lines) rd s ty o) ty)

    pub read_here : (d s o : ℕ) → (d ≡ 0 → ⊥)
        → read_bytes_as_type (ticket_of t.lines) d s ty o ≡ read_word (ticket_of t.lines) (λ t' p. read_bytes_as_type (ticket_of t.lines) (d - 1) s t' p) s ty o (type_word k) (type_args t.lines.lists.now k)
    read_here d s o g = read_deeper d s o g ∙ word_read (λ t' p. read_bytes_as_type (ticket_of t.lines) (d - 1) s t' p) s o

    sized_here : size_of (ticket_of t.lines) ty ≡ type_size_by (size_of (ticket_of t.lines)) (type_word k) (type_args t.lines.lists.now k)
    sized_here =
        let R = t.readable.types in
        R.sized ty ∙ rw (word_here t.lines.rows.now t.lines.lists.now t.lines.counts ty, args_here t.lines.rows.now t.lines.lists.now t.lines.counts R ty, e)

    weighed_here : weight_of (ticket_of t.lines) ty ≡ weight_by (weight_of (ticket_of t.lines)) (type_word k) (type_args t.lines.lists.now k)
    weighed_here =
        let R = t.readable.types in
        R.weighed ty ∙ rw (word_here t.lines.rows.now t.lines.lists.now t.lines.counts ty, args_here t.lines.rows.now t.lines.lists.now t.lines.counts R ty, e)

  -- the kinds that are read as the bytes that stand there
  pub plain_here : {k : TypeKind} → (((x : ℕ) × k ≡ TypeKind.Bits x) ⊎ ((k ≡ TypeKind.Pointer) ⊎ ((x : ℕ) × k ≡ TypeKind.Opaque x))) → k ≡ type_kind_at t.lines.rows.now t.lines.lists.now t.lines.counts ty
      → (d s o : ℕ) → (d ≡ 0 → ⊥) → read_bytes_as_type (ticket_of t.lines) d s ty o ≡ read_plain (ticket_of t.lines) s ty o
  unfolding read_word
  plain_here (inl b) e = read_here (TypeKind.Bits b.0) (sym e ∙ b.1)
  plain_here (inr (inl p)) e = read_here TypeKind.Pointer (sym e ∙ p)
  plain_here (inr (inr q)) e = read_here (TypeKind.Opaque q.0) (sym e ∙ q.1)

  pub bool_size : type_kind_at t.lines.rows.now t.lines.lists.now t.lines.counts ty ≡ TypeKind.Bool → size_of (ticket_of t.lines) ty ≡ 1
  bool_size e = sized_here TypeKind.Bool e

  pub parted_array : {k : TypeKind} {a n : ℕ} → k ≡ TypeKind.Array a n → k ≡ type_kind_at t.lines.rows.now t.lines.lists.now t.lines.counts ty → Parted (ticket_of t.lines) t.lines.lists.now ty (Parts.Elements a) n
  unfolding read_word
  parted_array {a = a} {n} p e =
      let T = ticket_of t.lines in
      let k = TypeKind.Array a n in
      let g = sym e ∙ p in
      record {
        size = sized_here k g ∙ rw (elements_types t.lines.lists.now a n, sum_same (size_of T) a n) (omega arith);
        weight = weighed_here k g ∙ rw (elements_types t.lines.lists.now a n, sum_same (weight_of T) a n);
        read = λ rd s o. word_read k g rd s o ∙ rw (elements_types t.lines.lists.now a n, elements_fields T rd a o n);
      }

  -- whose numbers are its parts
  fielded : (k : TypeKind) (a n : ℕ) → type_kind_at t.lines.rows.now t.lines.lists.now t.lines.counts ty ≡ k → type_size_by (size_of (ticket_of t.lines)) (type_word k) (type_args t.lines.lists.now k) ≡ sum (size_of (ticket_of t.lines)) (run t.lines.lists.now a n)
      → weight_by (weight_of (ticket_of t.lines)) (type_word k) (type_args t.lines.lists.now k) ≡ 1 + sum (weight_of (ticket_of t.lines)) (run t.lines.lists.now a n)
      → ((rd : ℕ → ℕ → Lower Value) (s o : ℕ) → read_word (ticket_of t.lines) rd s ty o (type_word k) (type_args t.lines.lists.now k) ≡ gathered ty (read_fields (ticket_of t.lines) rd o (run t.lines.lists.now a n)))
      → Parted (ticket_of t.lines) t.lines.lists.now ty (Parts.Fields a) n
  fielded k a n g e f r =
      let q = fields_types t.lines.lists.now a n in
      record { size = sized_here k g ∙ rw (q, e); weight = weighed_here k g ∙ rw (q, f); read = λ rd s o. word_read k g rd s o ∙ rw q (r rd s o) }

  pub parted_fields : {k : TypeKind} {a n : ℕ} → ((k ≡ TypeKind.Struct a n) ⊎ (k ≡ TypeKind.Tuple a n)) → k ≡ type_kind_at t.lines.rows.now t.lines.lists.now t.lines.counts ty → Parted (ticket_of t.lines) t.lines.lists.now ty (Parts.Fields a) n
  unfolding read_word
  parted_fields {a = a} {n} (inl p) e = fielded (TypeKind.Struct a n) a n (sym e ∙ p) refl refl (λ rd s o. refl)
  parted_fields {a = a} {n} (inr p) e = fielded (TypeKind.Tuple a n) a n (sym e ∙ p) refl refl (λ rd s o. refl)

  -- a type by its parts
  pub read_parted : {p : Parts} {n : ℕ} → Parted (ticket_of t.lines) t.lines.lists.now ty p n → (d s o : ℕ) → (d ≡ 0 → ⊥)
      → read_bytes_as_type (ticket_of t.lines) d s ty o ≡ gathered ty (read_fields (ticket_of t.lines) (λ t' p. read_bytes_as_type (ticket_of t.lines) (d - 1) s t' p) o (part_types t.lines.lists.now p 0 n))
  read_parted q d s o g = read_deeper d s o g ∙ q.read (λ t' p. read_bytes_as_type (ticket_of t.lines) (d - 1) s t' p) s o
