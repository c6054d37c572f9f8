-- Fields written behind what a writer put before, each behind its comma; the lists and the lines that they make.
use Rattle.std.specs.Prelude.{◌≡◌, refl, List, ◌∷◌, ◌++◌, map, [], ℕ, ◌+◌}
use Rattle.std.proofs.Common.{subst, append_assoc, append-nil}
use Rattle.spec.specs.Text.{comma, line_feed, digits, fields, line}
use Rattle.spec.specs.Text as text
use Rattle.spec.specs.Lir as lir
use Rattle.spec.specs.Allocation.{bytes_from}
use Rattle.spec.specs.Print.{listed, byte_storage, byte_operand, instruction_line, instruction_fields, value_line}
use Rattle.text.specs.Writes.{Writes, writes_then}
use Rattle.text.specs.declared.writer.Writer.{Writer}
use Rattle.lir.specs.Abstract.{tab, byte_at, bytes_of, kind_of}
use Rattle.lir.specs.Tab.{tab_more, length_tab, spot, from_tab}
use Rattle.lir.specs.declared.Bytes.{Bytes}
use Rattle.lir.specs.declared.InstructionKind.{InstructionKind}

-- an instruction's line up to its node, and from there on
abbrev pub kind_text : InstructionKind → List ℕ
kind_text k = text.bytes "i" ++ fields (instruction_fields (kind_of k))

abbrev pub node_text : ℕ → List ℕ
node_text n = fields (digits n ∷ []) ++ line_feed ∷ []

-- the fields fs, written
pub record WritesFields (w : Writer) (fs : List (List ℕ)) (w' : Writer) : Type 0 where
  pub written : Writes w (fields fs) w'

-- ---------------------------------------------------------------- fields

pub fields_append : (fs gs : List (List ℕ)) → fields (fs ++ gs) ≡ fields fs ++ fields gs
unfolding fields
fields_append [] gs = refl
fields_append (f ∷ fs) gs = rw (fields_append fs gs, append_assoc)

regrouped : (a b c d e : List ℕ) → (a ++ (b ++ [])) ++ ((c ++ d) ++ e) ≡ (a ++ (b ++ (c ++ d))) ++ e
regrouped a b c d e = simp (append_assoc, append-nil)

module _ {w w1 : Writer} where
  -- a comma and what stands behind it
  pub field : {f : List ℕ} → Writes w (comma ∷ f) w1 → WritesFields w (f ∷ []) w1
  unfolding fields
  field {f} a = record { written = rw (append-nil f) a }

  -- fields, and then others
  pub others : {w2 : Writer} {fs gs : List (List ℕ)} → WritesFields w fs w1 → WritesFields w1 gs w2 → WritesFields w (fs ++ gs) w2
  others {fs = fs} {gs = gs} a b = record { written = rw (fields_append fs gs) (writes_then a.written b.written) }

  -- a word, the fields behind it, a line feed
  pub whole_line : {w2 : Writer} (v : List ℕ) (fs : List (List ℕ)) → Writes w (v ++ fields fs) w1 → Writes w1 (line_feed ∷ []) w2 → Writes w (line v fs) w2
  unfolding line
  whole_line v fs a b = writes_then a b

  -- an instruction's line up to its node, `i` and its first field being put as one word
  pub kind_written : (k : List ℕ) (fs : List (List ℕ)) → Writes w ((105 ∷ comma ∷ k) ++ fields fs) w1 → Writes w (text.bytes "i" ++ fields (k ∷ fs)) w1
  unfolding fields
  kind_written k fs a = a

  -- and its node
  pub node_written : {w2 : Writer} (k : lir.InstructionKind) (n : ℕ) → Writes w (text.bytes "i" ++ fields (instruction_fields k)) w1 → Writes w1 (node_text n) w2
      → Writes w (instruction_line (record { kind = k; node = n })) w2
  unfolding instruction_line line
  node_written k n a b = rw (fields_append (instruction_fields k) (digits n ∷ []), append_assoc) (writes_then a b)

  -- a value's line, whose type is put with the line's word, and what it is with the rest
  pub value_written : {w2 : Writer} (ty : ℕ) (v : List ℕ) (fs : List (List ℕ))
      → Writes w (text.bytes "value" ++ fields (digits ty ∷ [])) w1 → Writes w1 (line (comma ∷ v) fs) w2 → Writes w (value_line ty (v ∷ fs)) w2
  unfolding value_line line fields
  value_written {w2} ty v fs a b =
      subst (λ (t : List ℕ). Writes w t w2) (regrouped (text.bytes "value") (comma ∷ digits ty) (comma ∷ v) (fields fs) (line_feed ∷ [])) (writes_then a b)

-- ---------------------------------------------------------------- lists

map_append : {A : Type 0} (f : A → List ℕ) (xs ys : List A) → map f (xs ++ ys) ≡ map f xs ++ map f ys
map_append f [] ys = refl
map_append f (x ∷ xs) ys = rw (map_append f xs ys)

-- the count n, and then the first i items of a table, as fields
unfoldable pub items : {A : Type 0} → (A → List ℕ) → (ℕ → A) → ℕ → ℕ → List (List ℕ)
items f g n i = digits n ∷ map f (tab g 0 i)

module _ {A : Type 0} (f : A → List ℕ) (g : ℕ → A) where
  pub items_none : (n : ℕ) → items f g n 0 ≡ digits n ∷ []
  unfolding items tab
  items_none n = refl

  pub items_more : (n i : ℕ) → items f g n (i + 1) ≡ items f g n i ++ f (g i) ∷ []
  unfolding items
  items_more n i = rw (tab_more g i, map_append f (tab g 0 i) (g i ∷ []))

  pub items_all : (n : ℕ) → items f g n n ≡ listed f (tab g 0 n)
  unfolding items listed
  items_all n = rw (length_tab g 0 n)

pub destinations_all : (s n : ℕ) → items byte_storage (spot s) n n ≡ listed byte_storage (bytes_from s 0 n)
destinations_all s n = rw (from_tab s 0 n) (items_all byte_storage (spot s) n)

pub operands_all : (b : Bytes) → items byte_operand (byte_at b) b.total b.total ≡ listed byte_operand (bytes_of b)
unfolding bytes_of
operands_all b = items_all byte_operand (byte_at b) b.total
