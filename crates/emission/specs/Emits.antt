-- What is appended to one buffer alone: instructions, of given kinds, to the code; a storage, to the storages.
use Rattle.std.specs.Prelude.{◌≡◌, refl, List, ◌∷◌, ◌++◌, [], ℕ, ◌+◌, ◌≤◌, length}
use Rattle.std.proofs.Common.{sym, ap, ◌∙◌, arith, length-append}
use Rattle.spec.specs.Hir.{At}
use Rattle.spec.specs.Lir.{InstructionKind, Storage}
use Rattle.spec.specs.Print.{each, instruction_line, storage_line}
use Rattle.spec.specs.Monad.{Lower, done, made_all}
use Rattle.spec.proofs.Lengths.{length_made}
use Rattle.text.specs.Writes.{Writes, writes_then, writes_none}
use Rattle.lir.specs.Abstract.{tab, kind_of}
use Rattle.lir.specs.declared.InstructionKind.{InstructionKind as Kind}
use Rattle.lir.specs.Tab.{tab_more}
use Rattle.lir.specs.declared.NodeId.{NodeId}
use Rattle.emission.specs.declared.emitter.Emitter.{Emitter}
use Rattle.emission.specs.Appends.{counters_of, Appends, Room, Keeps, append_then, append_keeps, each_append, each_one}

-- the line of an instruction that node n's own step makes
abbrev pub kind_line : ℕ → InstructionKind → List ℕ
kind_line n k = instruction_line (record { kind = k; node = n })

-- instructions of the kinds ks
pub record Emits (e : Emitter) (ks : List InstructionKind) (e' : Emitter) : Type 0 where
  pub coded : Writes e.code (each (kind_line e.node.0) ks) e'.code
  pub stored : Writes e.store [] e'.store
  pub counted : e'.instructions ≡ e.instructions + length ks
  pub storage : e'.storage ≡ e.storage
  pub temporary : e'.temporary ≡ e.temporary
  pub node : e'.node ≡ e.node

-- the one storage that the definition m appends, with a its answer
pub record Allocates {A : Type 0} (e : Emitter) (m : Lower A) (a : A) (e' : Emitter) : Type 0 where
  pub new : Storage
  pub is : (h : At) → m h (counters_of e) ≡ done a (counters_of e') (record { storages = new ∷ []; narrowed = []; instructions = [] })
  pub coded : Writes e.code [] e'.code
  pub stored : Writes e.store (storage_line new) e'.store
  pub counted : e'.instructions ≡ e.instructions
  pub storage : e'.storage ≡ e.storage + 1
  pub temporary : e'.temporary ≡ e.temporary + 1
  pub node : e'.node ≡ e.node

-- instructions 0 to n - 1 of what a closure makes, whose calls are as post says, in the words of each definition that agrees with it
pub record EmitsMade (post : ℕ → Kind → Type 0) (n : ℕ) (e e' : Emitter) : Type 0 where
  pub emits : (f : ℕ → InstructionKind) → ((i : ℕ) (k : Kind) → post i k → kind_of k ≡ f i) → Emits e (tab f 0 n) e'

-- ---------------------------------------------------------------- laws

pub made_lines : (h : At) (n : ℕ) (ks : List InstructionKind) → h.node ≡ n → each instruction_line (made_all h ks) ≡ each (kind_line n) ks
unfolding each
made_lines h n [] e = refl
made_lines h n (k ∷ ks) e = rw (made_lines h n ks e, e)

pub emits_none : (e : Emitter) → Emits e [] e
unfolding each
emits_none e =
    record {
      coded = writes_none e.code e.code_long e.code_at;
      stored = writes_none e.store e.store_long e.store_at;
      counted = omega arith;
      storage = refl;
      temporary = refl;
      node = refl;
    }

pub emits_then : {e e1 e2 : Emitter} {ks ls : List InstructionKind} → Emits e ks e1 → Emits e1 ls e2 → Emits e (ks ++ ls) e2
emits_then {e} {ks = ks} {ls} a b =
    record {
      coded = rw (each_append (kind_line e.node.0) ks ls) (writes_then a.coded (rw a.node at b.coded));
      stored = writes_then a.stored b.stored;
      counted = omega (arith, length-append ks ls);
      storage = omega arith;
      temporary = omega arith;
      node = b.node ∙ a.node;
    }

-- one line written is one instruction
pub emits_one : {e e1 : Emitter} (k : InstructionKind) → Writes e.code (kind_line e.node.0 k) e1.code → Writes e.store [] e1.store
    → e1.instructions ≡ e.instructions + 1 → e1.storage ≡ e.storage → e1.temporary ≡ e.temporary → e1.node ≡ e.node → Emits e (k ∷ []) e1
emits_one {e} k a b c d f g = record { coded = rw (each_one (kind_line e.node.0) k) a; stored = b; counted = c; storage = d; temporary = f; node = g }

-- ---------------------------------------------------------------- tables, entry by entry

pub table_none : (e : Emitter) (g : ℕ → InstructionKind) → Emits e (tab g 0 0) e
unfolding tab
table_none e g = emits_none e

pub table_more : {e e1 e2 : Emitter} (g : ℕ → InstructionKind) (i : ℕ) {k : InstructionKind}
    → k ≡ g i → Emits e (tab g 0 i) e1 → Emits e1 (k ∷ []) e2 → Emits e (tab g 0 (i + 1)) e2
table_more g i e a b = rw (tab_more g i, ← e) (emits_then a b)

pub made_none : (post : ℕ → Kind → Type 0) (e : Emitter) → EmitsMade post 0 e e
made_none post e = record { emits = λ f h. table_none e f }

pub made_more : {post : ℕ → Kind → Type 0} {e e1 e2 : Emitter} (i : ℕ) (k : Kind) → post i k → EmitsMade post i e e1 → Emits e1 (kind_of k ∷ []) e2 → EmitsMade post (i + 1) e e2
made_more i k p a b = record { emits = λ f h. table_more f i (h i k p) (a.emits f h) b }

-- ---------------------------------------------------------------- as what a step appends

pub emitted : {e e1 : Emitter} {ks : List InstructionKind} → Emits e ks e1 → (h : At) → h.node ≡ e.node.0 → Appends e [] (made_all h ks) e1
unfolding each
emitted {e} {ks = ks} a h p =
    record {
      coded = rw (made_lines h e.node.0 ks p) a.coded;
      stored = a.stored;
      counted = omega (arith, length_made h ks);
      storage = omega arith;
      temporary = omega arith;
      node = a.node;
    }

pub allocated : {A : Type 0} {e e1 : Emitter} {m : Lower A} {x : A} → (a : Allocates e m x e1) → Appends e (a.new ∷ []) [] e1
unfolding each
allocated a =
    record {
      coded = a.coded;
      stored = rw (each_one storage_line a.new) a.stored;
      counted = omega arith;
      storage = omega arith;
      temporary = omega arith;
      node = a.node;
    }

-- a storage, and then instructions
pub allocated_emitted : {A : Type 0} {e e1 e2 : Emitter} {m : Lower A} {x : A} {ks : List InstructionKind}
    → (a : Allocates e m x e1) → Emits e1 ks e2 → (h : At) → h.node ≡ e.node.0 → Appends e (a.new ∷ []) (made_all h ks) e2
allocated_emitted a b h p = append_then (allocated a) (emitted b h (p ∙ sym (ap (λ (z : NodeId). z.0) a.node)))

-- ---------------------------------------------------------------- the room behind a step

pub room_emitted : {n : ℕ} (m : ℕ) {e e1 : Emitter} {ks : List InstructionKind} → length ks + m ≤ n → Room n e → Emits e ks e1 → Room m e1
room_emitted m h r a = record { instructions = omega arith; storage = omega arith; temporary = omega arith }

pub room_allocated : {A : Type 0} {n : ℕ} {e e1 : Emitter} {m : Lower A} {x : A} → Room (n + 1) e → Allocates e m x e1 → Room n e1
room_allocated o a = record { instructions = omega arith; storage = omega arith; temporary = omega arith }

-- ---------------------------------------------------------------- the same buffers

pub emits_keeps : {e e1 : Emitter} {ks : List InstructionKind} → Emits e ks e1 → Keeps e e1
emits_keeps {e} a = append_keeps (emitted a (record { line = 0; node = e.node.0; ty = 0 }) refl)

pub allocates_keeps : {A : Type 0} {e e1 : Emitter} {m : Lower A} {x : A} → Allocates e m x e1 → Keeps e e1
allocates_keeps a = append_keeps (allocated a)
