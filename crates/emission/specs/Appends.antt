-- What a step appends: storages and instructions, as texts behind those that an emitter has, with its counts advanced.
use Rattle.std.specs.Prelude.{◌≡◌, refl, List, ◌∷◌, ◌++◌, [], ℕ, ◌+◌, ◌≤◌, length}
use Rattle.std.proofs.Common.{ap, ◌∙◌, append_assoc, append-nil, arith, length-append}
use Rattle.std.proofs.Math.Seq.{length-sets}
use Rattle.spec.specs.Hir.{At}
use Rattle.spec.specs.Lir.{Instruction, InstructionKind, Storage}
use Rattle.spec.specs.Print.{each, instruction_line, storage_line}
use Rattle.spec.specs.Monad as monad
use Rattle.spec.specs.Monad.{made_all}
use Rattle.text.specs.Put.{last, sat}
use Rattle.text.specs.Writes.{Writes, writes_then, writes_none}
use Rattle.text.specs.declared.writer.Writer.{Writer}
use Rattle.emission.specs.declared.emitter.Emitter.{Emitter}

-- the definitions' counters
abbrev pub counters_of : Emitter → monad.Counters
counters_of e = record { storage = e.storage; temporary = e.temporary }

-- storages ss and instructions is, appended to what e has
pub record Appends (e : Emitter) (ss : List Storage) (is : List Instruction) (e' : Emitter) : Type 0 where
  pub coded : Writes e.code (each instruction_line is) e'.code
  pub stored : Writes e.store (each storage_line ss) e'.store
  pub counted : e'.instructions ≡ e.instructions + length is
  pub storage : e'.storage ≡ e.storage + length ss
  pub temporary : e'.temporary ≡ e.temporary + length ss
  pub node : e'.node ≡ e.node

-- room for n more of each: no count overflows. It is asked call by call, and is no fact of the emitter's type: n is what that call appends.
pub record Room (n : ℕ) (e : Emitter) : Type 0 where
  pub instructions : e.instructions + n ≤ 4611686018427387904
  pub storage : e.storage + n ≤ 4611686018427387904
  pub temporary : e.temporary + n ≤ 4611686018427387904

-- an emitter of nothing yet, over two buffers that hold l and m, whose next storage is s and next temporary t
pub record Begins (l m : List ℕ) (s t : ℕ) (e : Emitter) : Type 0 where
  pub code_now : e.code.buf.now ≡ l
  pub code_at : e.code.at ≡ 0
  pub store_now : e.store.buf.now ≡ m
  pub store_at : e.store.at ≡ 0
  pub instructions : e.instructions ≡ 0
  pub storage : e.storage ≡ s
  pub temporary : e.temporary ≡ t
  pub node : e.node.0 ≡ 0

-- ---------------------------------------------------------------- the same buffers

pub record KeepsBuffer (w w' : Writer) : Type 0 where
  pub same : w'.buf.ghost_name ≡ w.buf.ghost_name
  pub long : length w'.buf.now ≡ length w.buf.now

-- what is written leaves positions
module _ {w w' : Writer} {t : List ℕ} (a : Writes w t w') where
  pub writes_long : length w'.buf.now ≤ last
  writes_long = let n = ap length a.put.text ∙ length-sets w.buf.now w.at t in omega (arith, a.put.fits)

  pub writes_at : w'.at ≤ last
  unfolding sat
  writes_at = let e = a.put.next in omega arith

-- whatever was written, it is into the same buffers, which are as long as they were
pub record Keeps (e e' : Emitter) : Type 0 where
  pub code : KeepsBuffer e.code e'.code
  pub store : KeepsBuffer e.store e'.store

keeps_writes : {w w' : Writer} {t : List ℕ} → Writes w t w' → KeepsBuffer w w'
keeps_writes {w} {t = t} a = record { same = a.same; long = ap length a.put.text ∙ length-sets w.buf.now w.at t }

pub keeps_all : (e : Emitter) → Keeps e e
keeps_all e = record { code = record { same = refl; long = refl }; store = record { same = refl; long = refl } }

pub keeps_then : {e e1 e2 : Emitter} → Keeps e e1 → Keeps e1 e2 → Keeps e e2
keeps_then a b =
    record {
      code = record { same = b.code.same ∙ a.code.same; long = b.code.long ∙ a.code.long };
      store = record { same = b.store.same ∙ a.store.same; long = b.store.long ∙ a.store.long };
    }

-- ---------------------------------------------------------------- laws

pub each_append : {A : Type 0} (f : A → List ℕ) (xs ys : List A) → each f (xs ++ ys) ≡ each f xs ++ each f ys
unfolding each
each_append f [] ys = refl
each_append f (x ∷ xs) ys = rw (each_append f xs ys, append_assoc)

pub each_one : {A : Type 0} (f : A → List ℕ) (x : A) → each f (x ∷ []) ≡ f x
unfolding each
each_one f x = append-nil (f x)

-- nothing appended
pub append_none : (e : Emitter) → Appends e [] [] e
unfolding each
append_none e =
    record {
      coded = writes_none e.code e.code_long e.code_at;
      stored = writes_none e.store e.store_long e.store_at;
      counted = omega arith;
      storage = omega arith;
      temporary = omega arith;
      node = refl;
    }

-- one step, and then another
pub append_then : {e e1 e2 : Emitter} {ss ss1 : List Storage} {is is1 : List Instruction}
    → Appends e ss is e1 → Appends e1 ss1 is1 e2 → Appends e (ss ++ ss1) (is ++ is1) e2
append_then {ss = ss} {ss1} {is} {is1} a b =
    let n = length-append ss ss1 in
    record {
      coded = rw (each_append instruction_line is is1) (writes_then a.coded b.coded);
      stored = rw (each_append storage_line ss ss1) (writes_then a.stored b.stored);
      counted = omega (arith, length-append is is1);
      storage = omega arith;
      temporary = omega arith;
      node = b.node ∙ a.node;
    }

pub append_keeps : {e e1 : Emitter} {ss : List Storage} {is : List Instruction} → Appends e ss is e1 → Keeps e e1
append_keeps a = record { code = keeps_writes a.coded; store = keeps_writes a.stored }

-- less room
pub room_less : {n m : ℕ} {e : Emitter} → m ≤ n → Room n e → Room m e
room_less h r = record { instructions = omega arith; storage = omega arith; temporary = omega arith }

-- the room behind a step
pub room_after : {n : ℕ} (m : ℕ) {e e1 : Emitter} {ss : List Storage} {is : List Instruction}
    → length ss + m ≤ n → length is + m ≤ n → Room n e → Appends e ss is e1 → Room m e1
room_after m h k r a = record { instructions = omega arith; storage = omega arith; temporary = omega arith }

-- ---------------------------------------------------------------- instructions made of kinds

pub made_append : (h : At) (ks ls : List InstructionKind) → made_all h (ks ++ ls) ≡ made_all h ks ++ made_all h ls
made_append h [] ls = refl
made_append h (k ∷ ks) ls = rw (made_append h ks ls)
