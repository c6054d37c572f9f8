-- What a step of the code has done: the definition's answer, and all that it appends.
use Rattle.std.specs.Prelude.{◌≡◌, refl, List, ◌∷◌, ◌++◌, [], ℕ, ◌+◌, ◌≤◌, length}
use Rattle.std.specs.Prelude.{Result, Ok, Err}
use Rattle.std.proofs.Math.Path.{sym}
use Rattle.std.proofs.Common.{ap, subst, ◌∙◌, arith}
use Rattle.std.proofs.Math.ListN.{length-append}
use Rattle.spec.specs.Hir.{At}
use Rattle.spec.specs.Lir.{InstructionKind, Storage}
use Rattle.spec.specs.Monad.{Lower, done, refused, Out, ◌>>=◌, ◌>>◌, emits, made_all}
use Rattle.spec.specs.Monad as monad
use Rattle.spec.proofs.Lengths.{length_made}
use Rattle.answers.specs.Refusals.{refusal_number}
use Rattle.answers.specs.declared.Refusal.{Refusal}
use Rattle.lir.specs.declared.NodeId.{NodeId}
use Rattle.emission.specs.declared.emitter.Emitter.{Emitter}
use Rattle.emission.specs.Appends.{counters_of, Appends, Room, Keeps, append_then, append_keeps, room_after, made_append}
use Rattle.emission.specs.Emits.{Emits, Allocates, emitted, allocated, allocated_emitted}

abbrev pub out : List Storage → List InstructionKind → At → Out
out ss ks h = record { storages = ss; narrowed = []; instructions = made_all h ks }

-- whichever node's step it is, m answers a, and appends at most n storages and n instructions, of the emitter's node
pub record Does {A : Type 0} (n : ℕ) (e : Emitter) (m : Lower A) (a : A) (e' : Emitter) : Type 0 where
  pub storages : List Storage
  pub kinds : List InstructionKind
  pub is : (h : At) → m h (counters_of e) ≡ done a (counters_of e') (out storages kinds h)
  pub appends : (h : At) → h.node ≡ e.node.0 → Appends e storages (made_all h kinds) e'
  pub node : e'.node ≡ e.node
  pub few_storages : length storages ≤ n
  pub few_kinds : length kinds ≤ n

-- a step of node n, for what no line or type decides
abbrev pub at_node : ℕ → At
at_node n = record { line = 0; node = n; ty = 0 }

-- m refuses, at the line of the node whose step it is
pub record Refuses {A : Type 0} (e : Emitter) (m : Lower A) (n : ℕ) : Type 0 where
  pub is : (h : At) → m h (counters_of e) ≡ refused n h.line

abbrev pub MeetsBy : ℕ → Emitter → Lower Unit → Emitter → Result Unit Refusal → Type 0
MeetsBy n e m e' (Ok x) = Does n e m tt e'
MeetsBy n e m e' (Err r) = Refuses e m (refusal_number r) × Keeps e e'

-- done or refused, as the definition
pub record Meets (n : ℕ) (e : Emitter) (m : Lower Unit) (e' : Emitter) (r : Result Unit Refusal) : Type 0 where
  pub shown : MeetsBy n e m e' r

-- ---------------------------------------------------------------- laws

-- which outcome it was
module _ {n : ℕ} {e e1 : Emitter} {m : Lower Unit} {r : Result Unit Refusal} (x : Meets n e m e1 r) where
  pub meets_done : {u : Unit {0}} → r ≡ Ok u → Does n e m tt e1
  meets_done p = subst (λ (z : Result Unit Refusal). MeetsBy n e m e1 z) p x.shown

  pub meets_refused : {k : Refusal} → r ≡ Err k → Refuses e m (refusal_number k) × Keeps e e1
  meets_refused p = subst (λ (z : Result Unit Refusal). MeetsBy n e m e1 z) p x.shown

module _ {A B : Type 0} {n k : ℕ} {e e1 e2 : Emitter} {m : Lower A} {a : A} {b : B} where
  -- one step, and then another that takes its answer
  pub does_then : (f : A → Lower B) → Does n e m a e1 → Does k e1 (f a) b e2 → Does (n + k) e (m >>= f) b e2
  unfolding ◌>>=◌
  does_then f x y =
      record {
        storages = x.storages ++ y.storages;
        kinds = x.kinds ++ y.kinds;
        is = λ h. rw (x.is h, y.is h, made_append h x.kinds y.kinds);
        appends = λ h p. rw (made_append h x.kinds y.kinds) (append_then (x.appends h p) (y.appends h (p ∙ sym (ap (λ (z : NodeId). z.0) x.node))));
        node = y.node ∙ x.node;
        few_storages = omega (arith, length-append x.storages y.storages);
        few_kinds = omega (arith, length-append x.kinds y.kinds);
      }

  -- one step, and then another
  pub does_next : {p : Lower B} → Does n e m a e1 → Does k e1 p b e2 → Does (n + k) e (m >> p) b e2
  unfolding ◌>>◌
  does_next x y =
      record {
        storages = x.storages ++ y.storages;
        kinds = x.kinds ++ y.kinds;
        is = λ h. rw (x.is h, y.is h, made_append h x.kinds y.kinds);
        appends = λ h p. rw (made_append h x.kinds y.kinds) (append_then (x.appends h p) (y.appends h (p ∙ sym (ap (λ (z : NodeId). z.0) x.node))));
        node = y.node ∙ x.node;
        few_storages = omega (arith, length-append x.storages y.storages);
        few_kinds = omega (arith, length-append x.kinds y.kinds);
      }

-- a looser bound
pub does_more : {A : Type 0} {n k : ℕ} {e e1 : Emitter} {m : Lower A} {a : A} → n ≤ k → Does n e m a e1 → Does k e m a e1
does_more h x =
    record {
      storages = x.storages;
      kinds = x.kinds;
      is = x.is;
      appends = x.appends;
      node = x.node;
      few_storages = omega (arith, x.few_storages);
      few_kinds = omega (arith, x.few_kinds);
    }

pub does_keeps : {A : Type 0} {n : ℕ} {e e1 : Emitter} {m : Lower A} {a : A} → Does n e m a e1 → Keeps e e1
does_keeps {e = e} x = append_keeps (x.appends (at_node e.node.0) refl)

keeps_by : (n : ℕ) (e e1 : Emitter) (m : Lower Unit) (r : Result Unit Refusal) → MeetsBy n e m e1 r → Keeps e e1
keeps_by n e e1 m (Ok u) x = does_keeps x
keeps_by n e e1 m (Err k) x = x.1

-- done or refused, it is into the same buffers
pub meets_keeps : {n : ℕ} {e e1 : Emitter} {m : Lower Unit} {r : Result Unit Refusal} → Meets n e m e1 r → Keeps e e1
meets_keeps {n} {e} {e1} {m} {r} x = keeps_by n e e1 m r x.shown

-- the room behind a step
pub room_done : {A : Type 0} {n k : ℕ} {e e1 : Emitter} {m : Lower A} {a : A} → Room (n + k) e → Does n e m a e1 → Room k e1
room_done {n} {k} {e} r x =
    let h : At = at_node e.node.0 in
    room_after k (omega (arith, x.few_storages)) (omega (arith, x.few_kinds, length_made h x.kinds)) r (x.appends h refl)

pub does_emits : {n : ℕ} {e e1 : Emitter} {ks : List InstructionKind} → length ks ≤ n → Emits e ks e1 → Does n e (emits ks) tt e1
does_emits {ks = ks} f x =
    record { storages = []; kinds = ks; is = λ h. rw (x.storage, x.temporary); appends = emitted x; node = x.node; few_storages = omega arith; few_kinds = f }

pub does_allocate : {A : Type 0} {e e1 : Emitter} {m : Lower A} {x : A} → Allocates e m x e1 → Does 1 e m x e1
does_allocate a =
    record { storages = a.new ∷ []; kinds = []; is = a.is; appends = λ h p. allocated a; node = a.node; few_storages = omega arith; few_kinds = omega arith }

-- a new storage, and then instructions of the kinds ks alone
pub does_allocating : {A B : Type 0} {n : ℕ} {e e1 e2 : Emitter} {m : Lower A} {x : A} {ks : List InstructionKind} {b : B} (f : A → Lower B)
    → 1 ≤ n → length ks ≤ n → Allocates e m x e1 → Emits e1 ks e2 → ((h : At) (d : monad.Counters) → f x h d ≡ done b d (out [] ks h))
    → Does n e (m >>= f) b e2
unfolding ◌>>=◌
does_allocating {e1 = e1} {ks = ks} f p q a y g =
    record {
      storages = a.new ∷ [];
      kinds = ks;
      is = λ h. rw (a.is h, g h (counters_of e1), y.storage, y.temporary);
      appends = allocated_emitted a y;
      node = y.node ∙ a.node;
      few_storages = p;
      few_kinds = q;
    }
