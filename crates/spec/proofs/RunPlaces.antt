-- Places: resolving one appends nothing, and its answer is the ticket's alone. Reading from it.
use Prim.Native.Nat.{ℕ, ◌≤◌, ◌<◌}
use mathlib.Core.Bool.{Bool, true, false}
use mathlib.Core.List.{List, [], ◌++◌}
use Rattle.std.specs.Prelude.{Option, None, Some}
use Rattle.std.proofs.lemmas.Option.{none-some}
use mathlib.Core.Path.{◌≡◌, refl, sym, ap₂, ◌∙◌}
use native.Mathlib.Omega.{arith}
use native.Mathlib.Nat.{le_trans}
use lib.Dec.{leb}
use borrow.Author.Tests.{eqb-true}
use lib.ListN.{length}
use Rattle.spec.specs.Limits.{type_depth_limit, offset_limit}
use Rattle.spec.specs.Hir.{At, Expr, Place, variable, static, field, element, byte_offset}
use Rattle.spec.specs.Ticket.{Tables, type_at, PlacedLine, nowhere, t_bool}
use Rattle.spec.specs.Readable.{TypesRight}
use Rattle.spec.specs.Lir.{Instruction}
use Rattle.spec.specs.Monad.{Lower, Outcome, refused, done, Out, Counters, ◌>>=◌, ◌>>◌, bind_to, prepend, pure, or_refuse, require}
use Rattle.spec.specs.Allocation.{Location}
use Rattle.spec.specs.Places.{Base, within, field_offset, element_offset, base_of, part_of, opaque_rest, resolve_place_base, with_type, location_in, resolve_place}
use Rattle.spec.specs.ReadBytes.{read_location}
use Rattle.spec.specs.Lower.{lower_read}
use Rattle.spec.specs.Machine.{Memory, Proper, Given}
use Rattle.spec.specs.Eval.{Data, flag, stored_data, fits, located, read_data}
use Rattle.spec.proofs.RunFrames.{Agree}
use Rattle.spec.proofs.RunHoare.{Ok, From, ◌then◌, ending, Is, it, purely, at_it}
use Rattle.spec.proofs.RunTyping.{has_bool}
use Rattle.spec.proofs.RunValues.{of_bit, Gives, here}
use Rattle.spec.proofs.RunReading.{stands_later, type_read}
use Rattle.spec.proofs.RunStanding.{stored_stands}
use Rattle.spec.specs.RunNeeds.{Placed, NeedsOf}

-- ---------------------------------------------------------------- steps that only answer

abbrev pub answered : {A : Type 0} → Outcome A → Option A
answered (refused n l) = None
answered (done a c o) = Some a

abbrev pub start : Counters
start = record { storage = 0; temporary = 0 }

-- the answer x, which has Q, and nothing else
abbrev pub QuietAs : {A : Type 0} → (A → Type 0) → Option A → Counters → Outcome A → Type 0
QuietAs Q x c (refused n l) = x ≡ None
QuietAs Q x c (done a c' o) = (x ≡ Some a) × (c' ≡ c) × (o.instructions ≡ []) × Q a

-- wherever it is asked
pub record Quiet {A : Type 0} (Q : A → Type 0) (m : Lower A) : Type 0 where
  pub is : (h : At) (c : Counters) → QuietAs Q (answered (m nowhere start)) c (m h c)

appended : {A : Type 0} (Q : A → Type 0) (o : Out) (x : Option A) (c : Counters) (y : Outcome A) → o.instructions ≡ [] → QuietAs Q x c y → QuietAs Q x c (prepend o y)
appended Q o x c (refused n l) e q = q
appended Q o x c (done a c' p) e q = (q.0, q.1, ap₂ (λ (i j : List Instruction). i ++ j) e q.2, q.3)

pub answered_prepend : {A : Type 0} (o : Out) (y : Outcome A) → answered (prepend o y) ≡ answered y
answered_prepend o (refused n l) = refl
answered_prepend o (done a c p) = refl

quiet_bound : {A B : Type 0} (P : A → Type 0) (Q : B → Type 0) (f : A → Lower B) → ((a : A) → P a → Quiet Q (f a)) → (h : At) (c : Counters) (y x : Outcome A)
    → QuietAs P (answered y) start y → QuietAs P (answered y) c x → QuietAs Q (answered (bind_to f nowhere y)) c (bind_to f h x)
quiet_bound P Q f k h c (refused n l) (refused n' l') p q = refl
quiet_bound P Q f k h c (refused n l) (done a c' o) p q = absurd (none-some a q.0)
quiet_bound P Q f k h c (done b d i) (refused n l) p q = absurd (none-some b (sym q))
quiet_bound P Q f k h c (done b d i) (done a c' o) p q =
    let e : b ≡ a = cc in
    rw (answered_prepend i (f b nowhere d), p.1, e) (appended Q o _ c (f a h c') q.2 (rw q.1 ((k a q.3).is h c)))

quiet_then : {A B : Type 0} {P : A → Type 0} {Q : B → Type 0} {m : Lower A} {f : A → Lower B} → Quiet P m → ((a : A) → P a → Quiet Q (f a)) → Quiet Q (m >>= f)
unfolding ◌>>=◌
quiet_then {P = P} {Q = Q} {m = m} {f = f} p k = record { is = λ h c. quiet_bound P Q f k h c (m nowhere start) (m h c) (p.is nowhere start) (p.is h c) }

quiet_next : {A B : Type 0} {P : A → Type 0} {Q : B → Type 0} {m : Lower A} {f : Lower B} → Quiet P m → ((a : A) → P a → Quiet Q f) → Quiet Q (m >> f)
unfolding ◌>>◌
quiet_next {P = P} {Q = Q} {m = m} {f = f} p k = record { is = λ h c. quiet_bound P Q (λ _. f) k h c (m nowhere start) (m h c) (p.is nowhere start) (p.is h c) }

quiet_pure : {A : Type 0} {Q : A → Type 0} (a : A) → Q a → Quiet Q (pure a)
quiet_pure a q = record { is = λ h c. (refl, refl, refl, q) }

pub quiet_option : {A : Type 0} (n : ℕ) (x : Option A) → Quiet (λ a. x ≡ Some a) (or_refuse n x)
unfolding or_refuse
quiet_option n None = record { is = λ h c. refl }
quiet_option n (Some a) = quiet_pure a refl

pub quiet_require : (n : ℕ) (b : Bool) → Quiet (λ _. b ≡ true) (require n b)
unfolding require
quiet_require n true = quiet_pure tt refl
quiet_require n false = record { is = λ h c. refl }

-- ---------------------------------------------------------------- resolving

-- an older storage
abbrev Older : Tables → ℕ → Type 0
Older T s = s < length T.storages

pub record Resolved (T : Tables) (ty : ℕ) (l : Location) : Type 0 where
  pub older : Older T l.storage
  pub typed : l.ty ≡ ty
  pub bit_bool : l.is_bit ≡ true → ty ≡ 0

abbrev Any : {A : Type 0} → A → Type 0
Any a = Unit

module _ (T : Tables) (N : NeedsOf T) where
  pub quiet_field : (b : Base) (i : ℕ) → Quiet Any (field_offset T b.word b.args i)
  unfolding field_offset
  quiet_field b i = quiet_then (quiet_option 21 _) (λ fs _. quiet_then (quiet_option 21 _) (λ ty _. quiet_pure _ tt))

  pub quiet_element : (b : Base) (e : Expr) → Quiet Any (element_offset T b.word b.args e)
  unfolding element_offset
  quiet_element b e =
      quiet_then (quiet_option 21 _) (λ a _. quiet_then (quiet_option 21 _) (λ i _. quiet_next (quiet_require 21 _) (λ _ _. quiet_pure _ tt)))

  pub quiet_within : (o : ℕ) → Quiet (λ _. leb o offset_limit ≡ true) (within o)
  unfolding within
  quiet_within o = quiet_require 27 _

  pub quiet_base : (p : Place) → Quiet (λ b. Older T b.storage) (resolve_place_base T p)
  unfolding resolve_place_base base_of part_of opaque_rest
  quiet_base (variable k) = quiet_then (quiet_option 20 _) (λ p e. quiet_pure _ (N.variables k p e).older)
  quiet_base (static k) = quiet_then (quiet_option 20 _) (λ p e. quiet_pure _ (N.statics k p e).older)
  quiet_base (field p i) = quiet_then (quiet_base p) (λ b s. quiet_then (quiet_field b i) (λ f _. quiet_next (quiet_within _) (λ _ _. quiet_pure _ s)))
  quiet_base (element p e) = quiet_then (quiet_base p) (λ b s. quiet_then (quiet_element b e) (λ f _. quiet_next (quiet_within _) (λ _ _. quiet_pure _ s)))
  quiet_base (byte_offset p e) = quiet_then (quiet_base p) (λ b s. quiet_then (quiet_option 21 _) (λ n _. quiet_next (quiet_within _) (λ _ _. quiet_pure _ s)))

  quiet_part : (b : Base) (o ty : ℕ) → Older T b.storage → Quiet (Resolved T ty) (location_in T b o ty)
  unfolding location_in
  quiet_part b o ty s = quiet_next (quiet_within _) (λ _ _. quiet_pure _ (record { older = s; typed = refl; bit_bool = λ e. cc }))

  quiet_whole : (ty : ℕ) (p : PlacedLine) → Placed T p → Quiet (Resolved T ty) (with_type T ty p)
  unfolding with_type
  quiet_whole ty p r =
      quiet_next (quiet_require 22 _) (λ _ e. quiet_pure _
      (record { older = r.older; typed = refl; bit_bool = λ q. sym (eqb-true p.type ty e) ∙ r.bit_bool (eqb-true p.bit 1 q) }))

  pub quiet_place : (p : Place) (ty : ℕ) → Quiet (Resolved T ty) (resolve_place T p ty)
  unfolding resolve_place
  quiet_place (variable k) ty = quiet_then (quiet_option 20 _) (λ p e. quiet_whole ty p (N.variables k p e))
  quiet_place (static k) ty = quiet_then (quiet_option 20 _) (λ p e. quiet_whole ty p (N.statics k p e))
  quiet_place (field p i) ty =
      quiet_then (quiet_base p) (λ b s. quiet_then (quiet_field b i) (λ f _. quiet_next (quiet_require 22 _) (λ _ _. quiet_part b _ ty s)))
  quiet_place (element p e) ty =
      quiet_then (quiet_base p) (λ b s. quiet_then (quiet_element b e) (λ f _. quiet_next (quiet_require 22 _) (λ _ _. quiet_part b _ ty s)))
  quiet_place (byte_offset p e) ty = quiet_then (quiet_base p) (λ b s. quiet_then (quiet_option 21 _) (λ n _. quiet_part b _ ty s))

-- ---------------------------------------------------------------- the answer, as a step and as a fact

pub answer_has : {A : Type 0} (Q : A → Type 0) {a : A} (x : Outcome A) (c : Counters) → QuietAs Q (answered x) c x → answered x ≡ Some a → Q a
answer_has Q {a} (refused n l) c q e = absurd (none-some a e)
answer_has Q {a} (done b d o) c q e = let z : b ≡ a = cc in rw z at q.3

module _ (G : Given) where
  only : {A : Type 0} (Q : A → Type 0) (v : Option A) (n t : ℕ) (M : Memory) (a : A) (x : Outcome A) → v ≡ Some a
      → QuietAs Q v (record { storage = n; temporary = t }) x → Ok G M (Is a n M) x
  only Q v n t M a (refused k l) e q = tt
  only Q v n t M a (done b c o) e q =
      let e₁ : b ≡ a = cc in
      rw (e₁, q.1, q.2) (record { means = tt; left = it })

  pub quiet_from : {A : Type 0} {Q : A → Type 0} {n : ℕ} {M : Memory} {m : Lower A} (a : A) → Quiet Q m → answered (m nowhere start) ≡ Some a → From G n M m (Is a n M)
  quiet_from {Q = Q} {n = n} {M = M} {m = m} a p e =
      record { leads = λ h t. only Q _ n t M a (m h (record { storage = n; temporary = t })) e (p.is h (record { storage = n; temporary = t })) }

-- ---------------------------------------------------------------- reading

module _ (G : Given) (T : Tables) (R : TypesRight T) (N : NeedsOf T) (M₀ : Memory) (P : Proper M₀) where
  -- a packed bool
  bit_read : {n₀ : ℕ} (l : Location) (ty : ℕ) → Resolved T ty l → l.is_bit ≡ true → length T.storages ≤ n₀
      → (n : ℕ) (M : Memory) → n₀ ≤ n → Agree n₀ M₀ M → From G n M (read_location T l) (Gives T n M ty (flag (M₀.bit l.storage)))
  unfolding read_location
  bit_read {n₀} l ty r b h n M z a =
      let s : l.storage < n₀ = le_trans r.older h in
      let bool : (type_at T ty).word ≡ t_bool = rw (r.bit_bool b) R.bool_first in
      let small : M₀.bit l.storage < 2 = omega (arith, P.bits l.storage) in
      rw (b, r.typed) (ending G (purely G _)
      (here (has_bool bool small) (of_bit (record { holds = λ M' q. q.bits l.storage (le_trans s z) ∙ a.bits l.storage s }))))

  bytes_read : {n₀ : ℕ} (l : Location) (ty : ℕ) → Resolved T ty l → l.is_bit ≡ false → length T.storages ≤ n₀
      → fits T type_depth_limit ty (stored_data T M₀ l.storage type_depth_limit ty l.offset) ≡ true
      → (n : ℕ) (M : Memory) → n₀ ≤ n → Agree n₀ M₀ M
      → From G n M (read_location T l) (Gives T n M ty (stored_data T M₀ l.storage type_depth_limit ty l.offset))
  unfolding read_location
  bytes_read {n₀} l ty r b h f n M z a =
      let s : l.storage < n₀ = le_trans r.older h in
      rw (b, r.typed) (type_read T l.storage G type_depth_limit ty l.offset n M _ (le_trans s z)
      (stands_later T l.storage s a (stored_stands M₀ l.storage P T R type_depth_limit ty l.offset f)))

  -- THE STEP of a read: what the place holds in the memory at the start
  pub read_step : {n₀ : ℕ} (p : Place) (ty : ℕ) (d : Data) → length T.storages ≤ n₀ → read_data T M₀ p ty ≡ Some d → fits T type_depth_limit ty d ≡ true
      → (n : ℕ) (M : Memory) → n₀ ≤ n → Agree n₀ M₀ M → From G n M (lower_read T p ty) (Gives T n M ty d)
  unfolding lower_read read_data located
  read_step {n₀} p ty d h e f n M z a = go (located T p ty) refl
    where
      go : (x : Option Location) → located T p ty ≡ x → From G n M (lower_read T p ty) (Gives T n M ty d)
      go None q = absurd (none-some d (rw q at e))
      go (Some l) q =
          let r : Resolved T ty l = answer_has (Resolved T ty) (resolve_place T p ty nowhere start) start ((quiet_place T N p ty).is nowhere start) q in
          ◌then◌ G (quiet_from G l (quiet_place T N p ty) q) (at_it G (by l.is_bit refl r))
        where
          by : (b : Bool) → l.is_bit ≡ b → Resolved T ty l → From G n M (read_location T l) (Gives T n M ty d)
          by true b r =
              let e' = rw (q, b) at e in
              let k : flag (M₀.bit l.storage) ≡ d = cc in
              rw (← k) (bit_read l ty r b h n M z a)
          by false b r =
              let e' = rw (q, b, r.typed) at e in
              let k : stored_data T M₀ l.storage type_depth_limit ty l.offset ≡ d = cc in
              rw (← k) (bytes_read l ty r b h (rw k f) n M z a)
