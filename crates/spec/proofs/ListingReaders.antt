-- Readers of what was printed: in sequence, over a list, a whole line.
use mathlib.Core.List.{List, [], ◌∷◌, ◌++◌, append-nil, append_assoc}
use Rattle.std.specs.Prelude.{Option, Some}
use mathlib.Core.Path.{◌≡◌, refl}
use Rattle.spec.specs.ReadBack.{Reader, then, ◌>>=◌, pure, next, whole}

-- m reads a from xs, and leaves what follows them
pub record Takes {S A : Type 0} (m : Reader S A) (xs : List S) (a : A) : Type 0 where
  pub takes : (rest : List S) → m (xs ++ rest) ≡ Some (record { it = a; rest = rest })

pub takes_pure : {S A : Type 0} (a : A) → Takes {S = S} (pure a) [] a
unfolding pure
takes_pure a = record { takes = λ rest. refl }

pub takes_then : {S A B : Type 0} {m : Reader S A} (f : A → Reader S B) {xs ys : List S} {a : A} {b : B}
    → Takes m xs a → Takes (f a) ys b → Takes (m >>= f) (xs ++ ys) b
unfolding ◌>>=◌ then
takes_then f {xs} {ys} p q = record { takes = λ rest. rw (append_assoc xs ys rest, p.takes (ys ++ rest)) (q.takes rest) }

-- the last step makes the answer
pub takes_last : {S A B : Type 0} {m : Reader S A} (k : A → B) {xs : List S} {a : A} → Takes m xs a → Takes (m >>= λ x. pure (k x)) xs (k a)
takes_last k {a} p = rw append-nil at (takes_then (λ x. pure (k x)) p (takes_pure (k a)))

pub takes_next : {S A : Type 0} (f : S → Option A) {x : S} {a : A} → f x ≡ Some a → Takes (next f) (x ∷ []) a
unfolding next
takes_next f e = record { takes = λ rest. rw e }

pub takes_all : {S A : Type 0} {m : Reader S A} {xs : List S} {a : A} → Takes m xs a → m xs ≡ Some (record { it = a; rest = [] })
takes_all p = rw append-nil at (p.takes [])

pub whole_of : {S A : Type 0} (m : Reader S A) (xs : List S) {a : A} → m xs ≡ Some (record { it = a; rest = [] }) → whole m xs ≡ Some a
unfolding whole
whole_of m xs e = rw e

pub takes_whole : {S A : Type 0} {m : Reader S A} {xs : List S} {a : A} → Takes m xs a → whole m xs ≡ Some a
takes_whole p = whole_of _ _ (takes_all p)
