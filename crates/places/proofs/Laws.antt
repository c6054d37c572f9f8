-- Steps that append nothing: what they come to, one behind the other.
use mathlib.Core.Path.{◌≡◌, refl, fun_ext}
use Rattle.std.specs.Prelude.{Option, None, Some, Result, Err}
use Rattle.std.specs.Option.{ok_or}
use Rattle.std.specs.Result.{IsErrAnd}
use Rattle.std.proofs.lemmas.Result.{err_from_is_err_and}
use Prim.Native.Nat.{ℕ, ◌≤◌, ◌<◌}
use borrow.Author.Tests.{le-leb, lt-leb}
use Rattle.spec.specs.Limits.{offset_limit}
use Rattle.spec.specs.Monad.{Outcome, refused, done, Lower, nothing, prepend, ◌>>=◌, ◌>>◌, pure, refuse, require}
use Rattle.spec.specs.Places.{within}
use Rattle.answers.specs.declared.Refusal.{Refusal}
use Rattle.answers.specs.Refusals.{refusal_number}
use Rattle.places.specs.Answers.{outcome_of}

quiet : {A : Type 0} (o : Outcome A) → prepend nothing o ≡ o
quiet (refused n l) = refl
quiet (done a c o) = refl

pub bind-pure : {A B : Type 0} (a : A) (f : A → Lower B) → (pure a >>= f) ≡ f a
unfolding ◌>>=◌
bind-pure a f = fun_ext (λ h. fun_ext (λ c. quiet (f a h c)))

pub bind-refuse : {A B : Type 0} (n : ℕ) (f : A → Lower B) → (refuse n >>= f) ≡ refuse n
unfolding ◌>>=◌
bind-refuse n f = refl

pub next-pure : {A B : Type 0} (a : A) (k : Lower B) → (pure a >> k) ≡ k
unfolding ◌>>◌
next-pure a k = fun_ext (λ h. fun_ext (λ c. quiet (k h c)))

pub next-refuse : {B : Type 0} (n : ℕ) (k : Lower B) → (refuse {A = Unit {0}} n >> k) ≡ refuse n
unfolding ◌>>◌
next-refuse n k = refl

-- what `?` gives back
pub returned : {A B : Type 0} (f : A → B) (r : Result A Refusal) (e : Refusal) → IsErrAnd r (λ x. x ≡ e) → outcome_of f r ≡ refuse (refusal_number e)
returned f r e h = let p = err_from_is_err_and r h in rw (p.1, p.2)

-- and behind an `ok_or`
pub returned_none : {A B C : Type 0} (f : A → B) (r : Result A Refusal) (o : Option C) (d e : Refusal) → IsErrAnd r (λ x. x ≡ d) → Err d ≡ ok_or o e → outcome_of f r ≡ refuse (refusal_number e)
returned_none f r None d e h g = let same : d ≡ e = cc in rw (returned f r d h, same)
returned_none f r (Some a) d e h g = cc

pub within_near : (o : ℕ) → o ≤ offset_limit → within o ≡ pure tt
unfolding within require
within_near o h = rw (le-leb o offset_limit h)

pub within_far : (o : ℕ) → offset_limit < o → within o ≡ refuse 27
unfolding within require
within_far o h = rw (lt-leb o offset_limit h)

pub ruleset steps = (bind-pure, bind-refuse, next-pure, next-refuse, returned, returned_none, within_near, within_far)
