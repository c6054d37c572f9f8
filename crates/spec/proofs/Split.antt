-- Splitting what was joined: lines at line feeds, fields at commas.
use Prim.Native.Nat.{ℕ}
use mathlib.Core.Bool.{Bool, true, false, ◌&&◌, not}
use mathlib.Core.List.{List, [], ◌∷◌, ◌++◌, append-nil, append_assoc}
use mathlib.Core.Path.{◌≡◌, refl, ap, ◌∙◌}
use lib.Dec.{eqb}
use borrow.Author.Tests.{eq-eqb, not-true}
use Rattle.spec.specs.Text.{split, fields, line, comma, line_feed}
use Rattle.spec.proofs.Bools.{and_true, and_left, and_right}

-- b does not stand in the text
abbrev pub free : ℕ → List ℕ → Bool
free b [] = true
free b (x ∷ xs) = not (eqb x b) && free b xs

pub first_free : (b x : ℕ) (xs : List ℕ) → free b (x ∷ xs) ≡ true → eqb x b ≡ false
first_free b x xs h = not-true (eqb x b) (and_left (not (eqb x b)) (free b xs) h)

pub rest_free : (b x : ℕ) (xs : List ℕ) → free b (x ∷ xs) ≡ true → free b xs ≡ true
rest_free b x xs h = and_right (not (eqb x b)) (free b xs) h

pub free_append : (b : ℕ) (s t : List ℕ) → free b s ≡ true → free b t ≡ true → free b (s ++ t) ≡ true
free_append b [] t h g = g
free_append b (x ∷ xs) t h g = and_true (and_left (not (eqb x b)) (free b xs) h) (free_append b xs t (rest_free b x xs h) g)

-- a byte other than b belongs to the part behind it
pub split_step : (b x : ℕ) (s f : List ℕ) (fs : List (List ℕ)) → eqb x b ≡ false → split b s ≡ f ∷ fs → split b (x ∷ s) ≡ (x ∷ f) ∷ fs
unfolding split
split_step b x s f fs n e = rw (n, split) (rw e)

-- a text without b is one part
pub split_whole : (b : ℕ) (s : List ℕ) → free b s ≡ true → split b s ≡ s ∷ []
unfolding split
split_whole b [] h = refl
split_whole b (x ∷ xs) h = split_step b x xs xs [] (first_free b x xs h) (split_whole b xs (rest_free b x xs h))

-- a text without b, then b: a part, and those of what is behind it
pub split_front : (b : ℕ) (s t : List ℕ) → free b s ≡ true → split b (s ++ b ∷ t) ≡ s ∷ split b t
unfolding split
split_front b [] t h = rw (eq-eqb b b refl, split)
split_front b (x ∷ xs) t h = split_step b x (xs ++ b ∷ t) xs (split b t) (first_free b x xs h) (split_front b xs t (rest_free b x xs h))

-- ---------------------------------------------------------------- lines

-- a field that stands in a line
pub record Clean (f : List ℕ) : Type 0 where
  pub no_comma : free comma f ≡ true
  pub no_feed : free line_feed f ≡ true

pub data Cleans : List (List ℕ) → Type 0 where
  no_fields : Cleans []
  field : {f : List ℕ} {fs : List (List ℕ)} → Clean f → Cleans fs → Cleans (f ∷ fs)

pub cleans_append : {fs gs : List (List ℕ)} → Cleans fs → Cleans gs → Cleans (fs ++ gs)
cleans_append no_fields d = d
cleans_append (field c cs) d = field c (cleans_append cs d)

-- the fields of a line are those printed
pub split_fields : {w : List ℕ} {fs : List (List ℕ)} → Clean w → Cleans fs → split comma (w ++ fields fs) ≡ w ∷ fs
unfolding fields
split_fields {w} c no_fields = rw append-nil (split_whole comma w c.no_comma)
split_fields {w} c (field {f} {fs} d ds) = split_front comma w (f ++ fields fs) c.no_comma ∙ ap (λ (gs : List (List ℕ)). w ∷ gs) (split_fields d ds)

fields_free : {fs : List (List ℕ)} → Cleans fs → free line_feed (fields fs) ≡ true
unfolding fields
fields_free no_fields = refl
fields_free (field {f} {fs} c cs) = free_append line_feed f (fields fs) c.no_feed (fields_free cs)

-- a line is cut off in front of its line feed
pub split_line : {w : List ℕ} {fs : List (List ℕ)} (s : List ℕ) → Clean w → Cleans fs
    → split line_feed (line w fs ++ s) ≡ (w ++ fields fs) ∷ split line_feed s
unfolding line
split_line {w} {fs} s c cs =
    rw (append_assoc (w ++ fields fs) (line_feed ∷ []) s)
    (split_front line_feed (w ++ fields fs) s (free_append line_feed w (fields fs) c.no_feed (fields_free cs)))
