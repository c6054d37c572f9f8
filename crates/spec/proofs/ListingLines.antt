-- Lines: what the text of printed lines is cut into, and what each line is read as.
use Prim.Native.Nat.{ℕ}
use Prim.Native.String.{String}
use mathlib.Core.Bool.{true, false}
use mathlib.Core.List.{List, [], ◌∷◌, ◌++◌, map, append-nil, append_assoc}
use Rattle.std.specs.Prelude.{Option, None, Some}
use Rattle.std.proofs.lemmas.Option.{none-some}
use mathlib.Core.Path.{◌≡◌, refl}
use borrow.Author.Tests.{eq-eqb}
use Rattle.spec.specs.Text.{split, fields, line, bytes, same, line_feed, comma}
use Rattle.spec.proofs.Split.{Clean, Cleans, split_line, split_fields}
use Rattle.spec.specs.Print.{each}
use Rattle.spec.specs.ReadBack.{Reader, Field, Line, mapped, lines_in, fields_of_lines, lines, line_of, lines_of, several, ◌>>=◌, then}
use Rattle.spec.proofs.ListingReaders.{takes_whole}
use Rattle.spec.proofs.ListingFields.{Fields}

-- ---------------------------------------------------------------- cutting

-- s is the text of the lines ls, whatever follows it
pub record Lines (s : List ℕ) (ls : List Line) : Type 0 where
  pub cut : (t : List ℕ) (ms : List Line) → lines t ≡ Some ms → lines (s ++ t) ≡ Some (ls ++ ms)

pub no_lines : Lines [] []
no_lines = record { cut = λ t ms e. e }

pub lines_append : {s t : List ℕ} {ls ms : List Line} → Lines s ls → Lines t ms → Lines (s ++ t) (ls ++ ms)
lines_append {s} {t} {ls} {ms} p q = record
    { cut = λ u ns e. rw (append_assoc s t u, append_assoc ls ms ns) (p.cut (t ++ u) (ms ++ ns) (q.cut u ns e)) }

-- the lines of a text that is nothing else
pub lines_whole : {s : List ℕ} {ls : List Line} → Lines s ls → lines s ≡ Some ls
unfolding lines lines_in split fields_of_lines
lines_whole {s} {ls} p = rw (append-nil s, append-nil ls) at (p.cut [] [] refl)

line_in_front : (l : List ℕ) (ks : List (List ℕ)) (ms : List Line)
    → mapped fields_of_lines (lines_in ks) ≡ Some ms → mapped fields_of_lines (lines_in (l ∷ ks)) ≡ Some (split comma l ∷ ms)
unfolding lines_in fields_of_lines
line_in_front l [] ms e = absurd (none-some ms e)
line_in_front l (k ∷ ks) ms e = go (lines_in (k ∷ ks)) e
  where
    go : (o : Option (List (List ℕ))) → mapped fields_of_lines o ≡ Some ms → mapped fields_of_lines (mapped (λ js. l ∷ js) o) ≡ Some (split comma l ∷ ms)
    go None f = absurd (none-some ms f)
    go (Some js) f = cc

pub one_line : {w : Field} {fs : List Field} → Clean w → Cleans fs → Lines (line w fs) ((w ∷ fs) ∷ [])
unfolding lines
one_line {w} {fs} c cs = record
    { cut = λ t ms e. rw (split_line t c cs, ← split_fields c cs) (line_in_front (w ++ fields fs) (split line_feed t) ms e) }

pub each_line : {A : Type 0} (f : A → List ℕ) (g : A → Line) → ((x : A) → Lines (f x) (g x ∷ [])) → (xs : List A) → Lines (each f xs) (map g xs)
unfolding each
each_line f g h [] = no_lines
each_line f g h (x ∷ xs) = lines_append (h x) (each_line f g h xs)

-- ---------------------------------------------------------------- reading

same_itself : (w : List ℕ) → same w w ≡ true
unfolding same
same_itself [] = refl
same_itself (x ∷ xs) = rw (eq-eqb x x refl) (same_itself xs)

pub line_back : {A : Type 0} (w : String) {m : Reader Field A} {fs : List Field} {a : A} → Fields m fs a → line_of w m (bytes w ∷ fs) ≡ Some a
unfolding line_of
line_back w p = rw (same_itself (bytes w), line_of) (takes_whole p.takes)

-- a line of another word
pub line_other : {A : Type 0} (w v : String) (m : Reader Field A) (fs : List Field) → same (bytes w) (bytes v) ≡ false → line_of w m (bytes v ∷ fs) ≡ None
unfolding line_of
line_other w v m fs e = rw (e, line_of)

-- f reads none of the lines that follow
pub data Ends {A : Type 0} (f : Line → Option A) : List Line → Type 0 where
  no_line : Ends f []
  other : {l : Line} {ls : List Line} → f l ≡ None → Ends f (l ∷ ls)

ended : {A : Type 0} (f : Line → Option A) (ls : List Line) → Ends f ls → lines_of f ls ≡ record { it = []; rest = ls }
unfolding lines_of
ended f ls no_line = refl
ended f ls (other e) = rw (e, lines_of)

lines_back : {A : Type 0} (f : Line → Option A) (g : A → Line) → ((x : A) → f (g x) ≡ Some x) → (xs : List A) (rest : List Line) → Ends f rest
    → lines_of f (map g xs ++ rest) ≡ record { it = xs; rest = rest }
unfolding lines_of
lines_back f g h [] rest e = ended f rest e
lines_back f g h (x ∷ xs) rest e = rw (h x, lines_of) (rw (lines_back f g h xs rest e))

-- the lines that f reads, then what h makes of the others
pub several_then : {A B : Type 0} (f : Line → Option A) (g : A → Line) → ((x : A) → f (g x) ≡ Some x) → (xs : List A) (rest : List Line) → Ends f rest
    → (h : List A → Reader Line B) → (several f >>= h) (map g xs ++ rest) ≡ h xs rest
unfolding several ◌>>=◌ then
several_then f g r xs rest e h = rw (lines_back f g r xs rest e)
