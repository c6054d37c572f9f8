-- What it means that a line passes every test of reading. A test that has no name outside the definitions is written here as it stands there.
use Prim.Native.Nat.{ℕ, ◌≤◌}
use mathlib.Core.Bool.{Bool, true, false, ◌&&◌, ◌||◌}
use mathlib.Core.List.{List, [], ◌∷◌}
use Rattle.std.specs.Prelude.{None}
use Rattle.std.proofs.lemmas.Option.{none-some}
use mathlib.Core.Path.{◌≡◌, refl, sym}
use borrow.Author.Tests.{leb-true}
use lib.Dec.{ltb, leb, eqb}
use lib.ListN.{length}
use Rattle.spec.specs.Ticket.{Tables, arg}
use Rattle.spec.specs.Forms.{Field, between, float_width, type_part, type, storage, place, node, Arg, Head, f_line, s_line, v_line, g_line, t_line, p_line, n_line, Line, values}
use Rattle.spec.specs.Read.{Test, first_failed, Reading, refusal_of}
use Rattle.spec.specs.Readable.{All}
use Rattle.spec.proofs.Bools.{and_left, and_right}

-- ---------------------------------------------------------------- the tests of a line

-- document 01's rows 8, 3, 4, 5, 6, 7, 9 and 10 (what is proved here needs no order of kinds)
pub record Passed (o f r e t s u d m : Bool) : Type 0 where
  pub few : f ≡ true
  pub ranges : r ≡ true
  pub earlier : e ≡ true
  pub types : t ≡ true
  pub small : s ≡ true
  pub once : u ≡ true
  pub depth : d ≡ true
  pub sums : m ≡ true

-- the first that fails is none only where every test passes
all_pass : (ts : List Test) → first_failed ts ≡ None → All (λ (t : Test). t.passes ≡ true) ts
unfolding first_failed All
all_pass [] e = tt
all_pass (t ∷ ts) e = by_test t.passes e (λ p. all_pass ts p)
  where
    by_test : (b : Bool) → first_failed (record { refusal = t.refusal; passes = b } ∷ ts) ≡ None
        → (first_failed ts ≡ None → All (λ (t : Test). t.passes ≡ true) ts) → (b ≡ true) × All (λ (t : Test). t.passes ≡ true) ts
    by_test true e rest = (refl, rest e)
    by_test false e rest = absurd (none-some _ (sym e))

abbrev test : ℕ → Bool → Test
test n b = record { refusal = n; passes = b }

pub passed : (o f r e t s u d m : Bool)
    → first_failed (test 2 o ∷ test 8 f ∷ test 3 r ∷ test 4 e ∷ test 5 t ∷ test 6 s ∷ test 7 u ∷ test 9 d ∷ test 10 m ∷ []) ≡ None
    → Passed o f r e t s u d m
unfolding All
passed o f r e t s u d m h =
    let p = all_pass _ h in
    record {
      few = p.1.0;
      ranges = p.1.1.0;
      earlier = p.1.1.1.0;
      types = p.1.1.1.1.0;
      small = p.1.1.1.1.1.0;
      once = p.1.1.1.1.1.1.0;
      depth = p.1.1.1.1.1.1.1.0;
      sums = p.1.1.1.1.1.1.1.1.0;
    }

-- a number that passes the test of its range
pub in_range : (least greatest x : ℕ) → leb least x && leb x greatest ≡ true → (least ≤ x) × (x ≤ greatest)
in_range least greatest x e =
    (leb-true least x (and_left (leb least x) (leb x greatest) e), leb-true x greatest (and_right (leb least x) (leb x greatest) e))

-- ---------------------------------------------------------------- a test of every number of a line

abbrev pub every : (Arg → Bool) → List Arg → Bool
every p [] = true
every p (a ∷ xa) = p a && every p xa

pub every_one : (p : Arg → Bool) (xa : List Arg) → every p xa ≡ true → All (λ (a : Arg). p a ≡ true) xa
unfolding All
every_one p [] e = tt
every_one p (a ∷ xa) e = (and_left (p a) (every p xa) e, every_one p xa (and_right (p a) (every p xa) e))

-- the test whether a number is in its field's range
abbrev pub within : Field → ℕ → Bool
within (between least greatest) x = leb least x && leb x greatest
within float_width x = eqb x 32 || eqb x 64
within type_part x = true
within type x = true
within storage x = true
within place x = true
within node x = true

abbrev pub Within : List Arg → Type 0
Within xa = All (λ (a : Arg). within a.class a.value ≡ true) xa

pub ranged : (R : Reading) (l : Line) → refusal_of R l ≡ None → Within l.args
unfolding refusal_of
ranged R l e =
    every_one (λ a. within a.class a.value) l.args
    (and_left (every (λ a. within a.class a.value) l.args) _ (passed _ _ _ _ _ _ _ _ _ e).ranges)

-- the test of ranges that goes by two numbers: a storage's LENGTH by its kind, a BIT by its TYPE
abbrev pub length_fits : Bool → ℕ → Bool
length_fits of-kind-2 len = elim of-kind-2 [ true ↦ leb 1 len | false ↦ eqb len 0 ]

abbrev pub fits : Head → List ℕ → Bool
fits f_line xs = true
fits s_line xs = length_fits (eqb (arg xs 0) 2) (arg xs 1)
fits v_line xs = eqb (arg xs 3) 0 || eqb (arg xs 2) 0
fits g_line xs = eqb (arg xs 3) 0 || eqb (arg xs 2) 0
fits (t_line w) xs = true
fits (p_line w) xs = true
fits (n_line w) xs = true

pub fitting : (R : Reading) (l : Line) → refusal_of R l ≡ None → fits l.head (values l.args) ≡ true
unfolding refusal_of
fitting R l e = and_right (every (λ a. within a.class a.value) l.args) _ (passed _ _ _ _ _ _ _ _ _ e).ranges

-- the test whether the line that a number refers to stands earlier
abbrev pub stands : Tables → Field → ℕ → Bool
stands T (between least greatest) x = true
stands T float_width x = true
stands T type_part x = ltb x (length T.types)
stands T type x = ltb x (length T.types)
stands T storage x = ltb x (length T.storages)
stands T place x = ltb x (length T.places)
stands T node x = ltb x (length T.nodes)

abbrev pub Standing : Tables → List Arg → Type 0
Standing T xa = All (λ (a : Arg). stands T a.class a.value ≡ true) xa

pub standing : (R : Reading) (l : Line) → refusal_of R l ≡ None → Standing R.tables l.args
unfolding refusal_of
standing R l e = every_one (λ a. stands R.tables a.class a.value) l.args (passed _ _ _ _ _ _ _ _ _ e).earlier
