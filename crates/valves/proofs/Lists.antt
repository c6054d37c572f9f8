-- A list's valves from field to field: those passed make a number, and what is left goes on from the last of them.
use Prim.Native.Nat.{ℕ, suc, ◌+◌, ◌-◌, ◌*◌, ◌%◌, ◌^◌, ◌≤◌, ◌<◌}
use mathlib.Core.Path.{◌≡◌, refl, sym, ap, ◌∙◌}
use mathlib.Core.Logic.{◌⊎◌, ⊎_elim}
use mathlib.Core.List.{List, ◌∷◌, ◌++◌, append-nil, append_assoc, []}
use Rattle.std.specs.Prelude.{Option, None, Some}
use native.Mathlib.Omega.{arith}
use native.Mathlib.Nat.{pow-suc, add_assoc, zero-add, add-zero, mod-eq_of_lt}
use borrow.Author.Tests.{lt-ltb, le-ltb, le-leb, lt-leb}
use lib.ListN.{length}
use lib.Pow.{pow_mono}
use Rattle.spec.specs.Text.{split, comma, number}
use Rattle.fields.specs.Fields.{cons_number, numbers_of}
use Rattle.valves.proofs.Fields.{At}
use Rattle.valves.specs.Maps.{list_valves, rising, map_number, when, board_map}

-- ---------------------------------------------------------------- one valve more

-- the number of valves that rise from above `last`, behind others whose number is m
abbrev onward : ℕ → ℕ → ℕ → Option (List ℕ) → Option ℕ
onward N last m None = None
onward N last m (Some vs) = when (rising N last vs) (m + map_number vs)

module _ (N last m v : ℕ) where
  onward_more : (o : Option (List ℕ)) → last < v → v ≤ N → onward N last m (cons_number (Some v) o) ≡ onward N v (m + 2 ^ (v - 1)) o
  unfolding rising map_number
  onward_more None h g = refl
  onward_more (Some vs) h g = rw (lt-ltb last v h, le-leb v N g, add_assoc m (2 ^ (v - 1)) (map_number vs))

  onward_not : (o : Option (List ℕ)) → (v ≤ last) ⊎ ((last < v) × (N < v)) → onward N last m (cons_number (Some v) o) ≡ None
  unfolding rising
  onward_not None w = refl
  onward_not (Some vs) w = ⊎_elim (λ h. rw (le-ltb last v h)) (λ h. rw (lt-ltb last v h.0, lt-leb v N h.1)) w

bit_is : (v : ℕ) → 1 ≤ v → v ≤ 64 → 1 * 2 ^ (v - 1) % 18446744073709551616 ≡ 2 ^ (v - 1)
bit_is v h g =
    let e : 1 * 2 ^ (v - 1) ≡ 2 ^ (v - 1) = omega arith in
    let i : v - 1 ≤ 63 = omega arith in
    let k = pow_mono i in
    rw e (mod-eq_of_lt (omega arith))

-- ---------------------------------------------------------------- from field to field

-- the valves of the fields fs rise up to `last`, and make the number m
pub record Passed (N last m : ℕ) (fs : List (List ℕ)) : Type 0 where
  pub board : last ≤ N
  pub bound : m < 2 ^ last
  pub is : (more : List (List ℕ)) → board_map N (numbers_of (fs ++ more)) ≡ onward N last m (numbers_of more)

pub passed_none : (N : ℕ) → Passed N 0 0 []
unfolding board_map
passed_none N = record { board = omega arith; bound = omega arith; is = λ more. whole (numbers_of more) }
  where
    whole : (o : Option (List ℕ)) → board_map N o ≡ onward N 0 0 o
    whole None = refl
    whole (Some vs) = rw (zero-add (map_number vs))

module _ (N last m : ℕ) (fs : List (List ℕ)) (d : Passed N last m fs) where
  pub passed_all : Some m ≡ board_map N (numbers_of fs)
  unfolding numbers_of rising map_number
  passed_all = sym (ap (λ (l : List (List ℕ)). board_map N (numbers_of l)) (sym (append-nil fs)) ∙ d.is [] ∙ rw (add-zero m))

  module _ (all : List (List ℕ)) (f : List ℕ) (t : At all fs f) where
    onward_at : board_map N (numbers_of all) ≡ onward N last m (cons_number (number f) (numbers_of t.rest))
    unfolding numbers_of
    onward_at = ap (λ (l : List (List ℕ)). board_map N (numbers_of l)) t.is ∙ d.is (f ∷ t.rest)

    pub passed_bad : None ≡ number f → None ≡ board_map N (numbers_of all)
    passed_bad e = sym (onward_at ∙ rw (← e))

    pub passed_wrong : (v : ℕ) → Some v ≡ number f → (v ≤ last) ⊎ ((last < v) × (N < v)) → None ≡ board_map N (numbers_of all)
    passed_wrong v e w = sym (onward_at ∙ rw (← e) (onward_not N last m v (numbers_of t.rest) w))

  module _ (f : List ℕ) (v : ℕ) (e : Some v ≡ number f) (h : last < v) (g : v ≤ N) where
    larger : m + 2 ^ (v - 1) < 2 ^ v
    larger =
        let t : v ≡ suc (v - 1) = omega arith in
        let i : last ≤ v - 1 = omega arith in
        let k = pow_mono i in
        let w : 2 ^ v ≡ 2 ^ (v - 1) * 2 = ap (λ (z : ℕ). 2 ^ z) t ∙ pow-suc 2 (v - 1) in
        omega (arith, d.bound)

    -- the bit is put as the code shifts it
    pub passed_more : N ≤ 64 → Passed N v (m + 1 * 2 ^ (v - 1) % 18446744073709551616) (fs ++ (f ∷ []))
    unfolding numbers_of
    passed_more n =
        rw (bit_is v (omega arith) (omega arith))
        (record {
          board = g;
          bound = larger;
          is = λ more. rw (append_assoc fs (f ∷ []) more) (d.is (f ∷ more) ∙ rw (← e) (onward_more N last m v (numbers_of more) h g));
        })

    pub passed_room : N ≤ 64 → m + 1 * 2 ^ (v - 1) % 18446744073709551616 < 2 ^ 64
    passed_room n = let i : v ≤ 64 = omega arith in omega (arith, larger, pow_mono i, bit_is v (omega arith) i)

-- ---------------------------------------------------------------- the fields

pub list_empty : (N : ℕ) (s : List ℕ) → length s ≡ 0 → Some 0 ≡ board_map N (list_valves s)
unfolding list_valves board_map rising map_number
list_empty N [] e = refl
list_empty N (b ∷ s) e = absurd (omega arith)

pub list_is : (s : List ℕ) → (length s ≡ 0 → ⊥) → list_valves s ≡ numbers_of (split comma s)
unfolding list_valves
list_is [] h = absurd (h refl)
list_is (b ∷ s) h = refl

pub ruleset list_laws = (list_empty, passed_room)
