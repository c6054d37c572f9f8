-- The bits of a map's number are those of the valves named, and an OR opens what either opens.
use Prim.Native.Nat.{ℕ, zero, suc, ◌+◌, ◌-◌, ◌*◌, ◌/◌, ◌%◌, ◌^◌, ◌≤◌, ◌<◌, max}
use mathlib.Core.Path.{◌≡◌, refl, sym, ap, ◌∙◌}
use mathlib.Core.Bool.{Bool, true, false, ◌&&◌, ◌||◌}
use mathlib.Core.List.{List, ◌∷◌, []}
use native.Mathlib.Omega.{arith}
use native.Mathlib.Nat.{pow-suc, mul_assoc, add-mul, mod-lt, div-eq_of_lt}
use lib.Dec.{eqb, leb, ltb}
use lib.Bits.{or_step, or_shr}
use lib.Pow.{pow_pos, pow-add, pow-lt, pow_mono, high, shr-shr, shl-shr}
use lib.ListN.{length}
use borrow.Author.Tests.{ltb-true, ltb-false, leb-true, lt-ltb, le-leb, eqb-true, eqb-false, ne_eqb}
use Rattle.numerics.specs.Numerics.{truth, ior}
use Rattle.spec.specs.Machine.{le}
use Rattle.spec.specs.Answer.{member}
use Rattle.spec.proofs.Bools.{and_true, and_left, and_right}
use Rattle.valves.specs.Maps.{mask_valves, rising, map_number}
use Rattle.valves.specs.Opening.{valve_in}
use Rattle.valves.proofs.Masks.{mask_rises, mask_sum}

-- ---------------------------------------------------------------- valves that rise

module _ (N last v : ℕ) (vs : List ℕ) (h : rising N last (v ∷ vs) ≡ true) where
  first_above : last < v
  unfolding rising
  first_above = ltb-true last v (and_left (ltb last v) (leb v N) (and_left (ltb last v && leb v N) (rising N v vs) h))

  first_inside : v ≤ N
  unfolding rising
  first_inside = leb-true v N (and_right (ltb last v) (leb v N) (and_left (ltb last v && leb v N) (rising N v vs) h))

  rest_rises : rising N v vs ≡ true
  unfolding rising
  rest_rises = and_right (ltb last v && leb v N) (rising N v vs) h

  -- from a valve that is below the first
  rises_from : (u : ℕ) → u < v → rising N u (v ∷ vs) ≡ true
  unfolding rising
  rises_from u l = and_true (and_true (lt-ltb u v l) (le-leb v N first_inside)) rest_rises

double : (k : ℕ) → 1 ≤ k → 2 ^ k ≡ 2 * 2 ^ (k - 1)
double k l = let a : k ≡ suc (k - 1) = omega arith in ap (λ (z : ℕ). 2 ^ z) a ∙ pow-suc 2 (k - 1) ∙ omega arith

-- the bits up to the last valve before are clear
record Multiple (n k : ℕ) : Type 0 where
  q : ℕ
  is : n ≡ q * 2 ^ k

multiple : (N last : ℕ) (vs : List ℕ) → rising N last vs ≡ true → Multiple (map_number vs) last
unfolding map_number
multiple N last [] h = record { q = 0; is = omega arith }
multiple N last (v ∷ vs) h =
    let l = first_above N last v vs h in
    let m = multiple N v vs (rest_rises N last v vs h) in
    let b : v - 1 ≡ (v - 1 - last) + last = omega arith in
    let s : 2 ^ (v - 1) ≡ 2 ^ (v - 1 - last) * 2 ^ last = ap (λ (z : ℕ). 2 ^ z) b ∙ pow-add 2 (v - 1 - last) last in
    let t : m.q * 2 ^ v ≡ m.q * 2 * 2 ^ (v - 1) = ap (λ (z : ℕ). m.q * z) (double v (omega arith)) ∙ sym (mul_assoc m.q 2 (2 ^ (v - 1))) in
    let w : (1 + m.q * 2) * 2 ^ (v - 1) ≡ 2 ^ (v - 1) + m.q * 2 * 2 ^ (v - 1) = add-mul 1 (m.q * 2) (2 ^ (v - 1)) ∙ omega arith in
    record {
      q = (1 + m.q * 2) * 2 ^ (v - 1 - last);
      is = omega (arith, m.is, ap (λ (z : ℕ). (1 + m.q * 2) * z) s, mul_assoc (1 + m.q * 2) (2 ^ (v - 1 - last)) (2 ^ last));
    }

-- a board's map has N bits
room : (N last : ℕ) (vs : List ℕ) → last ≤ N → rising N last vs ≡ true → map_number vs + 2 ^ last ≤ 2 ^ N
unfolding map_number
room N last [] l h = let p = pow_mono l in omega arith
room N last (v ∷ vs) l h =
    let a = first_above N last v vs h in
    let i : last ≤ v - 1 = omega arith in
    let p = pow_mono i in
    omega (arith, room N v vs (first_inside N last v vs h) (rest_rises N last v vs h), double v (omega arith))

pub map_small : (N : ℕ) (vs : List ℕ) → rising N 0 vs ≡ true → map_number vs < 2 ^ N
map_small N vs h = omega (arith, room N 0 vs (omega arith) h)

not_below : (N last v : ℕ) (vs : List ℕ) → rising N last vs ≡ true → v ≤ last → member v vs ≡ false
unfolding member
not_below N last v [] h l = refl
not_below N last v (w ∷ vs) h l =
    let a = first_above N last w vs h in
    rw (ne_eqb v w (λ e. omega arith)) (not_below N w v vs (rest_rises N last w vs h) (omega arith))

shifted : (n j k i : ℕ) → j + k ≡ i → n / 2 ^ i ≡ n / 2 ^ j / 2 ^ k
shifted n j k i e = ap (λ (z : ℕ). n / 2 ^ z) (sym e) ∙ sym (shr-shr n j k)

-- valve v's bit of a map: clear below the first valve, set at it, and behind it that of the others
named : (N last v : ℕ) (vs : List ℕ) → rising N last vs ≡ true → 1 ≤ v → valve_in v (map_number vs) ≡ truth (member v vs)
unfolding map_number member valve_in
named N last v [] h g = rw (div-eq_of_lt (pow_pos (v - 1)))
named N last v (w ∷ vs) h g = by (ltb v w) refl (eqb v w) refl (named N w v vs (rest_rises N last w vs h) g)
  where
    behind : Multiple (map_number vs) w
    behind = multiple N w vs (rest_rises N last w vs h)

    by : (s : Bool) → ltb v w ≡ s → (t : Bool) → eqb v w ≡ t → valve_in v (map_number vs) ≡ truth (member v vs)
        → valve_in v (map_number (w ∷ vs)) ≡ truth (member v (w ∷ vs))
    by true e t f ih =
        let l = ltb-true v w e in
        let m = multiple N v (w ∷ vs) (rises_from N last w vs h v l) in
        let x : map_number (w ∷ vs) ≡ m.q * 2 * 2 ^ (v - 1) = m.is ∙ ap (λ (z : ℕ). m.q * z) (double v g) ∙ sym (mul_assoc m.q 2 (2 ^ (v - 1))) in
        rw (x, shl-shr (m.q * 2) (v - 1), ne_eqb v w (λ q. omega arith), not_below N w v vs (rest_rises N last w vs h) (omega arith)) (omega arith)
    by false e true f ih =
        let q = eqb-true v w f in
        let x : map_number (w ∷ vs) ≡ (behind.q * 2 + 1) * 2 ^ (v - 1) =
        rw q (omega (arith, behind.is, ap (λ (z : ℕ). behind.q * z) (double w (omega arith)), mul_assoc behind.q 2 (2 ^ (w - 1)), add-mul (behind.q * 2) 1 (2 ^ (w - 1)))) in
        rw (x, shl-shr (behind.q * 2 + 1) (v - 1), f) (omega arith)
    by false e false f ih =
        let l = ltb-false v w e in
        let n = eqb-false v w f in
        let a = first_above N last w vs h in
        let i : w + (v - 1 - w) ≡ v - 1 = omega (arith, n) in
        let p : w - 1 < w = omega arith in
        let x : map_number (w ∷ vs) / 2 ^ (v - 1) ≡ behind.q / 2 ^ (v - 1 - w) =
        shifted (map_number (w ∷ vs)) w (v - 1 - w) (v - 1) i ∙ ap (λ (z : ℕ). z / 2 ^ (v - 1 - w)) (ap (λ (z : ℕ). z / 2 ^ w) (omega (arith, behind.is)) ∙ high behind.q w (pow-lt p)) in
        let y : map_number vs / 2 ^ (v - 1) ≡ behind.q / 2 ^ (v - 1 - w) =
        shifted (map_number vs) w (v - 1 - w) (v - 1) i ∙ ap (λ (z : ℕ). z / 2 ^ (v - 1 - w)) (ap (λ (z : ℕ). z / 2 ^ w) behind.is ∙ shl-shr behind.q w) in
        rw f (ap (λ (z : ℕ). z % 2) (x ∙ sym y) ∙ ih)

-- a mask names the valves whose bits are set, valve v by bit v - 1
pub mask_names : (mask : List ℕ) (v : ℕ) → length mask ≡ 8 → le mask < 2 ^ 64 → 1 ≤ v → valve_in v (le mask) ≡ truth (member v (mask_valves mask))
mask_names mask v e g l =
    ap (λ (z : ℕ). valve_in v z) (sym (mask_sum 64 mask e (le mask) refl g))
    ∙ named 64 0 v (mask_valves mask) (mask_rises 64 mask e (le mask) refl g ∙ lt-ltb (le mask) (2 ^ 64) g) l

-- ---------------------------------------------------------------- an OR

either : (x : ℕ) (b : Bool) → x < 2 → max x (truth b) ≡ truth (eqb x 1 || b)
either zero true h = refl
either zero false h = refl
either (suc zero) true h = refl
either (suc zero) false h = refl
either (suc (suc x)) b h = absurd (omega arith)

pub or_opens : (N last v a : ℕ) (vs : List ℕ) → rising N last vs ≡ true → 1 ≤ v
    → valve_in v (ior N a (map_number vs)) ≡ truth (eqb (valve_in v a) 1 || member v vs)
unfolding valve_in ior
or_opens N last v a vs h g =
    let m = map_number vs in
    let k = or_step (a / 2 ^ (v - 1)) (m / 2 ^ (v - 1)) in
    let n : m / 2 ^ (v - 1) % 2 ≡ truth (member v vs) = named N last v vs h g in
    rw (or_shr a m (v - 1)) (omega (arith, k) ∙ ap (λ (z : ℕ). max (a / 2 ^ (v - 1) % 2) z) n ∙ either (a / 2 ^ (v - 1) % 2) (member v vs) (mod-lt _ (omega arith)))
