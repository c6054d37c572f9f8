-- A type line that passes the tests is right behind the types before it; the first two are bool and pointer.
use Prim.Native.Nat.{ℕ, ◌≤◌}
use mathlib.Core.Bool.{Bool, true, not}
use mathlib.Core.List.{List, [], ◌∷◌, ◌++◌}
use Rattle.std.specs.Prelude.{None}
use mathlib.Core.Path.{◌≡◌, refl, ap, ◌∙◌}
use native.Mathlib.Omega.{arith}
use borrow.Author.Tests.{leb-true, eqb-true}
use lib.Dec.{leb, eqb}
use lib.ListN.{length, get_or}
use Rattle.spec.specs.Limits.{type_size_limit, type_weight_limit, type_depth_limit}
use Rattle.spec.specs.Ticket.{TypeWord, t_unit, t_bool, t_bits, t_float, t_pointer, t_array, t_struct, t_tuple, t_opaque, TypeLine, Tables, arg}
use Rattle.spec.specs.Forms.{between, Arg, t_line, values}
use Rattle.spec.specs.Read.{Reading, refusal_of, alike, size_of, weight_of, depth_of}
use Rattle.spec.specs.Readable.{All}
use Rattle.spec.proofs.Bools.{and_left, and_right}
use Rattle.spec.proofs.ReadingTests.{passed, ranged, standing, in_range}
use Rattle.spec.proofs.ReadingForms.{Args, done, next}
use Rattle.spec.proofs.ReadingLines.{TypeFormed}
use Rattle.spec.proofs.ReadingArgs.{parts_below, parts_less_deep}
use Rattle.spec.proofs.ReadingTypes.{at, TypeRight}

-- ---------------------------------------------------------------- the first two words

pub record Begun (ts : List TypeLine) : Type 0 where
  pub bool_first : 1 ≤ length ts → (at ts 0).word ≡ t_bool
  pub pointer_second : 2 ≤ length ts → (at ts 1).word ≡ t_pointer

abbrev code : TypeWord → ℕ
code t_unit = 0
code t_bool = 1
code t_bits = 2
code t_float = 3
code t_pointer = 4
code t_array = 5
code t_struct = 6
code t_tuple = 7
code t_opaque = 8

abbrev coded : ℕ → TypeWord
coded n = get_or (t_unit ∷ t_bool ∷ t_bits ∷ t_float ∷ t_pointer ∷ t_array ∷ t_struct ∷ t_tuple ∷ t_opaque ∷ []) n t_unit

coded_code : (w : TypeWord) → w ≡ coded (code w)
coded_code t_unit = refl
coded_code t_bool = refl
coded_code t_bits = refl
coded_code t_float = refl
coded_code t_pointer = refl
coded_code t_array = refl
coded_code t_struct = refl
coded_code t_tuple = refl
coded_code t_opaque = refl

same_code : (w : TypeWord) (n : ℕ) → eqb (code w) n ≡ true → w ≡ coded n
same_code w n e = coded_code w ∙ ap coded (eqb-true (code w) n e)

pub begun : (R : Reading) (w : TypeWord) (xa : List Arg) (t : TypeLine) → refusal_of R (record { head = t_line w; args = xa }) ≡ None
    → t.word ≡ w → Begun R.tables.types → Begun (R.tables.types ++ (t ∷ []))
unfolding refusal_of
begun R w xa t e f h = by R.tables.types refl
  where
    by : (ts : List TypeLine) → R.tables.types ≡ ts → Begun (R.tables.types ++ (t ∷ []))
    by [] q =
        let e0 = and_right (not (alike w (values xa) [])) (eqb (code w) 1) (rw q at (passed _ _ _ _ _ _ _ _ _ e).types) in
        rw q (record { bool_first = λ p. f ∙ same_code w 1 e0; pointer_second = λ p. absurd (omega arith) })
    by (t0 ∷ []) q =
        let e1 = and_right (not (alike w (values xa) (t0 ∷ []))) (eqb (code w) 4) (rw q at (passed _ _ _ _ _ _ _ _ _ e).types) in
        let h1 = rw q at h in
        rw q (record { bool_first = λ p. h1.bool_first (omega arith); pointer_second = λ p. f ∙ same_code w 4 e1 })
    by (t0 ∷ t1 ∷ ts) q =
        let h2 = rw q at h in
        rw q (record { bool_first = λ p. h2.bool_first (omega arith); pointer_second = λ p. h2.pointer_second (omega arith) })

-- ---------------------------------------------------------------- the new line

width : (R : Reading) (w : TypeWord) (xa : List Arg) → Args (between 1 64 ∷ []) None xa → refusal_of R (record { head = t_line w; args = xa }) ≡ None
    → (1 ≤ arg (values xa) 0) × (arg (values xa) 0 ≤ 64)
unfolding All
width R w xa (next x done) e = in_range 1 64 x (ranged R (record { head = t_line w; args = _ }) e).0

pub new_type : (R : Reading) (w : TypeWord) (xa : List Arg) → TypeFormed w xa → refusal_of R (record { head = t_line w; args = xa }) ≡ None
    → TypeRight R.tables.types (length R.tables.types)
    (record {
      word = w;
      args = values xa;
      size = size_of R.tables w (values xa);
      weight = weight_of R.tables w (values xa);
      depth = depth_of R.tables xa;
    })
unfolding refusal_of
new_type R w xa f e =
    let T : Tables = R.tables in
    let p = passed _ _ _ _ _ _ _ _ _ e in
    let small : Bool = leb (size_of T w (values xa)) type_size_limit in
    record {
      counted = f.counted;
      sized = refl;
      weighed = refl;
      width_least = λ q. (width R w xa (rw q at f.width) e).0;
      width_most = λ q. (width R w xa (rw q at f.width) e).1;
      size_most = leb-true (size_of T w (values xa)) type_size_limit (and_left small _ p.small);
      weight_most = leb-true (weight_of T w (values xa)) type_weight_limit (and_right small _ p.small);
      parts_earlier = rw f.parts (parts_below T xa (standing R (record { head = t_line w; args = xa }) e));
      parts_less_deep = rw f.parts (parts_less_deep T xa);
      depth_least = unfold depth_of in omega arith;
      depth_most = leb-true (depth_of T xa) type_depth_limit p.depth;
    }
