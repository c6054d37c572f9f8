-- The operation that a case names, by the definitions. Each group of 16 numbers names its operations in this order; any other number has none.
use Rattle.std.specs.Prelude.{ℕ, ◌-◌, Bool, false, Option, None, Some, List, [], ◌∷◌, ◌==◌, nat_lt, if◌then◌else◌, slice_index, slice_index_or}
use Rattle.numerics.specs.Numerics as wasm
use Rattle.numerics.specs.Functions.{unary_at, binary_at, widening_at, narrowing_at, quotient_at}

abbrev pub sums : ℕ → ℕ → ℕ → List ℕ
sums x y z =
    binary_at wasm.iadd x y z ∷
    binary_at wasm.isub x y z ∷
    binary_at wasm.imul x y z ∷
    unary_at wasm.ineg x y ∷
    binary_at wasm.iadd_sat_u x y z ∷
    binary_at wasm.iadd_sat_s x y z ∷
    binary_at wasm.isub_sat_u x y z ∷
    binary_at wasm.isub_sat_s x y z ∷
    []

unfoldable pub arithmetic_of : ℕ → ℕ → ℕ → ℕ → ℕ
arithmetic_of k x y z = slice_index (sums x y z) k

-- 1 where there is no quotient
abbrev pub traps : Option ℕ → Option ℕ
traps (Some q) = Some 0
traps None = Some 1

abbrev pub quotients : ℕ → ℕ → ℕ → List (Option ℕ)
quotients x y z =
    quotient_at wasm.idiv_u x y z ∷
    quotient_at wasm.idiv_s x y z ∷
    quotient_at wasm.irem_u x y z ∷
    quotient_at wasm.irem_s x y z ∷
    traps (quotient_at wasm.idiv_u x y z) ∷
    traps (quotient_at wasm.idiv_s x y z) ∷
    traps (quotient_at wasm.irem_u x y z) ∷
    traps (quotient_at wasm.irem_s x y z) ∷
    []

unfoldable pub quotient_of : ℕ → ℕ → ℕ → ℕ → Option ℕ
quotient_of k x y z = slice_index_or (quotients x y z) k None

abbrev pub words : ℕ → ℕ → ℕ → List ℕ
words x y z =
    unary_at wasm.inot x y ∷
    binary_at wasm.iand x y z ∷
    binary_at wasm.ior x y z ∷
    binary_at wasm.ixor x y z ∷
    binary_at wasm.ishl x y z ∷
    binary_at wasm.ishr_u x y z ∷
    binary_at wasm.ishr_s x y z ∷
    binary_at wasm.irotl x y z ∷
    binary_at wasm.irotr x y z ∷
    unary_at wasm.iclz x y ∷
    unary_at wasm.ictz x y ∷
    unary_at wasm.ipopcnt x y ∷
    []

unfoldable pub bits_of : ℕ → ℕ → ℕ → ℕ → ℕ
bits_of k x y z = slice_index (words x y z) k

abbrev pub comparisons : ℕ → ℕ → ℕ → List ℕ
comparisons x y z =
    unary_at wasm.ieqz x y ∷
    binary_at wasm.ieq x y z ∷
    binary_at wasm.ine x y z ∷
    binary_at wasm.ilt_u x y z ∷
    binary_at wasm.ilt_s x y z ∷
    binary_at wasm.igt_u x y z ∷
    binary_at wasm.igt_s x y z ∷
    binary_at wasm.ile_u x y z ∷
    binary_at wasm.ile_s x y z ∷
    binary_at wasm.ige_u x y z ∷
    binary_at wasm.ige_s x y z ∷
    []

unfoldable pub comparison_of : ℕ → ℕ → ℕ → ℕ → ℕ
comparison_of k x y z = slice_index (comparisons x y z) k

abbrev pub conversions : ℕ → ℕ → ℕ → List ℕ
conversions x y z =
    narrowing_at wasm.wrap x y z ∷
    widening_at wasm.extend_u x y z ∷
    widening_at wasm.extend_s x y z ∷
    []

unfoldable pub conversion_of : ℕ → ℕ → ℕ → ℕ → ℕ
conversion_of k x y z = slice_index (conversions x y z) k

abbrev pub answer_of : ℕ → ℕ → ℕ → ℕ → Option ℕ
answer_of op x y z =
    if nat_lt op 16 then Some (arithmetic_of op x y z)
    else (if nat_lt op 32 then quotient_of (op - 16) x y z
    else (if nat_lt op 48 then Some (bits_of (op - 32) x y z)
    else (if nat_lt op 64 then Some (comparison_of (op - 48) x y z)
    else (if nat_lt op 80 then Some (conversion_of (op - 64) x y z) else None))))

abbrev pub is : Option ℕ → ℕ → Bool
is (Some q) r = q == r
is None r = false
