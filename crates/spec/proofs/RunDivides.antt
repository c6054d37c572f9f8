-- The premise 'no undefined division': each division and remainder of an expression has a value in the WebAssembly numerics.
use Prim.Native.Nat.{ℕ}
use mathlib.Core.Bool.{Bool, true, ◌&&◌}
use Rattle.std.specs.Prelude.{Option, None, Some}
use Rattle.spec.specs.Hir.{Expr, boolean, integer, float32, float64, null_pointer, static_address, function_address, read, integer_unary, integer_binary, float_unary, float_binary, compare, convert, select, address_of, pointer_offset, aggregate, extract_element, insert_element, Exprs, no_exprs, ◌∷ᵉ◌, IntegerBinaryOp}
use Rattle.spec.specs.Hir as hir
use Rattle.spec.specs.Ticket.{Tables}
use Rattle.spec.specs.Machine.{Memory, Given, is_some}
use Rattle.spec.specs.Typed.{width}
use Rattle.spec.specs.Eval.{Data, number_in, binary_numeric, eval}

-- a division or a remainder that the WebAssembly numerics define
abbrev pub divided : IntegerBinaryOp → ℕ → ℕ → ℕ → Bool
divided hir.add N i j = true
divided hir.subtract N i j = true
divided hir.multiply N i j = true
divided (hir.divide x) N i j = is_some (binary_numeric (hir.divide x) N i j)
divided (hir.remainder x) N i j = is_some (binary_numeric (hir.remainder x) N i j)
divided hir.and N i j = true
divided hir.or N i j = true
divided hir.xor N i j = true
divided hir.shift_left N i j = true
divided (hir.shift_right x) N i j = true
divided hir.rotate_left N i j = true
divided hir.rotate_right N i j = true
divided (hir.saturating_add x) N i j = true
divided (hir.saturating_subtract x) N i j = true

abbrev pub number_of : Option Data → ℕ
number_of None = 0
number_of (Some d) = number_in d

module _ (T : Tables) (G : Given) (M : Memory) where
  -- no division or remainder that lowering comes to is undefined
  unfoldable mutual
    pub divides : Expr → Bool
    divides (boolean h b) = true
    divides (integer h v) = true
    divides (float32 h v) = true
    divides (float64 h v) = true
    divides (null_pointer h) = true
    divides (static_address h k o) = true
    divides (function_address h f) = true
    divides (read h p) = true
    divides (integer_unary h op e) = divides e
    divides (integer_binary h op l r) =
        divides l && divides r && divided op (width T h.ty) (number_of (eval T G M l)) (number_of (eval T G M r))
    divides (float_unary h e) = true
    divides (float_binary h l r) = true
    divides (compare h op l r) = divides l && divides r
    divides (convert h op e) = divides e
    divides (select h t f c) = divides t && divides f && divides c
    divides (address_of h p) = true
    divides (pointer_offset h b o) = divides b && divides o
    divides (aggregate h es) = all_divide es
    divides (extract_element h e i) = divides e
    divides (insert_element h e i w) = divides e && divides w

    pub all_divide : Exprs → Bool
    all_divide no_exprs = true
    all_divide (e ∷ᵉ es) = divides e && all_divide es
