-- What running needs of a readable ticket besides its types, and of an expression besides its types.
use Rattle.std.specs.Prelude.{ℕ, ◌<◌, Bool, true, ◌&&◌, ◌≡◌, leb, length}
use Rattle.std.specs.Prelude.{Some}
use Rattle.spec.specs.Hir.{Expr, boolean, integer, float32, float64, null_pointer, static_address, function_address, read, integer_unary, integer_binary, float_unary, float_binary, compare, convert, select, address_of, pointer_offset, aggregate, extract_element, insert_element, Exprs, no_exprs, ◌∷ᵉ◌}
use Rattle.spec.specs.Ticket.{PlacedLine, Tables}
use Rattle.spec.specs.Operands.{nth}

-- a variable or a static names an older storage, and is a bit only as a bool
pub record Placed (T : Tables) (p : PlacedLine) : Type 0 where
  pub older : p.storage < length T.storages
  pub bit_bool : p.bit ≡ 1 → p.type ≡ 0

pub record NeedsOf (T : Tables) : Type 0 where
  pub variables : (k : ℕ) (p : PlacedLine) → nth T.variables k ≡ Some p → Placed T p
  pub statics : (k : ℕ) (p : PlacedLine) → nth T.statics k ≡ Some p → Placed T p

-- every `bool` that lowering comes to is 0 or 1: reading sees to it
unfoldable mutual
  pub bools_in_range : Expr → Bool
  bools_in_range (boolean h b) = leb b 1
  bools_in_range (integer h v) = true
  bools_in_range (float32 h v) = true
  bools_in_range (float64 h v) = true
  bools_in_range (null_pointer h) = true
  bools_in_range (static_address h k o) = true
  bools_in_range (function_address h f) = true
  bools_in_range (read h p) = true
  bools_in_range (integer_unary h op e) = bools_in_range e
  bools_in_range (integer_binary h op l r) = bools_in_range l && bools_in_range r
  bools_in_range (float_unary h e) = true
  bools_in_range (float_binary h l r) = true
  bools_in_range (compare h op l r) = bools_in_range l && bools_in_range r
  bools_in_range (convert h op e) = bools_in_range e
  bools_in_range (select h t f c) = bools_in_range t && bools_in_range f && bools_in_range c
  bools_in_range (address_of h p) = true
  bools_in_range (pointer_offset h b o) = bools_in_range b && bools_in_range o
  bools_in_range (aggregate h es) = all_bools_in_range es
  bools_in_range (extract_element h e i) = bools_in_range e
  bools_in_range (insert_element h e i w) = bools_in_range e && bools_in_range w

  pub all_bools_in_range : Exprs → Bool
  all_bools_in_range no_exprs = true
  all_bools_in_range (e ∷ᵉ es) = bools_in_range e && all_bools_in_range es
