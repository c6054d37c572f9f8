-- hir.rs: operators, expressions and places. A node's type is the number of a type line, a name of the Rust's is a line's number.
use Rattle.std.specs.Prelude.{ℕ, List, [], ◌∷◌}

-- ---------------------------------------------------------------- operators

pub data Signedness : Type 0 where
  signed unsigned : Signedness

pub data IntegerUnaryOp : Type 0 where
  negate not count_leading_zeros count_trailing_zeros population_count : IntegerUnaryOp

pub data IntegerBinaryOp : Type 0 where
  add subtract multiply : IntegerBinaryOp
  divide remainder : Signedness → IntegerBinaryOp
  and or xor shift_left : IntegerBinaryOp
  shift_right : Signedness → IntegerBinaryOp
  rotate_left rotate_right : IntegerBinaryOp
  saturating_add saturating_subtract : Signedness → IntegerBinaryOp

pub data CompareOp : Type 0 where
  equal not_equal : CompareOp
  less_than less_than_or_equal greater_than greater_than_or_equal : Signedness → CompareOp
  float_equal float_not_equal float_less_than float_less_than_or_equal float_greater_than float_greater_than_or_equal : CompareOp

pub data Saturation : Type 0 where
  plain saturating : Saturation

pub data ConversionOp : Type 0 where
  truncate zero_extend sign_extend : ConversionOp
  integer_to_float : Signedness → ConversionOp
  float_to_integer : Signedness → Saturation → ConversionOp
  promote_float demote_float reinterpret boolean_to_integer integer_to_boolean : ConversionOp

-- document 01's OP is an operator's place in its list: the enum's cases in order, each signed case before its unsigned one
abbrev pub integer_unary_ops : List IntegerUnaryOp
integer_unary_ops = negate ∷ not ∷ count_leading_zeros ∷ count_trailing_zeros ∷ population_count ∷ []

abbrev pub integer_binary_ops : List IntegerBinaryOp
integer_binary_ops =
    add ∷ subtract ∷ multiply ∷ divide signed ∷ divide unsigned ∷ remainder signed ∷ remainder unsigned ∷ and ∷ or ∷ xor ∷
    shift_left ∷ shift_right signed ∷ shift_right unsigned ∷ rotate_left ∷ rotate_right ∷
    saturating_add signed ∷ saturating_add unsigned ∷ saturating_subtract signed ∷ saturating_subtract unsigned ∷ []

abbrev pub compare_ops : List CompareOp
compare_ops =
    equal ∷ not_equal ∷ less_than signed ∷ less_than unsigned ∷ less_than_or_equal signed ∷ less_than_or_equal unsigned ∷
    greater_than signed ∷ greater_than unsigned ∷ greater_than_or_equal signed ∷ greater_than_or_equal unsigned ∷
    float_equal ∷ float_not_equal ∷ float_less_than ∷ float_less_than_or_equal ∷ float_greater_than ∷ float_greater_than_or_equal ∷ []

abbrev pub conversion_ops : List ConversionOp
conversion_ops =
    truncate ∷ zero_extend ∷ sign_extend ∷ integer_to_float signed ∷ integer_to_float unsigned ∷
    float_to_integer signed plain ∷ float_to_integer signed saturating ∷ float_to_integer unsigned plain ∷ float_to_integer unsigned saturating ∷
    promote_float ∷ demote_float ∷ reinterpret ∷ boolean_to_integer ∷ integer_to_boolean ∷ []

-- ---------------------------------------------------------------- expressions and places

-- where a node stands: its line in the ticket, its number, and its TYPE
pub record At : Type 0 where
  pub line : ℕ
  pub node : ℕ
  pub ty : ℕ

infixr 67 ◌∷ᵉ◌
mutual
  pub data Expr : Type 0 where
    boolean integer float32 float64 : At → ℕ → Expr
    null_pointer : At → Expr
    static_address : At → ℕ → ℕ → Expr
    function_address : At → ℕ → Expr
    read : At → Place → Expr
    integer_unary : At → IntegerUnaryOp → Expr → Expr
    integer_binary : At → IntegerBinaryOp → Expr → Expr → Expr
    float_unary : At → Expr → Expr
    float_binary : At → Expr → Expr → Expr
    compare : At → CompareOp → Expr → Expr → Expr
    convert : At → ConversionOp → Expr → Expr
    select : At → Expr → Expr → Expr → Expr
    address_of : At → Place → Expr
    pointer_offset : At → Expr → Expr → Expr
    aggregate : At → Exprs → Expr
    extract_element : At → Expr → ℕ → Expr
    insert_element : At → Expr → ℕ → Expr → Expr

  pub data Exprs : Type 0 where
    no_exprs : Exprs
    ◌∷ᵉ◌ : Expr → Exprs → Exprs

  pub data Place : Type 0 where
    variable static : ℕ → Place
    field : Place → ℕ → Place
    element byte_offset : Place → Expr → Place
