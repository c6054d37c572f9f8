-- The premise that reads are in order asks something of reads and integer constants alone: an expression is in order where each of those is.
use mathlib.Core.Bool.{Bool, true, false, ◌&&◌}
use mathlib.Core.List.{List, [], ◌∷◌, ◌++◌}
use mathlib.Core.Path.{◌≡◌, refl, sym, ap₂, ◌∙◌}
use Rattle.spec.specs.Hir.{Expr, boolean, integer, float32, float64, null_pointer, static_address, function_address, read, integer_unary, integer_binary, float_unary, float_binary, compare, convert, select, address_of, pointer_offset, aggregate, extract_element, insert_element, Exprs, no_exprs, ◌∷ᵉ◌}
use Rattle.spec.specs.Ticket.{Tables}
use Rattle.spec.specs.Machine.{Memory}
use Rattle.spec.specs.Eval.{in_order, all_in_order}

-- the reads and the integer constants
unfoldable mutual
  pub asked_of : Expr → List Expr
  asked_of (boolean h b) = []
  asked_of (integer h v) = integer h v ∷ []
  asked_of (float32 h v) = []
  asked_of (float64 h v) = []
  asked_of (null_pointer h) = []
  asked_of (static_address h k o) = []
  asked_of (function_address h f) = []
  asked_of (read h p) = read h p ∷ []
  asked_of (integer_unary h op e) = asked_of e
  asked_of (integer_binary h op l r) = asked_of l ++ asked_of r
  asked_of (float_unary h e) = asked_of e
  asked_of (float_binary h l r) = asked_of l ++ asked_of r
  asked_of (compare h op l r) = asked_of l ++ asked_of r
  asked_of (convert h op e) = asked_of e
  asked_of (select h t f c) = (asked_of t ++ asked_of f) ++ asked_of c
  asked_of (address_of h p) = []
  asked_of (pointer_offset h b o) = asked_of b ++ asked_of o
  asked_of (aggregate h es) = asked_of_all es
  asked_of (extract_element h e i) = asked_of e
  asked_of (insert_element h e i w) = asked_of e ++ asked_of w

  pub asked_of_all : Exprs → List Expr
  asked_of_all no_exprs = []
  asked_of_all (e ∷ᵉ es) = asked_of e ++ asked_of_all es

abbrev pub each : (Expr → Bool) → List Expr → Bool
each f [] = true
each f (e ∷ es) = f e && each f es

each_append : (f : Expr → Bool) (es ds : List Expr) → each f (es ++ ds) ≡ each f es && each f ds
each_append f [] ds = refl
each_append f (e ∷ es) ds = by (f e) (each_append f es ds)
  where
    by : (b : Bool) → each f (es ++ ds) ≡ each f es && each f ds → b && each f (es ++ ds) ≡ (b && each f es) && each f ds
    by true p = p
    by false p = refl

-- one alone
alone : (b : Bool) → b ≡ b && true
alone true = refl
alone false = refl

module _ (T : Tables) (M : Memory) where
  abbrev all_of : List Expr → Bool
  all_of es = each (λ e. in_order T M e) es

  two : (a b : Bool) (es ds : List Expr) → a ≡ all_of es → b ≡ all_of ds → a && b ≡ all_of (es ++ ds)
  two a b es ds p q = ap₂ (λ (x y : Bool). x && y) p q ∙ sym (each_append (λ e. in_order T M e) es ds)

  mutual
    unfolding in_order all_in_order asked_of asked_of_all

    pub order_of : (e : Expr) → in_order T M e ≡ all_of (asked_of e)
    order_of (boolean h b) = refl
    order_of (integer h v) = alone _
    order_of (float32 h v) = refl
    order_of (float64 h v) = refl
    order_of (null_pointer h) = refl
    order_of (static_address h k o) = refl
    order_of (function_address h f) = refl
    order_of (read h p) = alone _
    order_of (integer_unary h op e) = order_of e
    order_of (integer_binary h op l r) = two _ _ (asked_of l) (asked_of r) (order_of l) (order_of r)
    order_of (float_unary h e) = order_of e
    order_of (float_binary h l r) = two _ _ (asked_of l) (asked_of r) (order_of l) (order_of r)
    order_of (compare h op l r) = two _ _ (asked_of l) (asked_of r) (order_of l) (order_of r)
    order_of (convert h op e) = order_of e
    order_of (select h t f c) = two _ _ (asked_of t ++ asked_of f) (asked_of c) (two _ _ (asked_of t) (asked_of f) (order_of t) (order_of f)) (order_of c)
    order_of (address_of h p) = refl
    order_of (pointer_offset h b o) = two _ _ (asked_of b) (asked_of o) (order_of b) (order_of o)
    order_of (aggregate h es) = orders_of es
    order_of (extract_element h e i) = order_of e
    order_of (insert_element h e i w) = two _ _ (asked_of e) (asked_of w) (order_of e) (order_of w)

    orders_of : (es : Exprs) → all_in_order T M es ≡ all_of (asked_of_all es)
    orders_of no_exprs = refl
    orders_of (e ∷ᵉ es) = two _ _ (asked_of e) (asked_of_all es) (order_of e) (orders_of es)
