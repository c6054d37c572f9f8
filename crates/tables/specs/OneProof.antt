-- What reading guarantees has at most one proof, as a ghost field's fact must.
use Rattle.std.specs.Prelude.{ℕ, List, [], ◌∷◌}
use Rattle.std.specs.Coded.{×_prop, Unit-prop, le_prop}
use Rattle.std.proofs.Props.{props}
use Rattle.spec.specs.Ticket.{TypeWord, t_unit, t_bool, t_bits, t_float, t_pointer, t_array, t_struct, t_tuple, t_opaque, Tables}
use Rattle.spec.specs.Readable.{All_below, Counted, All, Readable}

pub All_below-prop : (n : ℕ) (xs : List ℕ) → IsProp (All_below n xs)
unfolding All_below
All_below-prop n [] = Unit-prop
All_below-prop n (x ∷ xs) = ×_prop le_prop (All_below-prop n xs)

pub Counted-prop : (w : TypeWord) (xs : List ℕ) → IsProp (Counted w xs)
unfolding Counted
Counted-prop t_unit xs = Prim.hlevel props
Counted-prop t_bool xs = Prim.hlevel props
Counted-prop t_bits xs = Prim.hlevel props
Counted-prop t_float xs = Prim.hlevel props
Counted-prop t_pointer xs = Prim.hlevel props
Counted-prop t_array xs = Prim.hlevel props
Counted-prop t_struct xs = Unit-prop
Counted-prop t_tuple xs = Unit-prop
Counted-prop t_opaque xs = Prim.hlevel props

pub All-prop : {A : Type 0} {P : A → Type 0} → ((x : A) → IsProp (P x)) → (xs : List A) → IsProp (All P xs)
unfolding All
All-prop h [] = Unit-prop
All-prop h (x ∷ xs) = ×_prop (h x) (All-prop h xs)

pub Readable-prop : (T : Tables) → IsProp (Readable T)
Readable-prop T = Prim.hlevel (props, All_below-prop, Counted-prop, All-prop)
