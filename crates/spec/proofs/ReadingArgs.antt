-- What the tests say of the numbers of a line that refer to a type's parts, to nodes or to places: they stand earlier, and are less deep than the line.
use Prim.Native.Nat.{ℕ, ◌≤◌, ◌<◌}
use mathlib.Core.Bool.{true}
use mathlib.Core.List.{List, [], ◌∷◌}
use mathlib.Core.Path.{◌≡◌}
use native.Mathlib.Omega.{arith}
use borrow.Author.Tests.{ltb-true}
use lib.ListN.{length}
use Rattle.spec.specs.Ticket.{Tables, type_at, place_line_at, node_at}
use Rattle.spec.specs.Forms.{Field, between, float_width, type_part, type, storage, place, node, Arg}
use Rattle.spec.specs.Read.{depth_of}
use Rattle.spec.specs.Readable.{All, All_below}
use Rattle.spec.proofs.ReadingLists.{All_map}
use Rattle.spec.proofs.ReadingTests.{stands, Standing}
use Rattle.spec.proofs.ReadingForms.{if_part, if_node, if_place, part_values, node_values, place_values}

-- earlier lines
pub parts_below : (T : Tables) (xa : List Arg) → Standing T xa → All_below (length T.types) (part_values xa)
unfolding All All_below
parts_below T [] h = tt
parts_below T (a ∷ xa) h = by a.class a.value h.0 (parts_below T xa h.1)
  where
    by : (c : Field) (x : ℕ) → stands T c x ≡ true → All_below (length T.types) (part_values xa)
        → All_below (length T.types) (if_part c x (part_values xa))
    by (between least greatest) x e rest = rest
    by float_width x e rest = rest
    by type_part x e rest = (ltb-true x (length T.types) e, rest)
    by type x e rest = rest
    by storage x e rest = rest
    by place x e rest = rest
    by node x e rest = rest

pub nodes_below : (T : Tables) (xa : List Arg) → Standing T xa → All_below (length T.nodes) (node_values xa)
unfolding All All_below
nodes_below T [] h = tt
nodes_below T (a ∷ xa) h = by a.class a.value h.0 (nodes_below T xa h.1)
  where
    by : (c : Field) (x : ℕ) → stands T c x ≡ true → All_below (length T.nodes) (node_values xa)
        → All_below (length T.nodes) (if_node c x (node_values xa))
    by (between least greatest) x e rest = rest
    by float_width x e rest = rest
    by type_part x e rest = rest
    by type x e rest = rest
    by storage x e rest = rest
    by place x e rest = rest
    by node x e rest = (ltb-true x (length T.nodes) e, rest)

pub places_below : (T : Tables) (xa : List Arg) → Standing T xa → All_below (length T.places) (place_values xa)
unfolding All All_below
places_below T [] h = tt
places_below T (a ∷ xa) h = by a.class a.value h.0 (places_below T xa h.1)
  where
    by : (c : Field) (x : ℕ) → stands T c x ≡ true → All_below (length T.places) (place_values xa)
        → All_below (length T.places) (if_place c x (place_values xa))
    by (between least greatest) x e rest = rest
    by float_width x e rest = rest
    by type_part x e rest = rest
    by type x e rest = rest
    by storage x e rest = rest
    by place x e rest = (ltb-true x (length T.places) e, rest)
    by node x e rest = rest

-- less deep lines
depth_grows : (T : Tables) (a : Arg) (xa : List Arg) → depth_of T xa ≤ depth_of T (a ∷ xa)
unfolding depth_of
depth_grows T a xa = omega arith

pub parts_less_deep : (T : Tables) (xa : List Arg) → All (λ i. (type_at T i).depth < depth_of T xa) (part_values xa)
unfolding All
parts_less_deep T [] = tt
parts_less_deep T (a ∷ xa) =
    by a.class a.value (let g = depth_grows T a xa in All_map (part_values xa) (λ i p. omega arith) (parts_less_deep T xa))
  where
    by : (c : Field) (x : ℕ)
        → All (λ i. (type_at T i).depth < depth_of T (record { class = c; value = x } ∷ xa)) (part_values xa)
        → All (λ i. (type_at T i).depth < depth_of T (record { class = c; value = x } ∷ xa)) (if_part c x (part_values xa))
    by (between least greatest) x rest = rest
    by float_width x rest = rest
    by type_part x rest = (unfold depth_of in omega arith, rest)
    by type x rest = rest
    by storage x rest = rest
    by place x rest = rest
    by node x rest = rest

pub nodes_less_deep : (T : Tables) (xa : List Arg) → All (λ i. (node_at T i).depth < depth_of T xa) (node_values xa)
unfolding All
nodes_less_deep T [] = tt
nodes_less_deep T (a ∷ xa) =
    by a.class a.value (let g = depth_grows T a xa in All_map (node_values xa) (λ i p. omega arith) (nodes_less_deep T xa))
  where
    by : (c : Field) (x : ℕ)
        → All (λ i. (node_at T i).depth < depth_of T (record { class = c; value = x } ∷ xa)) (node_values xa)
        → All (λ i. (node_at T i).depth < depth_of T (record { class = c; value = x } ∷ xa)) (if_node c x (node_values xa))
    by (between least greatest) x rest = rest
    by float_width x rest = rest
    by type_part x rest = rest
    by type x rest = rest
    by storage x rest = rest
    by place x rest = rest
    by node x rest = (unfold depth_of in omega arith, rest)

pub places_less_deep : (T : Tables) (xa : List Arg) → All (λ i. (place_line_at T i).depth < depth_of T xa) (place_values xa)
unfolding All
places_less_deep T [] = tt
places_less_deep T (a ∷ xa) =
    by a.class a.value (let g = depth_grows T a xa in All_map (place_values xa) (λ i p. omega arith) (places_less_deep T xa))
  where
    by : (c : Field) (x : ℕ)
        → All (λ i. (place_line_at T i).depth < depth_of T (record { class = c; value = x } ∷ xa)) (place_values xa)
        → All (λ i. (place_line_at T i).depth < depth_of T (record { class = c; value = x } ∷ xa)) (if_place c x (place_values xa))
    by (between least greatest) x rest = rest
    by float_width x rest = rest
    by type_part x rest = rest
    by type x rest = rest
    by storage x rest = rest
    by place x rest = (unfold depth_of in omega arith, rest)
    by node x rest = rest
