-- The numbers of a line by the classes of its fields: what a rule asks for is what the text's reading makes.
use Prim.Native.Nat.{ℕ}
use mathlib.Core.Bool.{Bool, true, false}
use mathlib.Core.List.{List, [], ◌∷◌}
use Rattle.std.specs.Prelude.{Option, None, Some}
use Rattle.std.proofs.lemmas.Option.{none-some, same_Some}
use mathlib.Core.Path.{◌≡◌, refl, ap}
use Rattle.spec.specs.Text.{bytes, same, number}
use Rattle.spec.specs.Forms.{Field, between, float_width, type_part, type, storage, place, node, Rule, find, Arg, rest_args, args_of, values}
use Rattle.spec.specs.Readable.{All}

-- numbers that have these fields' classes in order, and then all that one
pub data Args : List Field → Option Field → List Arg → Type 0 where
  done : {r : Option Field} → Args [] r []
  more : {f : Field} {xa : List Arg} (x : ℕ) → Args [] (Some f) xa → Args [] (Some f) (record { class = f; value = x } ∷ xa)
  next : {f : Field} {fs : List Field} {r : Option Field} {xa : List Arg} (x : ℕ) → Args fs r xa
      → Args (f ∷ fs) r (record { class = f; value = x } ∷ xa)

-- ---------------------------------------------------------------- numbers by class

abbrev pub if_part : Field → ℕ → List ℕ → List ℕ
if_part (between least greatest) x xs = xs
if_part float_width x xs = xs
if_part type_part x xs = x ∷ xs
if_part type x xs = xs
if_part storage x xs = xs
if_part place x xs = xs
if_part node x xs = xs

abbrev pub if_node : Field → ℕ → List ℕ → List ℕ
if_node (between least greatest) x xs = xs
if_node float_width x xs = xs
if_node type_part x xs = xs
if_node type x xs = xs
if_node storage x xs = xs
if_node place x xs = xs
if_node node x xs = x ∷ xs

abbrev pub if_place : Field → ℕ → List ℕ → List ℕ
if_place (between least greatest) x xs = xs
if_place float_width x xs = xs
if_place type_part x xs = xs
if_place type x xs = xs
if_place storage x xs = xs
if_place place x xs = x ∷ xs
if_place node x xs = xs

-- the numbers of a line that refer to a type's parts, to nodes, and to places
abbrev pub part_values : List Arg → List ℕ
part_values [] = []
part_values (a ∷ xa) = if_part a.class a.value (part_values xa)

abbrev pub node_values : List Arg → List ℕ
node_values [] = []
node_values (a ∷ xa) = if_node a.class a.value (node_values xa)

abbrev pub place_values : List Arg → List ℕ
place_values [] = []
place_values (a ∷ xa) = if_place a.class a.value (place_values xa)

-- a line all of whose numbers are parts, or nodes
pub all_parts : {xa : List Arg} → Args [] (Some type_part) xa → values xa ≡ part_values xa
all_parts done = refl
all_parts (more x rest) = ap (λ xs. x ∷ xs) (all_parts rest)

pub all_nodes : {xa : List Arg} → Args [] (Some node) xa → values xa ≡ node_values xa
all_nodes done = refl
all_nodes (more x rest) = ap (λ xs. x ∷ xs) (all_nodes rest)

pub no_places : {xa : List Arg} → Args [] (Some node) xa → [] ≡ place_values xa
no_places done = refl
no_places (more x rest) = no_places rest

-- ---------------------------------------------------------------- from the text

-- what stands behind a line's word is read by its fields
rest_formed : (f : Option Field) (ws : List (List ℕ)) (xa : List Arg) → rest_args f ws ≡ Some xa → Args [] f xa
unfolding rest_args
rest_formed f [] xa e = rw (← same_Some _ _ e) done
rest_formed None (w ∷ ws) xa e = absurd (none-some _ e)
rest_formed (Some f) (w ∷ ws) xa e = by (number w) refl (rest_args (Some f) ws) refl (λ ya. rest_formed (Some f) ws ya)
  where
    by : (x : Option ℕ) → number w ≡ x → (o : Option (List Arg)) → rest_args (Some f) ws ≡ o
        → ((ya : List Arg) → rest_args (Some f) ws ≡ Some ya → Args [] (Some f) ya) → Args [] (Some f) xa
    by None p o q formed = absurd (none-some _ (rw p at e))
    by (Some x) p None q formed = absurd (none-some _ (rw (p, q) at e))
    by (Some x) p (Some ya) q formed = rw (← same_Some _ _ (rw (p, q) at e)) (more x (formed ya q))

pub args_formed : (fs : List Field) (f : Option Field) (ws : List (List ℕ)) (xa : List Arg) → args_of fs f ws ≡ Some xa → Args fs f xa
unfolding args_of
args_formed [] f ws xa e = rest_formed f ws xa e
args_formed (g ∷ fs) f [] xa e = absurd (none-some _ e)
args_formed (g ∷ fs) f (w ∷ ws) xa e = by (number w) refl (args_of fs f ws) refl (λ ya. args_formed fs f ws ya)
  where
    by : (x : Option ℕ) → number w ≡ x → (o : Option (List Arg)) → args_of fs f ws ≡ o
        → ((ya : List Arg) → args_of fs f ws ≡ Some ya → Args fs f ya) → Args (g ∷ fs) f xa
    by None p o q formed = absurd (none-some _ (rw p at e))
    by (Some x) p None q formed = absurd (none-some _ (rw (p, q) at e))
    by (Some x) p (Some ya) q formed = rw (← same_Some _ _ (rw (p, q) at e)) (next x (formed ya q))

-- what holds of every rule holds of the one that is found
pub found : {A : Type 0} (P : Rule A → Type 0) (rs : List (Rule A)) (w : List ℕ) (r : Rule A) → All P rs → find rs w ≡ Some r → P r
unfolding find All
found P [] w r h e = absurd (none-some _ e)
found P (s ∷ rs) w r h e = by (same (bytes s.word) w) refl (λ q. found P rs w r h.1 q)
  where
    by : (b : Bool) → same (bytes s.word) w ≡ b → (find rs w ≡ Some r → P r) → P r
    by true p later = rw (same_Some _ _ (rw (p, find) at e)) at h.0
    by false p later = later (rw (p, find) at e)
