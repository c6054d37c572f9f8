-- Tickets that differ in nothing that a listing shows: older storages' regions, and variables and statics added behind the others.
use Rattle.std.specs.Prelude.{ℕ, Bool, true, false, ◌&&◌, not, List, [], ◌∷◌, ◌++◌, ◌≡◌, eqb}
use Rattle.std.specs.Prelude.{Option, None, Some}
use Rattle.spec.specs.Ticket.{StorageLine, PlacedLine, PlaceLine, NodeLine, Tables, arg}
use Rattle.spec.specs.Text.{split, line_feed}
use Rattle.spec.specs.Forms.{Arg, Head, s_line, v_line, g_line, Line, line_of, values}
use Rattle.spec.specs.Read.{rank, read_ticket}
use Rattle.spec.specs.Read as reading
use Rattle.spec.specs.Answer.{accepted, answer}

-- ---------------------------------------------------------------- line by line

-- equally many, each related to the other list's at its place
infixr 60 ◌with◌
pub data Pairwise {A : Type 0} (R : A → A → Type 0) : List A → List A → Type 0 where
  both_end : Pairwise R [] []
  ◌with◌ : {x y : A} {xs ys : List A} → R x y → Pairwise R xs ys → Pairwise R (x ∷ xs) (y ∷ ys)

-- the regions may differ
pub record AlikeStorage (s s' : StorageLine) : Type 0 where
  pub kind : s.kind ≡ s'.kind
  pub len : s.len ≡ s'.len
  pub owner : s.owner ≡ s'.owner

-- the line's number may differ: a line added before it moves it down
pub record AlikePlace (p p' : PlaceLine) : Type 0 where
  pub word : p.word ≡ p'.word
  pub args : p.args ≡ p'.args
  pub depth : p.depth ≡ p'.depth

pub record AlikeNode (n n' : NodeLine) : Type 0 where
  pub type : n.type ≡ n'.type
  pub word : n.word ≡ n'.word
  pub args : n.args ≡ n'.args
  pub depth : n.depth ≡ n'.depth

-- ---------------------------------------------------------------- two tickets as read

-- T' has T's lines but for regions, and the variables vs and statics gs behind T's
pub record MoreOf (vs gs : List PlacedLine) (T T' : Tables) : Type 0 where
  pub function : T'.function ≡ T.function
  pub next : T'.next ≡ T.next
  pub types : T'.types ≡ T.types
  pub storages : Pairwise AlikeStorage T.storages T'.storages
  pub variables : T'.variables ≡ T.variables ++ vs
  pub statics : T'.statics ≡ T.statics ++ gs
  pub places : Pairwise AlikePlace T.places T'.places
  pub nodes : Pairwise AlikeNode T.nodes T'.nodes

-- where the one with no more lines is accepted, so is the other in a buffer as long, with the same listing
unfoldable pub SameListing : Type 0
SameListing =
    (ticket ticket' : List ℕ) (T T' : Tables) (vs gs : List PlacedLine) (room : ℕ) (s : List ℕ)
    → read_ticket ticket ≡ reading.accepted T
    → read_ticket ticket' ≡ reading.accepted T'
    → MoreOf vs gs T T'
    → answer ticket room ≡ accepted s
    → answer ticket' room ≡ accepted s

-- ---------------------------------------------------------------- two texts

-- a line with this head and these numbers
abbrev pub Reads : Head → List Arg → List ℕ → Type 0
Reads h xa l = line_of l ≡ Some (record { head = h; args = xa })

abbrev pub of_kind : Head → Option Line → Bool
of_kind h None = false
of_kind h (Some l) = eqb (rank l.head) (rank h)

-- no line of a kind that has a rank of its own
unfoldable pub none_of : Head → List (List ℕ) → Bool
none_of h [] = true
none_of h (l ∷ ls) = not (of_kind h (line_of l)) && none_of h ls

-- the second ticket's lines are the first's but for storages' regions, and for variables and statics behind the last of their kind;
-- the last entry is what stands behind the last line feed
pub data MoreLines : List (List ℕ) → List (List ℕ) → Type 0 where
  same_end : {l : List ℕ} → MoreLines (l ∷ []) (l ∷ [])
  same_line : {l m m' : List ℕ} {ls ls' : List (List ℕ)} → MoreLines (m ∷ ls) (m' ∷ ls') → MoreLines (l ∷ m ∷ ls) (l ∷ m' ∷ ls')
  other_regions : {l l' m m' : List ℕ} {ls ls' : List (List ℕ)} {xa xa' : List Arg}
      → Reads s_line xa l
      → Reads s_line xa' l'
      → arg (values xa) 0 ≡ arg (values xa') 0
      → arg (values xa) 1 ≡ arg (values xa') 1
      → arg (values xa) 2 ≡ arg (values xa') 2
      → MoreLines (m ∷ ls) (m' ∷ ls')
      → MoreLines (l ∷ m ∷ ls) (l' ∷ m' ∷ ls')
  more_variable : {l m m' : List ℕ} {ls ls' : List (List ℕ)} {xa : List Arg}
      → Reads v_line xa l → none_of v_line (m ∷ ls) ≡ true → MoreLines (m ∷ ls) (m' ∷ ls') → MoreLines (m ∷ ls) (l ∷ m' ∷ ls')
  more_static : {l m m' : List ℕ} {ls ls' : List (List ℕ)} {xa : List Arg}
      → Reads g_line xa l → none_of g_line (m ∷ ls) ≡ true → MoreLines (m ∷ ls) (m' ∷ ls') → MoreLines (m ∷ ls) (l ∷ m' ∷ ls')

-- the same listing, of two texts that can be read
unfoldable pub SameListingOfLines : Type 0
SameListingOfLines =
    (ticket ticket' : List ℕ) (T T' : Tables) (room : ℕ) (s : List ℕ)
    → read_ticket ticket ≡ reading.accepted T
    → read_ticket ticket' ≡ reading.accepted T'
    → MoreLines (split line_feed ticket) (split line_feed ticket')
    → answer ticket room ≡ accepted s
    → answer ticket' room ≡ accepted s
