-- A run of stores, word by word, as far as there is room.
use Rattle.std.specs.Prelude.{◌≡◌, refl, List, ◌∷◌, [], ℕ, suc, ◌+◌, ◌≤◌, ◌<◌, length, take, set, get_or}
use Rattle.std.proofs.Common.{sym, ap, ◌∙◌, arith, add-one, take-suc, take_all, length-take-le}
use Rattle.std.proofs.Math.Seq.{set_out}
use Rattle.std.proofs.lemmas.List.Edits.{sets}
use Rattle.text.specs.Put.{sets_append}

-- one store more, in range
sets_more : (l ws : List ℕ) (at j : ℕ) → j < length ws → sets l at (take (suc j) ws) ≡ set (sets l at (take j ws)) (at + length (take j ws)) (get_or ws j 0)
sets_more l ws at j h = rw (take-suc ws j 0 h, sets_append l at (take j ws))

-- the first j words of ws are stored: one more
pub stored_more : (l₀ l ws : List ℕ) (at j : ℕ) → j < length ws → l ≡ sets l₀ at (take j ws) → set l (at + j) (get_or ws j 0) ≡ sets l₀ at (take (j + 1) ws)
stored_more l₀ l ws at j h e =
    let lj : length (take j ws) ≡ j = length-take-le j ws (omega arith) in
    rw (add-one, sets_more l₀ ws at j h, lj, e)

-- the same where the store has no room
pub dropped_more : (l₀ l ws : List ℕ) (at j : ℕ) → j < length ws → length l ≤ at + j → l ≡ sets l₀ at (take j ws) → l ≡ sets l₀ at (take (j + 1) ws)
dropped_more l₀ l ws at j h out e = sym (set_out l (at + j) (get_or ws j 0) out) ∙ stored_more l₀ l ws at j h e

-- all of them
pub stored_all : (l₀ l ws : List ℕ) (at j : ℕ) → length ws ≤ j → l ≡ sets l₀ at (take j ws) → l ≡ sets l₀ at ws
stored_all l₀ l ws at j h e = e ∙ ap (λ (z : List ℕ). sets l₀ at z) (take_all j ws h)

sets_out : (l ws : List ℕ) (at : ℕ) → length l ≤ at → sets l at ws ≡ l
sets_out l [] at h = refl
sets_out l (w ∷ ws) at h = rw (set_out l at w h) (sets_out l ws (suc at) (omega arith))

pub not_stored : (l ws : List ℕ) (at : ℕ) → length l ≤ at → l ≡ sets l at ws
not_stored l ws at h = sym (sets_out l ws at h)
