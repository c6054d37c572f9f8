-- The storages that are marked, ascending.
use Rattle.std.specs.Prelude.{ℕ, zero, suc, Bool, true, false, List, ◌∷◌, ◌++◌, [], eqb, get_or}
use Rattle.spec.specs.Print.{each, narrowed_line}

abbrev pub unless : Bool → ℕ → List ℕ
unless true k = []
unless false k = k ∷ []

-- storage k, where its mark is not 0
abbrev pub marked_by : ℕ → ℕ → List ℕ
marked_by mark k = unless (eqb mark 0) k

-- those of the n storages from k on whose mark is not 0
unfoldable pub marks_from : ℕ → ℕ → List ℕ → List ℕ
marks_from zero k marks = []
marks_from (suc n) k marks = marked_by (get_or marks k 0) k ++ marks_from n (suc k) marks

abbrev pub narrowed_lines : List ℕ → List ℕ
narrowed_lines ks = each narrowed_line ks
