-- Examples: 12 added to a 9-bit number, with other regions and with more variables and statics; and why the smaller ticket must be the accepted one.
use Prim.Native.Nat.{ℕ}
use Prim.Native.String.{String}
use mathlib.Core.List.{List, [], ◌∷◌, ◌++◌}
use mathlib.Core.Path.{◌≡◌, refl}
use Rattle.spec.specs.Text.{text, split, line_feed}
use Rattle.spec.specs.Answer.{refused, accepted, answer, computing}
use Rattle.spec.specs.Alike.{none_of, MoreLines, same_end, same_line, other_regions, more_variable, more_static}

abbrev nodes : String → List String
nodes place = place ∷ "n,2,read,0" ∷ "n,2,int,12" ∷ "n,2,binary,0,0,1" ∷ []

-- by its older storage, the lines added behind its variable, and the place that is read
abbrev ticket : String → List String → String → List ℕ
ticket storage added place = text ("f,0,0" ∷ "t,bool" ∷ "t,pointer" ∷ "t,bits,9" ∷ storage ∷ "v,0,0,2,0" ∷ (added ++ nodes place))

abbrev listing : List String
listing =
    "storage,1,2,2,0,0,36" ∷ "storage,2,3,0,1,1,2" ∷ "i,add,1.0,0.0,#12,-,2,2" ∷ "i,add,1.1,0.1,#0,2,-,2" ∷ "i,and,1.1,1.1,#1,2" ∷
    "value,2,bytes,2,1.0,1.1" ∷ "done,3,2,2" ∷ []

as_it_is : answer (ticket "s,2,2,1,36" [] "p,variable,0") 200 ≡ accepted (text listing)
unfolding computing
as_it_is = refl

regions_changed : answer (ticket "s,2,2,1,4" [] "p,variable,0") 200 ≡ accepted (text listing)
unfolding computing
regions_changed = refl

lines_added : answer (ticket "s,2,2,1,4" ("v,0,1,2,0" ∷ "g,0,0,2,0" ∷ []) "p,variable,0") 200 ≡ accepted (text listing)
unfolding computing
lines_added = refl

-- ---------------------------------------------------------------- the other way round

-- a variable that the smaller ticket lacks: it is refused, and the larger one is accepted
lacking : answer (ticket "s,2,2,1,36" [] "p,variable,1") 200 ≡ refused 20 8
unfolding computing
lacking = refl

added : answer (ticket "s,2,2,1,36" ("v,0,0,2,0" ∷ []) "p,variable,1") 200 ≡ accepted (text listing)
unfolding computing
added = refl

-- ---------------------------------------------------------------- the premise

differ : MoreLines (split line_feed (ticket "s,2,2,1,36" [] "p,variable,0"))
    (split line_feed (ticket "s,2,2,1,4" ("v,0,1,2,0" ∷ "g,0,0,2,0" ∷ []) "p,variable,0"))
unfolding computing none_of
differ =
    same_line (same_line (same_line (same_line (
    other_regions refl refl refl refl refl (
    same_line (
    more_variable refl refl (
    more_static refl refl (
    same_line (same_line (same_line (same_line same_end)))))))))))
