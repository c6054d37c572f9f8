-- The code's tables: rules as those of `Forms`, and words.
use Rattle.std.specs.Prelude.{◌≡◌, ℕ, ◌<◌, List, map, option_map, length, get_or}
use Rattle.fields.specs.Fields.{Tried}
use Rattle.line_forms.specs.Classes.{field_of, fields_of, rest_of}
use Rattle.line_forms.specs.declared.LineKind.{LineKind}
use Rattle.line_forms.specs.declared.Rule.{Rule}
use Rattle.line_forms.specs.declared.Words.{Words}

-- the numbers behind a kind's word are those of its rule
pub record RuleOf (k : LineKind) (w : ℕ) (r : Rule) : Type 0 where
  pub fields : map field_of r.0.now ≡ fields_of k w
  pub rest : option_map field_of r.1 ≡ rest_of k w

-- each word stands where its span says
pub record AllTried (ws : Words) : Type 0 where
  pub at : (k : ℕ) → k < length ws.spans.now → Tried ws.all.now k (get_or ws.spans.now k (0, 0)).0 (get_or ws.spans.now k (0, 0)).1

-- a word's rule in a table, or another where there is no such word
pub record RuleIn (rs : List Rule) (w : ℕ) (d r : Rule) : Type 0 where
  pub is : r ≡ get_or rs w d
