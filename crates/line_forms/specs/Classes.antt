-- The code's heads and classes as those of `Forms`: a kind and a word's number in place of a head.
use Rattle.std.specs.Prelude.{◌≡◌, ℕ, zero, suc, ◌+◌, ◌*◌, ◌≤◌, Bool, List, ◌∷◌, [], eqb, leb, length, get_or}
use Prim.Native.String.{String}
use Rattle.std.specs.Prelude.{Option, None, Some, IfSome, MatchOption, option_map}
use Rattle.tables.specs.Tables.{tab, pick, type_word_by, place_word_by, node_word_by}
use Rattle.fields.specs.Fields.{Kept, fields_from}
use Rattle.spec.specs.Limits.{greatest_16}
use Rattle.spec.specs.Ticket.{TypeWord, t_unit, PlaceWord, p_variable, NodeWord, n_null}
use Rattle.spec.specs.Forms.{Field, between, float_width, type_part, type, storage, place, node, up_to, Rule, rule, type_rules, place_rules, node_rules, function_fields, storage_fields, placed_fields, Arg, Head, f_line, s_line, v_line, g_line, t_line, p_line, n_line, Line, Kind, k_f, k_t, k_s, k_v, k_g, k_p, k_n, kind_rules, find, form_by, line_of, form_of}
use Rattle.line_forms.specs.declared.LineKind.{LineKind}
use Rattle.line_forms.specs.declared.LineKind.TheVariants.{Functions, Types, Storages, Variables, Statics, Places, Nodes}
use Rattle.line_forms.specs.declared.Class.{Class}
use Rattle.line_forms.specs.declared.Class.TheVariants.{Between, FloatWidth, TypePart, TypeLine, StorageLine, PlaceLine, NodeLine}
use Rattle.line_forms.specs.declared.Form.{Form}

abbrev pub field_of : Class → Field
field_of (Between a b) = between a b
field_of FloatWidth = float_width
field_of TypePart = type_part
field_of TypeLine = type
field_of StorageLine = storage
field_of PlaceLine = place
field_of NodeLine = node

-- the rule of a word's number; the first word's, without fields, where there is no such word
unfoldable pub type_rule : ℕ → Rule TypeWord
type_rule w = get_or type_rules w (rule "unit" t_unit [])

unfoldable pub place_rule : ℕ → Rule PlaceWord
place_rule w = get_or place_rules w (rule "variable" p_variable [])

unfoldable pub node_rule : ℕ → Rule NodeWord
node_rule w = get_or node_rules w (rule "null" n_null [])

abbrev pub head_of : LineKind → ℕ → Head
head_of Functions w = f_line
head_of Types w = t_line (type_word_by w)
head_of Storages w = s_line
head_of Variables w = v_line
head_of Statics w = g_line
head_of Places w = p_line (place_word_by w)
head_of Nodes w = n_line (node_word_by w)

abbrev pub fields_of : LineKind → ℕ → List Field
fields_of Functions w = function_fields
fields_of Types w = (type_rule w).fields
fields_of Storages w = storage_fields
fields_of Variables w = placed_fields
fields_of Statics w = placed_fields
fields_of Places w = (place_rule w).fields
fields_of Nodes w = type ∷ (node_rule w).fields

abbrev pub rest_of : LineKind → ℕ → Option Field
rest_of Functions w = None
rest_of Types w = (type_rule w).rest
rest_of Storages w = None
rest_of Variables w = None
rest_of Statics w = None
rest_of Places w = (place_rule w).rest
rest_of Nodes w = (node_rule w).rest

-- the class of field i
unfoldable pub class_in : List Field → Option Field → ℕ → Field
class_in [] None i = up_to greatest_16
class_in [] (Some f) i = f
class_in (f ∷ fs) r zero = f
class_in (f ∷ fs) r (suc i) = class_in fs r i

unfoldable pub class_at : LineKind → ℕ → ℕ → Field
class_at k w i = class_in (fields_of k w) (rest_of k w) i

-- as many numbers as the rule has fields
abbrev pub fits : List Field → Option Field → ℕ → Bool
fits fs None n = eqb n (length fs)
fits fs (Some f) n = leb (length fs) n

-- a line whose numbers are these
unfoldable pub arg_at : (ℕ → Field) → (ℕ → ℕ) → ℕ → Arg
arg_at class value i = record { class = class i; value = value i }

-- the numbers of a form, behind the first `used` of the lists
abbrev pub number_at : List ℕ → ℕ → ℕ → ℕ
number_at ls used i = get_or ls (used + i) 0

abbrev pub form_arg : Form → List ℕ → ℕ → ℕ → Arg
form_arg f ls used = arg_at (class_at f.kind f.word) (number_at ls used)

unfoldable pub args_of : Form → List ℕ → ℕ → List Arg
args_of f ls used = tab (form_arg f ls used) 0 f.count

unfoldable pub line_from : Form → List ℕ → ℕ → Line
line_from f ls used = record { head = head_of f.kind f.word; args = args_of f ls used }

-- a form's numbers take at most half of its line
pub record FormAt (o : Option Line) (s u t : List ℕ) (used : ℕ) (r : Option Form) : Type 0 where
  pub answer : option_map (λ f. line_from f t used) r ≡ o
  pub half : IfSome r (λ f. f.count * 2 ≤ length s)
  pub kept : Kept used u t

-- a kind's word and its numbers
unfoldable pub form_by_number : LineKind → ℕ → Option (List ℕ) → Option Line
form_by_number k w None = None
form_by_number k w (Some xs) =
    pick (fits (fields_of k w) (rest_of k w) (length xs)) (Some (record { head = head_of k w; args = tab (arg_at (class_at k w) (λ i. get_or xs i 0)) 0 (length xs) })) None

abbrev pub kind_of : LineKind → Kind
kind_of Functions = k_f
kind_of Types = k_t
kind_of Storages = k_s
kind_of Variables = k_v
kind_of Statics = k_g
kind_of Places = k_p
kind_of Nodes = k_n

abbrev pub type_words : String
type_words = "unit,bool,bits,float,pointer,array,struct,tuple,opaque"

abbrev pub place_words : String
place_words = "variable,static,field,element,offset"

abbrev pub node_words : String
node_words =
    "bool,int,f32,f64,null,staticaddress,function,read,unary,binary,funary,fbinary,compare,convert,select,address,offset,aggregate,extract,insert"

-- a line by its first field of one byte, or no line
pub record OneByte (s : List ℕ) (r : Option ℕ) : Type 0 where
  pub right : MatchOption r (None ≡ line_of s) (λ b. (line_of s ≡ form_by (find kind_rules (b ∷ [])) (fields_from s 2)) × (1 ≤ length s))

-- a line of this kind, or no line
pub record KindAt (s : List ℕ) (r : Option LineKind) : Type 0 where
  pub right : MatchOption r (None ≡ line_of s) (λ k. (line_of s ≡ form_of (kind_of k) (fields_from s 2)) × (1 ≤ length s))
