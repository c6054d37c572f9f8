-- Document 01's limits as document 02 raises them, each named once.
use Rattle.std.specs.Prelude.{ℕ}

-- 1: bytes of a text
abbrev pub text_limit : ℕ
text_limit = 65536

-- 8: lines of a kind
abbrev pub type_lines : ℕ
type_lines = 256

abbrev pub storage_lines : ℕ
storage_lines = 256

abbrev pub variable_lines : ℕ
variable_lines = 64

abbrev pub static_lines : ℕ
static_lines = 64

abbrev pub place_lines : ℕ
place_lines = 1024

abbrev pub node_lines : ℕ
node_lines = 1024

-- 3: FUNCTION, NEXT, lengths, offsets, REGIONS, and numbers of 32 and of 64 bits
abbrev pub greatest_16 : ℕ
greatest_16 = 65535

abbrev pub all_regions : ℕ
all_regions = 511

abbrev pub greatest_32 : ℕ
greatest_32 = 4294967295

abbrev pub greatest_64 : ℕ
greatest_64 = 18446744073709551615

-- 6: a type's bytes and weight
abbrev pub type_size_limit : ℕ
type_size_limit = 1024

abbrev pub type_weight_limit : ℕ
type_weight_limit = 4096

-- 9: depth of places and nodes, and of types
abbrev pub depth_limit : ℕ
depth_limit = 64

abbrev pub type_depth_limit : ℕ
type_depth_limit = 16

-- 10: the sums over nodes of their types' sizes and weights
abbrev pub size_sum_limit : ℕ
size_sum_limit = 8192

abbrev pub weight_sum_limit : ℕ
weight_sum_limit = 8192

-- 26: bytes of an integer constant
abbrev pub constant_limit : ℕ
constant_limit = 16

-- 27: a place's offset
abbrev pub offset_limit : ℕ
offset_limit = 65535
