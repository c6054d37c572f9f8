-- What the code's bases, parts and locations stand for, and what is known of a base.
use Rattle.std.specs.Prelude.{Bool, List, ℕ, ◌+◌, ◌≤◌, eqb, Option}
use Rattle.spec.specs.Limits.{type_size_limit}
use Rattle.spec.specs.Ticket.{TypeWord, PlacedLine, Tables, type_at, type_size_by, place_at}
use Rattle.spec.specs.Monad.{Lower, pure, or_refuse, require, ◌>>=◌, ◌>>◌}
use Rattle.spec.specs.Allocation.{type_size}
use Rattle.spec.specs.Allocation as allocation
use Rattle.spec.specs.Places.{ArrayOf, within, base_of, part_of, opaque_rest, resolve_place_base, with_type, resolve_place, location_in}
use Rattle.spec.specs.Places as spec
use Rattle.tables.specs.Tables.{run, type_word, type_args}
use Rattle.tables.specs.Ticket.{ticket_of}
use Rattle.tables.specs.declared.TypeKind.{TypeKind}
use Rattle.tables.specs.declared.lookups.Tables as code
use Rattle.places.specs.declared.found.Part.{Part}
use Rattle.places.specs.declared.found.Base.{Base}
use Rattle.places.specs.declared.found.Location.{Location}

-- ---------------------------------------------------------------- values

-- where a run begins, and how many numbers it has
abbrev pub run_of : List ℕ → ℕ × ℕ → List ℕ
run_of lists r = run lists r.0 r.1

abbrev pub array_from : ℕ × ℕ → ArrayOf
array_from a = record { element = a.0; len = a.1 }

abbrev pub part_from : Part → spec.Part
part_from p = record { offset = p.offset; ty = p.ty }

abbrev pub base_from : List ℕ → Base → spec.Base
base_from lists b =
    record {
      storage = b.storage.0;
      offset = b.offset;
      word = type_word b.kind;
      args = type_args lists b.kind;
      size = b.size;
      is_bit = b.bit;
    }

abbrev pub location_from : Location → allocation.Location
location_from l = record { storage = l.storage.0; offset = l.offset; ty = l.ty; is_bit = l.bit }

-- ---------------------------------------------------------------- steps behind a base

-- what a variable's, a static's or a part's base is
abbrev pub typed_base : Tables → ℕ → ℕ → ℕ → Bool → spec.Base
typed_base T storage offset ty bit =
    record {
      storage = storage;
      offset = offset;
      word = (type_at T ty).word;
      args = (type_at T ty).args;
      size = type_size T ty;
      is_bit = bit;
    }

abbrev pub part_step : Tables → spec.Base → spec.Part → Lower spec.Base
part_step T b f = do
  within (b.offset + f.offset)
  pure (part_of T b f)

abbrev pub rest_step : Tables → spec.Base → ℕ → Lower spec.Base
rest_step T b n = do
  within (b.offset + n)
  pure (opaque_rest T b n)

abbrev pub part_located : Tables → ℕ → spec.Base → spec.Part → Lower allocation.Location
part_located T ty b f = do
  require 22 (eqb f.ty ty)
  location_in T b f.offset ty

-- a variable or a static, where there is one
abbrev pub placed_step : Tables → Option PlacedLine → Lower spec.Base
placed_step T o = do
  p ← or_refuse 20 o
  pure (base_of T p)

abbrev pub placed_located : Tables → ℕ → Option PlacedLine → Lower allocation.Location
placed_located T ty o = do
  p ← or_refuse 20 o
  with_type T ty p

-- place line p, as deep as d
abbrev pub base_at : Tables → ℕ → ℕ → Lower spec.Base
base_at T d p = resolve_place_base T (place_at d T p)

abbrev pub location_at : Tables → ℕ → ℕ → ℕ → Lower allocation.Location
location_at T d p ty = resolve_place T (place_at d T p) ty

-- ---------------------------------------------------------------- what is known of a base's type: sums of its parts' sizes do not wrap

pub record Held (T : Tables) (w : TypeWord) (xs : List ℕ) : Type 0 where
  pub most : type_size_by (type_size T) w xs ≤ type_size_limit

abbrev pub IsHeld : code.Tables → TypeKind → Type 0
IsHeld t k = Held (ticket_of t.lines) (type_word k) (type_args t.lines.lists.now k)
