-- What a map's ticket reads as, and what it is to open valves: a run of the listing leaves the valves open that were, and those named.
use Rattle.std.specs.Prelude.{◌||◌, ℕ, ◌-◌, ◌/◌, ◌%◌, ◌^◌, ◌≤◌, ◌<◌, List, ◌∷◌, map, [], ◌≡◌, eqb}
use Rattle.std.specs.Prelude.{Some}
use Rattle.numerics.specs.Numerics.{truth}
use Rattle.spec.specs.Ticket.{Tables, t_bool, t_pointer, t_bits, p_variable, n_read, n_int, n_binary}
use Rattle.spec.specs.Lir.{Listing, stored}
use Rattle.spec.specs.Allocation.{bytes_from}
use Rattle.spec.specs.Machine.{Memory, Given, le, operands, run}
use Rattle.spec.specs.Eval.{number, data_of}
use Rattle.spec.specs.ReadBack.{read_listing}
use Rattle.spec.specs.Answer.{member}
use Rattle.valves.specs.Tickets.{bytes_for}

-- ---------------------------------------------------------------- the tables

-- the lines of `ticket_text N m`
unfoldable pub tables : ℕ → ℕ → Tables
tables N m =
    record {
      function = 0;
      next = 0;
      types =
          record { word = t_bool; args = []; size = 1; weight = 1; depth = 1 } ∷
          record { word = t_pointer; args = []; size = 2; weight = 1; depth = 1 } ∷
          record { word = t_bits; args = N ∷ []; size = bytes_for N; weight = 1; depth = 1 } ∷
          [];
      storages = record { kind = 2; len = bytes_for N; owner = 1; regions = 36 } ∷ [];
      variables = record { storage = 0; offset = 0; type = 2; bit = 0 } ∷ [];
      statics = [];
      places = record { word = p_variable; args = 0 ∷ []; line = 7; depth = 1 } ∷ [];
      nodes =
          record { type = 2; word = n_read; args = 0 ∷ []; line = 8; depth = 2 } ∷
          record { type = 2; word = n_int; args = m ∷ []; line = 9; depth = 1 } ∷
          record { type = 2; word = n_binary; args = 8 ∷ 0 ∷ 1 ∷ []; line = 10; depth = 3 } ∷
          [];
    }

-- ---------------------------------------------------------------- running

-- valve v's bit of a number
unfoldable pub valve_in : ℕ → ℕ → ℕ
valve_in v n = n / 2 ^ (v - 1) % 2

-- the number that variable 0 holds
unfoldable pub held : Memory → ℕ → ℕ
held M N = le (operands M (map stored (bytes_from 0 0 (bytes_for N))))

-- the bytes s as a listing, run in M, leave a number of N bits: valve v is open in it exactly if it was open, or is named; the storage itself is
-- as it was
pub record Opens (N : ℕ) (vs : List ℕ) (G : Given) (M : Memory) (s : List ℕ) : Type 0 where
  pub listing : Listing
  pub reads : read_listing s ≡ Some listing
  pub after : Memory
  pub runs : run G listing.instructions M ≡ Some after
  pub result : ℕ
  pub value : data_of after listing.value ≡ number (bytes_for N) result
  pub bound : result < 2 ^ N
  pub opens : (v : ℕ) → 1 ≤ v → v ≤ N → valve_in v result ≡ truth (eqb (valve_in v (held M N)) 1 || member v vs)
  pub bytes : (o : ℕ) → after.byte 0 o ≡ M.byte 0 o
