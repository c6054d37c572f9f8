-- `addressing::allocate_pointer` meets its contract: a storage of two bytes.
use native.Mathlib.Omega.{arith}
use Rattle.emission.specs.Temporaries.{place_bytes}
use Rattle.addressing.proofs.allocate_pointer.Goals as goal

pub returns : goal.returns
returns c = place_bytes 2 (λ z. omega arith) (λ z. omega arith) c.allocate_storage.ensures
