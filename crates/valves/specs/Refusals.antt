-- The number of each refusal, as the request has it.
use Rattle.std.specs.Prelude.{ℕ}
use Rattle.valves.specs.declared.refusal.Refusal.{Refusal}

abbrev pub refusal_number : Refusal → ℕ
refusal_number Refusal.BadMap = 35
refusal_number Refusal.BadMask = 36
refusal_number Refusal.LongTicket = 28
