use Rattle.std.proofs.Common.{map}
use Rattle.valves.proofs.Lists.{Passed}
use Rattle.valves.proofs.board.Board.list_map.Given as goal

abbrev pub invariant-loop-field : goal.invariant-loop-field
invariant-loop-field l = Passed l.self.valves l.last l.m (map (λ x. x.now) l.yielded)
