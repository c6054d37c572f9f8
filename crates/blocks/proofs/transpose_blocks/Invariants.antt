-- The bytes of the first t squares are turned, all others as before.
use Rattle.blocks.specs.Shown.{turned}
use Rattle.blocks.proofs.Squares.{Squares}
use Rattle.blocks.proofs.Directions.{square_of}
use Rattle.blocks.proofs.transpose_blocks.Given as goal

abbrev pub invariant-loop-t : goal.invariant-loop-t
invariant-loop-t l = Squares (square_of l.way) (turned l.way l.input) l.initial.output l.t l.output
