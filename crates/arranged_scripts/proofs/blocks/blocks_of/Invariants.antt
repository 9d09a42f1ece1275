-- the blocks so far, and what is left
use Rattle.std.proofs.Common.{length, map}
use Rattle.bstr.specs.Text.{lines_of}
use Rattle.arranged_scripts.proofs.Cut.{AreCutOff}
use Rattle.arranged_scripts.proofs.blocks.blocks_of.Given as goal

abbrev pub invariant-loop-rest : goal.invariant-loop-rest
invariant-loop-rest g l = AreCutOff (lines_of l.fn.text) (map (λ block. block.now) l.pieces.items) (lines_of l.rest)

abbrev pub decreases-loop-rest : goal.decreases-loop-rest
decreases-loop-rest g l = length l.rest
