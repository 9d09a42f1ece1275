-- the lines so far, with the comments that they end with
use Rattle.std.specs.Prelude.{map}
use Rattle.bstr.specs.Text.{lines_of}
use Rattle.arranged_scripts.proofs.Cut.{IsLooking}
use Rattle.arranged_scripts.proofs.blocks.up_to_job.Given as goal

abbrev pub invariant-loop-line : goal.invariant-loop-line
invariant-loop-line l = IsLooking (lines_of l.fn.text) (map (λ line. line.now) l.yielded) l.line-iterator l.above l.read
