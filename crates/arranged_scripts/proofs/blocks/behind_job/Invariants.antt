-- the comments so far, above the block's job line
use Rattle.std.specs.Prelude.{map}
use Rattle.bstr.specs.Text.{lines_of}
use Rattle.arranged_scripts.proofs.Cut.{IsAtBlock}
use Rattle.arranged_scripts.proofs.blocks.behind_job.Given as goal

abbrev pub invariant-loop-line : goal.invariant-loop-line
invariant-loop-line l = IsAtBlock (lines_of l.fn.text) (map (λ line. line.now) l.yielded) l.line-iterator l.read
