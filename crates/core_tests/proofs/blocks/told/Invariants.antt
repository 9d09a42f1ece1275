-- the blocks so far are of the plan
use Rattle.std.proofs.Common.{ℕ, ◌<◌, slice_index_or}
use Rattle.block_lines.specs.declared.block.Block.{Block}
use Rattle.block_lines.specs.Text.{IsOfPlan}
use Rattle.core_tests.proofs.blocks.told.Given as goal

abbrev pub invariant-loop-block : goal.invariant-loop-block
invariant-loop-block g l = (k : ℕ) (d : Block) → k < l.block-index → IsOfPlan l.plan (slice_index_or l.blocks k d)
