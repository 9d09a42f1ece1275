use Rattle.std.proofs.Common.{ap, ◌∙◌}
use Rattle.blocking.specs.Owing.{cleared}
use Rattle.blocking.proofs.Changing.{one_mapped, all_mapped}
use Rattle.blocking.proofs.sides.clear.Goals as goal

pub loop-at-preserved : goal.loop-at-preserved
loop-at-preserved c =
    one_mapped cleared c.args.blocks.now c.loop-at.blocks c.loop-at.at c.index-blocks-at.result c.cleared.result c.loop-at-test.true c.loop-at.invariant
    (c.cleared.ensures ∙ ap cleared c.index-blocks-at.is)

pub returns : goal.returns
returns c = c.loop-at.invariant ∙ all_mapped cleared c.args.blocks.now c.loop-at.at c.loop-at-test.false
