use Rattle.std.proofs.Common.{◌++◌, List, ap, ◌∙◌}
use Rattle.std.specs.List.{flat_map}
use Rattle.std.proofs.lemmas.List.{take_all}
use Rattle.block_lines.specs.declared.block.Block.{Block}
use Rattle.round_picture.specs.Keepers.{further_text}
use Rattle.round_picture.proofs.keepers.add_further.Goals as goal

pub returns : goal.returns
returns g c = c.loop-block.invariant ∙ ap (λ (l : List Block). c.args.out.now.items ++ flat_map (further_text c.args.plan.now) l)
    (take_all c.loop-block.block-index c.args.blocks.now c.loop-block-test.false)
