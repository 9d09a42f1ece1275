use Rattle.std.proofs.Common.{◌≡◌, [], map, take}
use Rattle.blocking.specs.Blocks.{block_of}
use Rattle.blocking.proofs.counted.fresh_blocks.Given as goal

abbrev pub invariant-loop-place : goal.invariant-loop-place
invariant-loop-place g l = l.blocks.items ≡ map (block_of l.plan []) (take l.place-index l.places)
