-- the head, and the blocks of the jobs so far
use Rattle.std.proofs.Common.{◌≡◌, ◌++◌, [], map, take, slice_index_or}
use Rattle.std.specs.List.{flat_map}
use Rattle.arranged_scripts.proofs.blocks.joined.Given as goal

abbrev pub invariant-loop-job : goal.invariant-loop-job
invariant-loop-job g l =
    l.text.items ≡ l.head ++ flat_map (λ job. slice_index_or (map (λ block. block.now) l.blocks) job []) (take l.job-index l.order)
