-- the lines of the entries so far
use Rattle.std.proofs.Common.{◌≡◌, ◌+◌, ◌++◌, slice_index_or}
use Rattle.std.specs.List.{flat_map, range_with_len}
use Rattle.picture.specs.LogTable.{entry_line, no_entry}
use Rattle.picture.proofs.log_table.add_log.Given as goal

abbrev pub invariant-loop-place : goal.invariant-loop-place
invariant-loop-place g l =
    l.out.items ≡ l.fn.out.items ++ flat_map (λ k. entry_line l.log.name (k + 1) (slice_index_or l.log.entries k no_entry)) (range_with_len 0 l.place)
