-- the lines of the logs so far
use Rattle.std.proofs.Common.{◌≡◌, ◌++◌, take}
use Rattle.std.specs.List.{flat_map}
use Rattle.picture.specs.LogTable.{log_lines}
use Rattle.picture.proofs.log_table.add_logs.Given as goal

abbrev pub invariant-loop-log : goal.invariant-loop-log
invariant-loop-log g l = l.out.items ≡ l.fn.out.items ++ flat_map log_lines (take l.log-index l.logs)
