-- the lines so far, and those that are left
use Rattle.std.proofs.Common.{◌≡◌, ◌++◌, length}
use Rattle.std.specs.List.{flat_map}
use Rattle.script_reader.specs.Fields.{fields}
use Rattle.bench_texts.specs.Lines.{read_line}
use Rattle.bench_texts.proofs.texts.add_reads.Given as goal

abbrev pub invariant-loop-name : goal.invariant-loop-name
invariant-loop-name g l = l.fn.out.items ++ flat_map read_line (fields l.fn.names) ≡ l.out.items ++ flat_map read_line (fields l.rest)

abbrev pub decreases-loop-name : goal.decreases-loop-name
decreases-loop-name g l = length l.rest
