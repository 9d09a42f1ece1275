-- those counted, and those that are left
use Rattle.std.proofs.Common.{◌≡◌, ◌+◌, ◌≤◌, length}
use Rattle.script_reader.specs.Fields.{fields}
use Rattle.bench_texts.proofs.fields.count.Given as goal

abbrev pub invariant-loop-more : goal.invariant-loop-more
invariant-loop-more l = (length (fields l.line) ≡ l.n + length (fields l.rest)) × (l.n + length l.rest ≤ length l.line)

abbrev pub decreases-loop-more : goal.decreases-loop-more
decreases-loop-more l = length l.rest
