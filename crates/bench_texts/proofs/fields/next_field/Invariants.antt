-- what is left has the line's fields
use Rattle.std.proofs.Common.{◌≡◌, ◌≤◌, length}
use Rattle.script_reader.specs.Fields.{fields}
use Rattle.bench_texts.proofs.fields.next_field.Given as goal

abbrev pub invariant-loop-rest : goal.invariant-loop-rest
invariant-loop-rest l = (fields l.line ≡ fields l.rest) × (length l.rest ≤ length l.line)

abbrev pub decreases-loop-rest : goal.decreases-loop-rest
decreases-loop-rest l = length l.rest
