-- those that are left
use Rattle.std.proofs.Common.{◌≡◌, length}
use Rattle.std.specs.List.{list_all}
use Rattle.lab_plan.specs.Names.{is_name}
use Rattle.script_reader.specs.Fields.{fields}
use Rattle.bench_texts.proofs.fields.all_names.Given as goal

abbrev pub invariant-loop-name : goal.invariant-loop-name
invariant-loop-name l = list_all is_name (fields l.line) ≡ list_all is_name (fields l.rest)

abbrev pub decreases-loop-name : goal.decreases-loop-name
decreases-loop-name l = length l.rest
