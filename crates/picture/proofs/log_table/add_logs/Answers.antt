use Rattle.std.proofs.Common.{◌++◌, List, ap, ◌∙◌}
use Rattle.std.specs.List.{flat_map}
use Rattle.std.proofs.lemmas.List.{take_all}
use Rattle.report_reader.specs.Report.{LogText}
use Rattle.picture.specs.LogTable.{log_lines}
use Rattle.picture.proofs.log_table.add_logs.Goals as goal

pub returns : goal.returns
returns g c = c.loop-log.invariant ∙ ap (λ (l : List LogText). c.args.out.now.items ++ flat_map log_lines l)
    (take_all c.loop-log.log-index c.args.logs.now c.loop-log-test.false)
