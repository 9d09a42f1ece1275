use Rattle.std.proofs.Common.{◌+◌, ◌∙◌, ap}
use Rattle.lab_plan.specs.Upgrade.{command_text}
use Rattle.report.proofs.Prefixes.{each_goes, each_stops, writes_err}
use Rattle.report.proofs.script.write_commands.Goals as goal

pub returns-in_err-write_command : goal.returns-in_err-write_command
returns-in_err-write_command g c =
    writes_err _ _ _ _ _ _ c.from_residual.ensures.0
    (each_stops (command_text c.args.plan.now) c.args.commands.now c.loop-command.command-index c.command-item.result c.command-item.result _ _ _
    c.loop-command-test.true c.command-item.is c.loop-command.invariant.0 c.in_err-write_command.ensures.0)
    (c.in_err-write_command.ensures.1 ∙ ap (λ n. n + 1) c.loop-command.invariant.1)

pub loop-command-preserved : goal.loop-command-preserved
loop-command-preserved g c = (
  each_goes (command_text c.args.plan.now) c.args.commands.now c.loop-command.command-index c.command-item.result c.command-item.result _ _ _
      c.loop-command-test.true c.command-item.is c.loop-command.invariant.0 c.in_ok-write_command.ensures.0,
  c.in_ok-write_command.ensures.1 ∙ c.loop-command.invariant.1,
)
