-- the commands so far went out, and nothing failed
use Rattle.std.proofs.Common.{◌≡◌, take}
use Rattle.std.specs.Io.KnownBytes.{Appends}
use Rattle.lab_plan.specs.Upgrade.{commands_text}
use Rattle.report.proofs.script.write_commands.Given as goal

abbrev pub invariant-loop-command : goal.invariant-loop-command
invariant-loop-command g l =
    Appends (g.W.Sink.taken l.fn.sink) (g.W.Sink.taken l.sink) (commands_text l.plan (take l.command-index l.commands))
    × (g.W.Sink.failures l.sink ≡ g.W.Sink.failures l.fn.sink)
