-- the commands so far
use Rattle.std.proofs.Common.{◌≡◌, ◌++◌, take}
use Rattle.std.specs.List.{flat_map}
use Rattle.journal_texts.specs.More.{more_command}
use Rattle.journal_texts.proofs.more.add_commands.Given as goal

abbrev pub invariant-loop-command : goal.invariant-loop-command
invariant-loop-command g l = l.out.items ≡ l.fn.out.items ++ flat_map (more_command l.plan) (take l.command-index l.commands)
