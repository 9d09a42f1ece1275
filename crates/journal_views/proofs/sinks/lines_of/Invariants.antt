-- the lines so far
use Rattle.std.proofs.Common.{◌≡◌, take}
use Rattle.written_steps.specs.StepLists.{step_lines}
use Rattle.journal_views.specs.Journals.{bare}
use Rattle.journal_views.proofs.sinks.lines_of.Given as goal

abbrev pub invariant-loop-line : goal.invariant-loop-line
invariant-loop-line g l = l.out.items ≡ step_lines l.plan (bare (take l.line-index l.steps))
