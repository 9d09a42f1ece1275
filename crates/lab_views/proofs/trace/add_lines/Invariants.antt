use Rattle.std.proofs.Common.{◌≡◌, ◌++◌, take}
use Rattle.std.specs.List.{flat_map}
use Rattle.round_trace.specs.StepsOf.{step_of}
use Rattle.written_steps.specs.StepLists.{step_line}
use Rattle.lab_views.proofs.trace.add_lines.Given as goal

abbrev pub invariant-loop-event : goal.invariant-loop-event
invariant-loop-event g l = l.out.items ≡ l.fn.out.items ++ flat_map (λ event. step_line l.plan (step_of event)) (take l.event-index l.events)
