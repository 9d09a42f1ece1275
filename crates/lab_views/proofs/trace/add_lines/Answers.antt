use Rattle.std.proofs.Common.{◌++◌, List, ap, ◌∙◌}
use Rattle.std.specs.List.{flat_map}
use Rattle.std.proofs.lemmas.List.{take_all}
use Rattle.legal_steps.specs.declared.event.Event.{Event}
use Rattle.round_trace.specs.StepsOf.{step_of}
use Rattle.written_steps.specs.StepLists.{step_line}
use Rattle.lab_views.proofs.trace.add_lines.Goals as goal

pub returns : goal.returns
returns g c = c.loop-event.invariant ∙ ap (λ (l : List Event). c.args.out.now.items ++ flat_map (λ event. step_line c.args.plan.now (step_of event)) l)
    (take_all c.loop-event.event-index c.args.events.now c.loop-event-test.false)
