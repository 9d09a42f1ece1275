use Rattle.std.proofs.Common.{map, sym, ap, ◌∙◌, subst}
use Rattle.std.specs.List.{All}
use Rattle.std.specs.Prelude.{IfOk, IfErr}
use Rattle.legal_steps.specs.declared.event.StepLine.{StepLine}
use Rattle.legal_steps.specs.Opening.{the_opening}
use Rattle.legal_steps.specs.Steps.{IsStepOf}
use Rattle.interleaving.specs.World.{WorldView}
use Rattle.interleaving.specs.Start.{at_start}
use Rattle.round_trace.specs.Traces.{GoesOnByRounds, IsNotTraced}
use Rattle.round_trace.proofs.going_on.trace_on.Goals as goal

pub all_events-requires-clause-own : goal.all_events-requires-clause-own
all_events-requires-clause-own g c =
    subst (λ (w : WorldView). All (λ (line : StepLine). IsStepOf w.plan line.step) c.args.steps.now) (sym c.in-Ok.ensures) c.requires

pub all_events-requires-clause-opens : goal.all_events-requires-clause-opens
all_events-requires-clause-opens g c = c.in-Ok.ensures ∙ ap (λ (w : WorldView). at_start w.plan (the_opening w.plan)) (sym c.in-Ok.ensures)

pub returns-clause-goes_on : goal.returns-clause-goes_on
returns-clause-goes_on g c =
    subst (λ (w : WorldView). IfOk c.all_events.result (λ events. GoesOnByRounds w.plan c.args.limit (map (λ line. line.step) c.args.steps.now) events.items))
    c.in-Ok.ensures c.all_events.ensures.goes_on

pub returns-clause-refused : goal.returns-clause-refused
returns-clause-refused g c =
    subst (λ (w : WorldView). IfErr c.all_events.result (IsNotTraced w.plan (map (λ line. line.step) c.args.steps.now))) c.in-Ok.ensures c.all_events.ensures.refused
