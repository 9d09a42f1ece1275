use Rattle.std.proofs.Common.{List, sym, subst}
use Rattle.std.specs.List.{All}
use Rattle.lab_plan.specs.LabPlan.{LabPlan}
use Rattle.legal_steps.specs.declared.event.Event.{Event}
use Rattle.legal_steps.specs.Steps.{IsStepOf}
use Rattle.round_trace.specs.StepsOf.{step_of}
use Rattle.lab_journal.proofs.OfPlan.{kept_of_plan}
use Rattle.lab_journal.proofs.written.journal.Goals as goal

pub journal_text-requires : goal.journal_text-requires
journal_text-requires c =
    let w = c.world-world.result.now in
    subst (λ (z : LabPlan × List Event). All (λ (event : Event). IsStepOf z.0 (step_of event)) z.1) (λ i. (sym c.plan.ensures.plan i, sym c.kept-2.ensures i))
    (kept_of_plan c.steps_are_of_plan.ensures w c.plan.ensures.past c.plan.ensures.kept (sym c.if-not-is_whole.ensures))
