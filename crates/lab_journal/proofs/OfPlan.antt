-- Kept events are of the plan.
use Rattle.std.proofs.Common.{◌≡◌, true, ◌++◌, subst, length}
use Rattle.std.specs.List.{All}
use Rattle.std.proofs.lemmas.List.Elements.{All-drop}
use Rattle.std.proofs.lemmas.List.{drop_at}
use Rattle.std.proofs.Common.{refl}
use Rattle.legal_steps.specs.declared.event.Event.{Event}
use Rattle.interleaving.specs.Kept.{IsKept}
use Rattle.interleaving.specs.World.{WorldView, IsReachedBy}
use Rattle.legal_steps.specs.Steps.{IsStepOf}
use Rattle.round_trace.specs.StepsOf.{step_of, StepsAreOfPlan}

pub kept_of_plan : StepsAreOfPlan → (w : WorldView) → IsReachedBy w.plan w.opening w.past w.state w.counts → IsKept w.past w.kept → w.kept.whole ≡ true
    → All (λ (event : Event). IsStepOf w.plan (step_of event)) w.kept.events
kept_of_plan of_plan w by kept whole =
    let ends = kept whole in
    let Own : Event → Type 0 = λ event. IsStepOf w.plan (step_of event) in
    subst (All Own) (drop_at ends.0 w.kept.events (length ends.0) refl)
    (All-drop Own (length ends.0) (ends.0 ++ w.kept.events) (subst (All Own) ends.1 (of_plan w.plan w.opening w.past by.run.legal)))
