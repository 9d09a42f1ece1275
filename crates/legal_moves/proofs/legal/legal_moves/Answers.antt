use Rattle.std.proofs.Common.{◌≡◌, ◌<◌, ◌++◌, ◌∷◌, [], ◌+◌, refl, length, take, slice_index_or, ap, sym, ◌∙◌, subst}
use Rattle.std.specs.List.{All}
use Rattle.std.proofs.lemmas.List.Elements.{All-push}
use Rattle.std.proofs.lemmas.Bool.{false≢true}
use Rattle.legal_steps.specs.Steps.{IsStepOf}
use Rattle.legal_steps.specs.Legal.{May}
use Rattle.legal_moves.specs.Moves.{all_moves, Keeps, IsLegalNow}
use Rattle.legal_moves.proofs.Lists.{keeps_more, keeps_less}
use Rattle.legal_moves.proofs.OfPlan.{of_plan_at}
use Rattle.legal_moves.proofs.legal.legal_moves.Goals as goal
use Rattle.legal_moves.proofs.legal.legal_moves.Goals.{then-enabled+in_ok-push, else-enabled}

pub event_of-event-requires : goal.event_of-event-requires
event_of-event-requires g c =
    of_plan_at c.args.world.now.plan _ c.loop-step.step-index c.step-item.result
    (c.deref-step-items.ensures.value ∙ c.in_ok-all.ensures ∙ ap all_moves c.plan.ensures.plan) c.loop-step-test.true c.step-item.is

pub loop-step-preserved : goal.loop-step-preserved
loop-step-preserved g c =
    let w = c.args.world.now in
    let i = c.loop-step.step-index in
    let x = c.step-item.result in
    let same = c.deref-step-items.ensures.value ∙ c.in_ok-all.ensures ∙ ap all_moves c.plan.ensures.plan in
    let inside : i < length (all_moves w.plan) = subst (λ t. i < length t) same c.loop-step-test.true in
    let is : x ≡ slice_index_or (all_moves w.plan) i x = subst (λ t. x ≡ slice_index_or t i x) same c.step-item.is in
    elim c.if-enabled.branch [
      | then-enabled+in_ok-push b ↦
          let grown : c.if-enabled.moves.items ≡ c.loop-step.moves.items ++ x ∷ [] = cc (b.in_ok-push.ensures.items, b.moves-is) in
          let may : IsLegalNow w.plan w.state x = subst (May w.plan w.state) c.event_of-event.ensures (c.enabled.ensures.0 b.if-enabled.true) in
          record {
            kept = subst (Keeps (IsLegalNow w.plan w.state) (take (i + 1) (all_moves w.plan))) (sym grown)
                (keeps_more (IsLegalNow w.plan w.state) (all_moves w.plan) c.loop-step.moves.items i x inside is may c.loop-step.invariant.kept);
            of_plan = subst (All (IsStepOf w.plan)) (sym grown)
                (All-push (IsStepOf w.plan) c.loop-step.moves.items x c.loop-step.invariant.of_plan (of_plan_at w.plan (all_moves w.plan) i x refl inside is));
          }
      | else-enabled b ↦
          let kept : c.if-enabled.moves.items ≡ c.loop-step.moves.items = cc (b.moves-is) in
          let no : ¬ IsLegalNow w.plan w.state x =
          λ may. false≢true (sym b.if-enabled.false ∙ c.enabled.ensures.1 (subst (May w.plan w.state) (sym c.event_of-event.ensures) may)) in
          record {
            kept = subst (Keeps (IsLegalNow w.plan w.state) (take (i + 1) (all_moves w.plan))) (sym kept)
                (keeps_less (IsLegalNow w.plan w.state) (all_moves w.plan) c.loop-step.moves.items i x inside is no c.loop-step.invariant.kept);
            of_plan = subst (All (IsStepOf w.plan)) (sym kept) c.loop-step.invariant.of_plan;
          }
    ]
