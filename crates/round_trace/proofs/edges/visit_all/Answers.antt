use Rattle.std.proofs.Common.{◌≡◌, ◌<◌, ◌+◌, ◌∷◌, [], ◌++◌, ℕ, List, length, take, arith, sym, ap, ◌∙◌, subst}
use Rattle.std.proofs.lemmas.List.{take_more}
use Rattle.lab_plan.specs.LabPlan.{LabPlan, edges_of}
use Rattle.legal_steps.specs.State.{IsOwn}
use Rattle.legal_steps.proofs.OwnEdges.{own_at}
use Rattle.round_trace.specs.Doing.{VisitsEdges}
use Rattle.round_trace.proofs.Visiting.{visits_both}
use Rattle.round_trace.proofs.edges.visit_all.Goals as goal

pub visit-requires : goal.visit-requires
visit-requires g c =
    let w = c.args.world.now in
    let own = c.edges_of.result.now in
    let edges_in = λ (p : LabPlan). edges_of p c.args.job in
    let same : own ≡ edges_in w.plan =
    c.edges_of.ensures ∙ ap edges_in (c.plan-in-loop-place.ensures.plan ∙ c.loop-place.invariant.does.same_plan) in
    let all : c.edges_of-place-end.result.now ≡ edges_in w.plan = c.edges_of-place-end.ensures ∙ ap edges_in c.plan.ensures.plan in
    let inside : c.loop-place.place < length own = omega (arith, ap length same, ap length all, c.loop-place-test.true) in
    subst (λ (p : LabPlan). IsOwn p c.args.job c.index-edges_of-place.result) (sym c.loop-place.invariant.does.same_plan)
    (own_at w.plan c.args.job own c.loop-place.place c.index-edges_of-place.result same inside c.index-edges_of-place.is)

pub loop-place-preserved : goal.loop-place-preserved
loop-place-preserved g c =
    let w = c.args.world.now in
    let k = c.loop-place.place in
    let own = c.edges_of.result.now in
    let edges_in = λ (p : LabPlan). edges_of p c.args.job in
    let same : own ≡ edges_in w.plan =
    c.edges_of.ensures ∙ ap edges_in (c.plan-in-loop-place.ensures.plan ∙ c.loop-place.invariant.does.same_plan) in
    let all : c.edges_of-place-end.result.now ≡ edges_in w.plan = c.edges_of-place-end.ensures ∙ ap edges_in c.plan.ensures.plan in
    let inside : k < length own = omega (arith, ap length same, ap length all, c.loop-place-test.true) in
    let edge = c.index-edges_of-place.result in
    let more : take k (edges_in w.plan) ++ edge ∷ [] ≡ take (k + 1) (edges_in w.plan) = subst (λ (l : List ℕ). take k l ++ edge ∷ [] ≡ take (k + 1) l) same
    (ap (λ (n : ℕ). take k own ++ n ∷ []) c.index-edges_of-place.is ∙ sym (take_more own k edge inside)) in
    subst (λ (l : List ℕ). VisitsEdges w c.args.events.now.items c.args.job l c.visit.new.world c.visit.new.events.items) more
    (visits_both c.args.job w c.loop-place.world c.visit.new.world c.args.events.now.items c.loop-place.events.items c.visit.new.events.items
    (take k (edges_in w.plan)) (edge ∷ []) c.loop-place.invariant c.in_ok-visit.ensures)
