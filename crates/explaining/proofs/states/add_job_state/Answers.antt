use Rattle.std.proofs.Common.{◌≡◌, ◌<◌, ◌≤◌, length, slice_index_or, ap, subst, ◌∙◌}
use Rattle.lab_plan.specs.LabPlan.{edges_of}
use Rattle.legal_steps.proofs.OwnEdges.{own_at}
use Rattle.legal_moves.proofs.Lists.{adds_more, adds_all}
use Rattle.explaining.specs.StateTexts.{phase_line, edge_text, job_text}
use Rattle.explaining.proofs.states.add_job_state.Goals as goal

pub add_edge-requires : goal.add_edge-requires
add_edge-requires g c = own_at _ _ _ _ _ (c.edges_of-edge-items.ensures ∙ ap (λ p. edges_of p c.args.job) c.plan.ensures.plan) c.loop-edge-test.true
    c.edge-item.is

pub loop-edge-preserved : goal.loop-edge-preserved
loop-edge-preserved g c =
    let w = c.args.world.now in
    let i = c.loop-edge.edge-index in
    let e = c.edge-item.result in
    let same = c.edges_of-edge-items.ensures ∙ ap (λ p. edges_of p c.args.job) c.plan.ensures.plan in
    let inside : i < length (edges_of w.plan c.args.job) = subst (λ t. i < length t) same c.loop-edge-test.true in
    let is : e ≡ slice_index_or (edges_of w.plan c.args.job) i e = subst (λ t. e ≡ slice_index_or t i e) same c.edge-item.is in
    adds_more (edge_text w.plan w.state c.args.job) (edges_of w.plan c.args.job) i e _ _ _ inside is c.loop-edge.invariant c.in_ok-add_edge.ensures

pub returns : goal.returns
unfolding job_text
returns g c =
    let w = c.args.world.now in
    let same = c.edges_of-edge-items.ensures ∙ ap (λ p. edges_of p c.args.job) c.plan.ensures.plan in
    let past : length (edges_of w.plan c.args.job) ≤ c.loop-edge.edge-index = subst (λ t. length t ≤ c.loop-edge.edge-index) same c.loop-edge-test.false in
    adds_all (edge_text w.plan w.state c.args.job) (edges_of w.plan c.args.job) c.loop-edge.edge-index _
    (phase_line w.plan w.state c.args.job) _ past c.loop-edge.invariant
