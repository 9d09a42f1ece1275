use Rattle.std.proofs.Common.{ℕ, slice_index_or, sym, ap, ◌∙◌, subst}
use borrow.Author.Count.{below_more}
use Rattle.lab_plan.specs.LabPlan.{edges_of}
use Rattle.legal_steps.specs.Legal.{HasNeededAt}
use Rattle.legal_steps.proofs.OwnEdges.{own_at, at_own_edges, get_default}
use Rattle.refused_steps.proofs.marks.missing_bottle.Goals as goal

pub missing_at-requires-clause-own : goal.missing_at-requires-clause-own
missing_at-requires-clause-own g c =
    own_at _ _ _ _ _ (c.edges_of-own.ensures ∙ ap (λ p. edges_of p c.args.job) c.plan.ensures.plan) c.loop-edge-test.true c.edge-item.is

pub loop-edge-preserved : goal.loop-edge-preserved
loop-edge-preserved g c =
    let w = c.args.world.now in
    let own = c.edges_of-own.result.now in
    let Marked : ℕ → Type 0 = λ e. HasNeededAt w.plan w.state c.args.job e in
    below_more (λ k. Marked (slice_index_or own k 0)) c.loop-edge.edge-index c.loop-edge.invariant
    (subst Marked (sym (get_default own c.loop-edge.edge-index c.edge-item.result c.loop-edge-test.true ∙ sym c.edge-item.is)) c.in_default.ensures)

pub returns : goal.returns
returns g c =
    let w = c.args.world.now in
    at_own_edges w.plan c.args.job c.edges_of-own.result.now c.loop-edge.edge-index (HasNeededAt w.plan w.state c.args.job)
    (c.edges_of-own.ensures ∙ ap (λ p. edges_of p c.args.job) c.plan.ensures.plan) c.loop-edge-test.false c.loop-edge.invariant
