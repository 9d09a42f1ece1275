use Rattle.std.proofs.Common.{◌≡◌, true, sym, ap, ◌∙◌}
use Rattle.lab_plan.specs.LabPlan.{edges_of}
use Rattle.legal_steps.specs.State.{fork_mark}
use Rattle.legal_steps.proofs.OwnEdges.{own_at, at_own_edges}
use Rattle.refused_steps.proofs.marks.unmarked_edge.Goals as goal

pub fork_mark-requires : goal.fork_mark-requires
fork_mark-requires g c = own_at _ _ _ _ _ (c.edges_of-own.ensures ∙ ap (λ p. edges_of p c.args.job) c.plan.ensures.plan) c.loop-edge-test.true c.edge-item.is

pub returns-then-not-fork_mark : goal.returns-then-not-fork_mark
returns-then-not-fork_mark g c = record {
  own = own_at _ _ _ _ _ (c.edges_of-own.ensures ∙ ap (λ p. edges_of p c.args.job) c.plan.ensures.plan) c.loop-edge-test.true c.edge-item.is;
  no_mark = sym c.fork_mark.ensures ∙ c.if-not-fork_mark.true;
}

pub returns : goal.returns
returns g c =
    let w = c.args.world.now in
    at_own_edges w.plan c.args.job c.edges_of-own.result.now c.loop-edge.edge-index (λ e. fork_mark w.state c.args.job e ≡ true)
    (c.edges_of-own.ensures ∙ ap (λ p. edges_of p c.args.job) c.plan.ensures.plan) c.loop-edge-test.false c.loop-edge.invariant
