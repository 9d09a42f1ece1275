use Rattle.std.proofs.Common.{◌≡◌, true, sym, ap, ◌∙◌}
use Rattle.std.proofs.lemmas.Bool.{false≢true}
use Rattle.lab_plan.specs.LabPlan.{LabPlan, edges_of}
use Rattle.legal_steps.specs.State.{fork_mark}
use Rattle.legal_steps.proofs.OwnEdges.{own_at, at_own_edges}
use Rattle.settling.proofs.own_acts.bare_edge.Goals as goal

pub fork_mark-requires : goal.fork_mark-requires
fork_mark-requires g c = own_at _ _ _ _ _ (c.edges_of-own.ensures ∙ ap (λ (q : LabPlan). edges_of q c.args.job) c.plan.ensures.plan) c.loop-edge-test.true c.edge-item.is

pub returns-then-not-fork_mark-clause-some : goal.returns-then-not-fork_mark-clause-some
returns-then-not-fork_mark-clause-some g c all =
    false≢true (sym c.if-not-fork_mark.true ∙ (c.fork_mark.ensures ∙ all _ (own_at _ _ _ _ _ (c.edges_of-own.ensures
    ∙ ap (λ (q : LabPlan). edges_of q c.args.job) c.plan.ensures.plan) c.loop-edge-test.true c.edge-item.is)))

pub returns-clause-none : goal.returns-clause-none
returns-clause-none g c =
    at_own_edges c.args.world.now.plan c.args.job c.edges_of-own.result.now c.loop-edge.edge-index (λ e. fork_mark c.args.world.now.state c.args.job e ≡ true)
    (c.edges_of-own.ensures ∙ ap (λ (q : LabPlan). edges_of q c.args.job) c.plan.ensures.plan) c.loop-edge-test.false c.loop-edge.invariant
