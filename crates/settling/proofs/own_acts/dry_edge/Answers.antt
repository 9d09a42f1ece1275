use Rattle.std.proofs.Common.{sym, ap, ◌∙◌}
use Rattle.std.proofs.lemmas.Bool.{false≢true}
use Rattle.lab_plan.specs.LabPlan.{LabPlan, edges_of}
use Rattle.legal_steps.specs.Legal.{HasNeededAt}
use Rattle.legal_steps.proofs.OwnEdges.{own_at, at_own_edges}
use Rattle.settling.proofs.own_acts.dry_edge.Goals as goal

pub has_needed_at-requires-clause-own : goal.has_needed_at-requires-clause-own
has_needed_at-requires-clause-own g c = own_at _ _ _ _ _ (c.edges_of-own.ensures ∙ ap (λ (q : LabPlan). edges_of q c.args.job) c.plan.ensures.plan) c.loop-edge-test.true c.edge-item.is

pub returns-then-not-has_needed_at-clause-some : goal.returns-then-not-has_needed_at-clause-some
returns-then-not-has_needed_at-clause-some g c all =
    false≢true (sym c.if-not-has_needed_at.true ∙ c.has_needed_at.ensures.1 (all _ (own_at _ _ _ _ _ (c.edges_of-own.ensures
    ∙ ap (λ (q : LabPlan). edges_of q c.args.job) c.plan.ensures.plan) c.loop-edge-test.true c.edge-item.is)))

pub returns-clause-none : goal.returns-clause-none
returns-clause-none g c =
    at_own_edges c.args.world.now.plan c.args.job c.edges_of-own.result.now c.loop-edge.edge-index (HasNeededAt c.args.world.now.plan c.args.world.now.state c.args.job)
    (c.edges_of-own.ensures ∙ ap (λ (q : LabPlan). edges_of q c.args.job) c.plan.ensures.plan) c.loop-edge-test.false c.loop-edge.invariant
