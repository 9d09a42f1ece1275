use Rattle.std.proofs.Common.{◌∙◌, sym, refl}
use Rattle.std.proofs.lemmas.Bool.{false≢true}
use Rattle.lab_plan.specs.LabPlan.{edges_of}
use Rattle.legal_steps.specs.Legal.{HasNeededAt}
use Rattle.edge_rule.specs.DeskView.{known}
use Rattle.legal_steps.proofs.OwnEdges.{own_at, at_own_edges}
use Rattle.drinking_layer.proofs.drinks.has_needed.Goals as goal

pub has_needed_at-requires : goal.has_needed_at-requires
has_needed_at-requires g c =
    own_at _ _ _ _ _ (c.edges_of-own.ensures ∙ (λ i. edges_of ((c.plan-plan.ensures ∙ sym c.requires.own.1) i) (c.job-job.ensures.job i)))
    c.loop-edge-test.true c.edge-item.is

pub returns-then-not-has_needed_at : goal.returns-then-not-has_needed_at
returns-then-not-has_needed_at g c = (
  λ t. absurd (false≢true t),
  λ all. c.if-not-has_needed_at.ensures.1
      (all _ (own_at _ _ _ _ _ (c.edges_of-own.ensures ∙ (λ i. edges_of ((c.plan-plan.ensures ∙ sym c.requires.own.1) i) (c.job-job.ensures.job i)))
      c.loop-edge-test.true c.edge-item.is)),
)

pub returns : goal.returns
returns g c = (
  λ t. at_own_edges c.args.desk.now.plan c.args.desk.now.job c.edges_of-own.result.now c.loop-edge.edge-index
      (HasNeededAt c.args.desk.now.plan (known c.args.desk.now) c.args.desk.now.job)
      (c.edges_of-own.ensures ∙ (λ i. edges_of ((c.plan-plan.ensures ∙ sym c.requires.own.1) i) (c.job-job.ensures.job i)))
      c.loop-edge-test.false c.loop-edge.invariant,
  λ all. refl,
)
