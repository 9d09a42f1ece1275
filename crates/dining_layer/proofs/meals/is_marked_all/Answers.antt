use Rattle.std.proofs.Common.{◌≡◌, true, ◌∙◌, sym, refl}
use Rattle.std.proofs.lemmas.Bool.{false≢true}
use Rattle.lab_plan.specs.LabPlan.{edges_of}
use Rattle.legal_steps.specs.State.{fork_mark}
use Rattle.edge_rule.specs.DeskView.{known}
use Rattle.legal_steps.proofs.OwnEdges.{own_at, at_own_edges}
use Rattle.dining_layer.proofs.meals.is_marked_all.Goals as goal

pub fork_mark-requires : goal.fork_mark-requires
fork_mark-requires g c =
    (own_at _ _ _ _ _ (c.edges_of-own.ensures ∙ (λ i. edges_of ((c.plan-plan.ensures ∙ sym c.requires.own.1) i) (c.job-job.ensures.job i)))
    c.loop-edge-test.true c.edge-item.is).is_edge

pub returns-then-not-fork_mark : goal.returns-then-not-fork_mark
returns-then-not-fork_mark g c = (
  λ t. absurd (false≢true t),
  λ all. sym c.if-not-fork_mark.true
      ∙ (c.fork_mark.ensures
      ∙ all _ (own_at _ _ _ _ _ (c.edges_of-own.ensures ∙ (λ i. edges_of ((c.plan-plan.ensures ∙ sym c.requires.own.1) i) (c.job-job.ensures.job i)))
      c.loop-edge-test.true c.edge-item.is)),
)

pub returns : goal.returns
returns g c = (
  λ t. at_own_edges c.args.desk.now.plan c.args.desk.now.job c.edges_of-own.result.now c.loop-edge.edge-index
      (λ e. fork_mark (known c.args.desk.now) c.args.desk.now.job e ≡ true)
      (c.edges_of-own.ensures ∙ (λ i. edges_of ((c.plan-plan.ensures ∙ sym c.requires.own.1) i) (c.job-job.ensures.job i)))
      c.loop-edge-test.false c.loop-edge.invariant,
  λ all. refl,
)
