use Rattle.std.proofs.Common.{ℕ, sym, ◌∙◌, subst}
use Rattle.lab_plan.specs.LabPlan.{LabPlan}
use Rattle.legal_steps.specs.State.{IsOwn, end_of}
use Rattle.dining_layer.proofs.edges.at_edge_seen.Goals as goal

pub of-here-requires : goal.of-here-requires
of-here-requires g c =
    subst (λ (z : LabPlan × ℕ). IsOwn z.0 z.1 c.args.edge) (λ i. ((c.requires.own.1 ∙ sym c.plan-plan.ensures) i, sym c.job-job.ensures.job i)) c.requires.edge

pub returns-clause-here : goal.returns-clause-here
returns-clause-here g c = c.of-here.ensures.end ∙ (λ i. end_of ((c.plan-plan.ensures ∙ sym c.requires.own.1) i) (c.job-job.ensures.job i) c.args.edge)
