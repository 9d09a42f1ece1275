use Rattle.std.proofs.Common.{◌≡◌, length, sym, ap, ◌∙◌, subst}
use Rattle.std.proofs.lemmas.Bool.{false≢true}
use Rattle.lab_plan.specs.LabPlan.{LabPlan}
use Rattle.edge_rule.specs.DeskView.{BenchView}
use Rattle.edge_rule.specs.Ending.{HasEach}
use Rattle.edge_rule.proofs.bench.Bench.has_all.Goals as goal

pub returns-then-has_each : goal.returns-then-has_each
returns-then-has_each g0 c =
    let n : c.jobs.result ≡ length c.args.self.now.plan.jobs =
    c.jobs.ensures.jobs ∙ (ap (λ (z : LabPlan). length z.jobs) (sym c.self.invariant.plan) ∙ ap (λ (z : BenchView). length z.plan.jobs) c.self.view_is) in (
      λ t. record { every = subst (λ z. HasEach z c.args.desks.now) n (c.has_each.ensures.0 c.if-has_each.true); once = c.are_apart.ensures.0 t },
      λ all. c.are_apart.ensures.1 all.once,
    )

pub returns-else-has_each : goal.returns-else-has_each
returns-else-has_each g0 c =
    let n : c.jobs.result ≡ length c.args.self.now.plan.jobs =
    c.jobs.ensures.jobs ∙ (ap (λ (z : LabPlan). length z.jobs) (sym c.self.invariant.plan) ∙ ap (λ (z : BenchView). length z.plan.jobs) c.self.view_is) in (
      λ t. absurd (false≢true (sym c.if-has_each.false ∙ t)),
      λ all. c.has_each.ensures.1 (subst (λ z. HasEach z c.args.desks.now) (sym n) all.every),
    )
