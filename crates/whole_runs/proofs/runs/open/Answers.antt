use Rattle.std.proofs.Common.{◌≡◌, length, sym, ap, ◌∙◌, subst}
use Rattle.lab_plan.specs.LabPlan.{LabPlan}
use Rattle.turns.specs.Lists.{Each}
use Rattle.edge_rule.specs.DeskView.{BenchView, Owns, fresh_desks}
use Rattle.edge_rule.specs.Ending.{HasAll}
use Rattle.rounds.specs.FromOpening.{opened}
use Rattle.rounds.proofs.Fresh.{opened_own, opened_all}
use Rattle.whole_runs.proofs.runs.open.Goals as goal

pub returns-clause-own : goal.returns-clause-own
returns-clause-own g c =
    let b : BenchView = c.in-Ok.bench in
    let same : c.in-Ok.desks.items ≡ opened b = c.in-Ok.ensures.1 ∙ ap (λ (p : LabPlan). fresh_desks b.table p (length p.jobs)) (sym c.in-Ok.ensures.0) in
    subst (Each (Owns b)) (sym same) (opened_own b)

pub returns-clause-all : goal.returns-clause-all
returns-clause-all g c =
    let b : BenchView = c.in-Ok.bench in
    let same : c.in-Ok.desks.items ≡ opened b = c.in-Ok.ensures.1 ∙ ap (λ (p : LabPlan). fresh_desks b.table p (length p.jobs)) (sym c.in-Ok.ensures.0) in
    subst (HasAll b.plan) (sym same) (opened_all b)
