use Rattle.std.proofs.Common.{◌≡◌, ◌+◌, ◌-◌, nat_eq, length, arith, ap, ◌∙◌}
use Rattle.lab_plan.specs.declared.job.Session.{Session}
use Rattle.lab_plan.specs.LabPlan.{JobPlan}
use Rattle.lab_plan.proofs.Cuts.{is_last_bare, bare_is}
use Rattle.lab_plan.proofs.job.Job.is_bare.Goals as goal

pub returns-then-not-is_empty : goal.returns-then-not-is_empty
returns-then-not-is_empty g c =
    let sessions = c.self.inside.sessions.items in
    let all = c.self.inside.commands.items in
    let at = c.len.result - 1 in
    let last : at + 1 ≡ length sessions = grind arith in
    let end : c.len-then-not-is_empty.result ≡ length all = grind arith in
    ap (λ (s : Session). nat_eq s.start c.len-then-not-is_empty.result) c.index.ensures
    ∙ ap (nat_eq _) end
    ∙ bare_is sessions all at c.index.result.now last c.self.invariant.whole c.self.invariant.in_order
    ∙ ap (λ (j : JobPlan). is_last_bare j.sessions) c.self.view_is
