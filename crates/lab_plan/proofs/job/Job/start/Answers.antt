use Rattle.std.proofs.Common.{◌<◌, length, arith, ap, ◌∙◌}
use Rattle.lab_plan.specs.declared.job.Session.{Session}
use Rattle.lab_plan.specs.LabPlan.{JobPlan}
use Rattle.lab_plan.specs.Cuts.{commands_before}
use Rattle.lab_plan.proofs.Cuts.{length-cut, cut_start}
use Rattle.lab_plan.proofs.job.Job.start.Goals as goal

pub index-requires : goal.index-requires
index-requires g c = let there = ap (λ (j : JobPlan). length j.sessions) c.self.view_is in
    omega (arith, c.requires, length-cut c.self.inside.sessions.items c.self.inside.commands.items, there)

pub returns : goal.returns
returns g c =
    let sessions = c.self.inside.sessions.items in
    let all = c.self.inside.commands.items in
    let there = ap (λ (j : JobPlan). length j.sessions) c.self.view_is in
    let inside : c.args.before < length sessions = omega (arith, c.requires, length-cut sessions all, there) in
    ap (λ (s : Session). s.start) c.index.ensures
    ∙ cut_start sessions all c.args.before c.index.result.now inside c.self.invariant.whole c.self.invariant.in_order
    ∙ ap (λ (j : JobPlan). commands_before j.sessions c.args.before) c.self.view_is
