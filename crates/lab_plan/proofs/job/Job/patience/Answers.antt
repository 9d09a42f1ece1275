use Rattle.std.proofs.Common.{◌<◌, length, slice_index_or, arith, ap, ◌∙◌}
use Rattle.lab_plan.specs.declared.job.Session.{Session}
use Rattle.lab_plan.specs.LabPlan.{JobPlan, no_session}
use Rattle.lab_plan.proofs.Cuts.{length-cut, cut_patience}
use Rattle.lab_plan.proofs.job.Job.patience.Goals as goal

pub index-requires : goal.index-requires
index-requires g c = let there = ap (λ (j : JobPlan). length j.sessions) c.self.view_is in
    omega (arith, c.requires, length-cut c.self.inside.sessions.items c.self.inside.commands.items, there)

pub returns : goal.returns
returns g c =
    let sessions = c.self.inside.sessions.items in
    let all = c.self.inside.commands.items in
    let there = ap (λ (j : JobPlan). length j.sessions) c.self.view_is in
    let inside : c.args.before < length sessions = omega (arith, c.requires, length-cut sessions all, there) in
    ap (λ (s : Session). s.patience) c.index.ensures
    ∙ cut_patience sessions all c.args.before c.index.result.now inside
    ∙ ap (λ (j : JobPlan). (slice_index_or j.sessions c.args.before no_session).patience) c.self.view_is
