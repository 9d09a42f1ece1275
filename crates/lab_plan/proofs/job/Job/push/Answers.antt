use Rattle.std.proofs.Common.{ℕ, ◌<◌, ◌≤◌, List, length, arith, ap, ◌∙◌}
use Rattle.std.proofs.lemmas.List.{length_push}
use Rattle.lab_plan.specs.declared.verb.Verb.{Verb}
use Rattle.lab_plan.specs.LabPlan.{JobPlan}
use Rattle.lab_plan.specs.Building.{in_last_session}
use Rattle.lab_plan.specs.Cuts.{cut}
use Rattle.lab_plan.proofs.Cuts.{job_of, length-cut, cut_pushed, whole_pushed, order_pushed}
use Rattle.lab_plan.proofs.job.Job.push.Goals as goal

pub invariant_of-self-2 : goal.invariant_of-self-2
invariant_of-self-2 g c =
    let sessions = c.self.inside.sessions.items in
    let all = c.self.inside.commands.items in
    let there = ap (λ (j : JobPlan). length j.sessions) c.self.view_is in
    let some : 0 < length sessions = omega (arith, c.requires, length-cut sessions all, there) in
    let more = ap (λ (l : List (ℕ × Verb)). length l) c.in_ok-push.ensures.items in
    let later : length all ≤ length c.push.new.self.items = omega (arith, more, length_push all (c.args.instrument, c.args.verb)) in
    record {
      whole = whole_pushed sessions (length all) (length c.push.new.self.items) some c.self.invariant.whole;
      in_order = order_pushed sessions (length all) (length c.push.new.self.items) later c.self.invariant.in_order;
    }

pub returns : goal.returns
returns g c =
    let sessions = c.self.inside.sessions.items in
    let all = c.self.inside.commands.items in
    let name = c.self.inside.name in
    let there = ap (λ (j : JobPlan). length j.sessions) c.self.view_is in
    let some : 0 < length sessions = omega (arith, c.requires, length-cut sessions all, there) in
    ap (λ l. job_of name (cut sessions l)) c.in_ok-push.ensures.items
    ∙ ap (job_of name) (cut_pushed sessions all c.args.instrument c.args.verb some c.self.invariant.in_order)
    ∙ ap (in_last_session c.args.instrument c.args.verb) c.self.view_is
