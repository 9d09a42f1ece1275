use Rattle.std.proofs.Common.{◌≡◌, ◌+◌, ◌<◌, ◌≤◌, List, length, slice_index_or, arith, sym, ap, ◌∙◌, ltb-true, ltb-false}
use Rattle.lab_plan.specs.declared.job.Session.{Session}
use Rattle.lab_plan.specs.LabPlan.{JobPlan}
use Rattle.lab_plan.specs.Cuts.{commands_before}
use Rattle.lab_plan.proofs.Cuts.{length-cut, cut_start, cut_end}
use Rattle.lab_plan.proofs.job.Job.end.Goals as goal

pub overflow_add-before : goal.overflow_add-before
overflow_add-before g c = let there = ap (λ (j : JobPlan). length j.sessions) c.self.view_is in
    omega (arith, c.requires, length-cut c.self.inside.sessions.items c.self.inside.commands.items, there)

pub returns-in-Some : goal.returns-in-Some
returns-in-Some g c =
    let sessions = c.self.inside.sessions.items in
    let all = c.self.inside.commands.items in
    let next = c.args.before + 1 in
    let found = c.in-Some.ensures.lookup in
    let below = ltb-true next (length c.deref.result.now) (sym found.0) in
    let inside : next < length sessions = omega (arith, below) in
    let read = found.1 ∙ ap (λ (l : List Session). slice_index_or l next c.in-Some.next.now) c.deref.ensures.value in
    ap (λ (s : Session). s.start) read
    ∙ cut_start sessions all next c.in-Some.next.now inside c.self.invariant.whole c.self.invariant.in_order
    ∙ ap (λ (j : JobPlan). commands_before j.sessions next) c.self.view_is

pub returns-in-None : goal.returns-in-None
returns-in-None g c =
    let sessions = c.self.inside.sessions.items in
    let all = c.self.inside.commands.items in
    let next = c.args.before + 1 in
    let missing = c.in-None.ensures.lookup in
    let above = ltb-false next (length c.deref.result.now) (sym missing.0) in
    let past : length sessions ≤ next = omega (arith, above) in
    let end : c.len.result ≡ length all = omega arith in
    end ∙ cut_end sessions all next past c.self.invariant.whole c.self.invariant.in_order
    ∙ ap (λ (j : JobPlan). commands_before j.sessions next) c.self.view_is
