use Rattle.std.proofs.Common.{◌≡◌, ◌+◌, ◌-◌, ◌<◌, List, length, slice_set, true, false, rules, arith, sym, ap, ◌∙◌, length-set}
use Rattle.lab_plan.specs.LabPlan.{SessionPlan}
use Rattle.lab_plan.specs.Building.{on_last, and_command}
use Rattle.lab_plan.specs.Cuts.{commands_of}
use Rattle.lab_plan.proofs.OnLast.{on_last-item}
use Rattle.script_reader.specs.More.{SessionsSoFar, with_more}
use Rattle.script_reader.proofs.FurtherLines.{commands_more}
use Rattle.script_reader.proofs.more.SessionReader.push.Goals as goal

pub overflow_sub-last : goal.overflow_sub-last
overflow_sub-last g c =
    let some : 0 < length c.self.inside.sessions.items =
    c.self.invariant.some (ap (λ (s : SessionsSoFar). s.in_session) c.self.view_is ∙ c.requires.in_session) in
    omega (arith, some)

pub index_mut-session-requires : goal.index_mut-session-requires
index_mut-session-requires g c =
    let some : 0 < length c.self.inside.sessions.items =
    c.self.invariant.some (ap (λ (s : SessionsSoFar). s.in_session) c.self.view_is ∙ c.requires.in_session) in
    omega (arith, some)

pub overflow_add-self : goal.overflow_add-self
overflow_add-self g c =
    let few = c.requires.few in
    let same = ap (λ (s : SessionsSoFar). length (commands_of s.sessions)) c.self.view_is in
    omega (arith, few, same, c.self.invariant.counted)

pub invariant_of-self : goal.invariant_of-self
invariant_of-self g c =
    let items = c.self.inside.sessions.items in
    let change = and_command c.args.instrument c.args.verb in
    let some : 0 < length items = c.self.invariant.some (ap (λ (s : SessionsSoFar). s.in_session) c.self.view_is ∙ c.requires.in_session) in
    let kept : slice_set items (c.len-last.result - 1) c.push.new.self ≡ items =
    on_last-item change items c.len-last.result c.index_mut-session.result.now c.push.new.self false (omega arith) some c.index_mut-session.ensures.value
    (search rules) in
    record {
      counted = c.self.invariant.counted ∙ ap (λ (l : List SessionPlan). length (commands_of l)) (sym kept);
      some = λ h. omega (arith, some, length-set items (c.len-last.result - 1) c.push.new.self);
    }

pub returns-then-is_err-clause-value : goal.returns-then-is_err-clause-value
returns-then-is_err-clause-value g c =
    let items = c.self.inside.sessions.items in
    let change = and_command c.args.instrument c.args.verb in
    let some : 0 < length items = c.self.invariant.some (ap (λ (s : SessionsSoFar). s.in_session) c.self.view_is ∙ c.requires.in_session) in
    let kept : slice_set items (c.len-last.result - 1) c.push.new.self ≡ items =
    on_last-item change items c.len-last.result c.index_mut-session.result.now c.push.new.self false (omega arith) some c.index_mut-session.ensures.value
    (search rules) in
    ap (λ (l : List SessionPlan). let r : SessionsSoFar = record { in_session = c.self.inside.in_session; sessions = l } in r) kept ∙ c.self.view_is

pub invariant_of-self-2 : goal.invariant_of-self-2
invariant_of-self-2 g c =
    let items = c.self.inside.sessions.items in
    let change = and_command c.args.instrument c.args.verb in
    let some : 0 < length items = c.self.invariant.some (ap (λ (s : SessionsSoFar). s.in_session) c.self.view_is ∙ c.requires.in_session) in
    let now : slice_set items (c.len-last.result - 1) c.push.new.self ≡ on_last change items =
    on_last-item change items c.len-last.result c.index_mut-session.result.now c.push.new.self true (omega arith) some c.index_mut-session.ensures.value
    (search rules) in
    record {
      counted = ap (λ n. n + 1) c.self.invariant.counted ∙ sym (commands_more c.args.instrument c.args.verb items some)
          ∙ ap (λ (l : List SessionPlan). length (commands_of l)) (sym now);
      some = λ h. omega (arith, some, length-set items (c.len-last.result - 1) c.push.new.self);
    }

pub returns-clause-value : goal.returns-clause-value
returns-clause-value g c =
    let items = c.self.inside.sessions.items in
    let change = and_command c.args.instrument c.args.verb in
    let some : 0 < length items = c.self.invariant.some (ap (λ (s : SessionsSoFar). s.in_session) c.self.view_is ∙ c.requires.in_session) in
    let now : slice_set items (c.len-last.result - 1) c.push.new.self ≡ on_last change items =
    on_last-item change items c.len-last.result c.index_mut-session.result.now c.push.new.self true (omega arith) some c.index_mut-session.ensures.value
    (search rules) in
    ap (λ (l : List SessionPlan). let r : SessionsSoFar = record { in_session = c.self.inside.in_session; sessions = l } in r) now
    ∙ ap (with_more c.args.instrument c.args.verb) c.self.view_is
