use Rattle.std.proofs.Common.{◌+◌, ◌-◌, ◌<◌, ◌≡◌, length, slice_index_or, arith, ◌∙◌, ap}
use Rattle.lab_plan.specs.LabPlan.{sessions, no_session}
use Rattle.lab_plan.specs.Upgrade.{session_text}
use Rattle.report.proofs.Prefixes.{each_goes, each_stops, writes_err}
use Rattle.report.proofs.script.write_sessions.Goals as goal

pub returns-in_err-write_session : goal.returns-in_err-write_session
returns-in_err-write_session g c =
    let all = sessions c.args.plan.now c.args.job in
    let inside : c.loop-session.session < length all = omega arith in
    let place : (c.loop-session.session + 1) - 1 ≡ c.loop-session.session = omega arith in
    writes_err _ _ _ _ _ _ c.from_residual.ensures.0
    (each_stops (session_text c.args.plan.now) all c.loop-session.session no_session _ _ _ _ inside
    (ap (λ k. slice_index_or all k no_session) place) c.loop-session.invariant.0 c.in_err-write_session.ensures.0)
    (c.in_err-write_session.ensures.1 ∙ ap (λ n. n + 1) c.loop-session.invariant.1)

pub loop-session-preserved : goal.loop-session-preserved
loop-session-preserved g c =
    let all = sessions c.args.plan.now c.args.job in
    let inside : c.loop-session.session < length all = omega arith in
    let place : (c.loop-session.session + 1) - 1 ≡ c.loop-session.session = omega arith in (
      each_goes (session_text c.args.plan.now) all c.loop-session.session no_session _ _ _ _ inside
          (ap (λ k. slice_index_or all k no_session) place) c.loop-session.invariant.0 c.in_ok-write_session.ensures.0,
      c.in_ok-write_session.ensures.1 ∙ c.loop-session.invariant.1,
    )
