use Rattle.std.proofs.Common.{◌≡◌, ℕ, arith, length, List, map, sym, ap, ◌∙◌, subst, inr}
use Rattle.std.specs.List.{All}
use Rattle.std.proofs.KnownBytes.{Keeps-refl}
use Rattle.lab_plan.specs.LabPlan.{LabPlan}
use Rattle.legal_steps.specs.declared.event.Event.{Event}
use Rattle.legal_steps.specs.declared.event.Step.{Step}
use Rattle.legal_steps.specs.declared.event.StepLine.{StepLine}
use Rattle.legal_steps.specs.State.{State}
use Rattle.legal_steps.specs.Opening.{the_opening}
use Rattle.legal_steps.specs.Run.{StopsAt, after_all}
use Rattle.legal_steps.specs.Steps.{IsStepOf}
use Rattle.round_trace.specs.StepsOf.{step_of}
use Rattle.round_trace.specs.declared.going_on.NotTraced.{NotTraced}
use Rattle.round_trace.specs.declared.going_on.NotTraced.TheVariants.{NotLegal}
use Rattle.round_trace.specs.Traces as round
use Rattle.round_trace.specs.Traces.{GoesOnByRounds, IsNotTraced}
use Rattle.lab_program.specs.declared.faults.RunFault.TheVariants.{Script, Write}
use Rattle.lab_program.proofs.RunAnswers.{ends_with}
use Rattle.lab_runs.specs.Replays.{run_of}
use Rattle.lab_views.specs.Traces.{WritesTrace, TraceRefuses, events_behind}
use Rattle.lab_views.proofs.Traced.{inside, not_legal_at, fits, legal_further, further, seen_behind}
use Rattle.lab_views.proofs.trace.trace_further.Goals as goal

refused : (plan : LabPlan) (steps : List Step) (why : NotTraced) (place : ℕ) → why ≡ NotLegal place → IsNotTraced plan steps why
    → (s : State) × StopsAt plan (the_opening plan) (round.run_of plan steps) place s
refused plan steps why place is so = subst (IsNotTraced plan steps) is so

pub returns-in_err-plan-clause-answer : goal.returns-in_err-plan-clause-answer
returns-in_err-plan-clause-answer g c =
    ends_with (WritesTrace c.args.limit) TraceRefuses _ _ _ c.from_residual.result (Script c.in_err-plan.field-0.0) c.from_residual.ensures.1
    (inr c.in_err-plan.ensures.meaning, Keeps-refl _)

pub index-requires : goal.index-requires
index-requires g c =
    let stop = refused _ _ _ _ c.in-Err-NotLegal.field-0-is c.in-Err-NotLegal.ensures.refused in
    let same = ap (λ (l : List StepLine). length l) c.deref.ensures.value in
    let less = inside c.in_ok-plan.plan c.deref.result.now c.in-Err-NotLegal.place stop.0 stop.1 in
    let place = c.in-Err-NotLegal.place-is in
    omega (arith, less, same, place)

pub returns-in-Err-NotLegal-clause-answer : goal.returns-in-Err-NotLegal-clause-answer
returns-in-Err-NotLegal-clause-answer g c =
    let stop = refused _ _ _ _ c.in-Err-NotLegal.field-0-is c.in-Err-NotLegal.ensures.refused in
    let plan = c.in_ok-plan.plan in
    let place = c.in-Err-NotLegal.place-is in (
      not_legal_at c.args.input.now plan c.in_ok-plan.steps.items c.in-Err-NotLegal.place _ stop.0 c.index.result.now c.in_ok-plan.ensures.meaning
          (subst (λ (l : List StepLine). StopsAt plan (the_opening plan) (run_of plan l) c.in-Err-NotLegal.place stop.0) c.deref.ensures.value stop.1)
          c.index.ensures (omega (arith, place)),
      Keeps-refl _,
    )

pub behind-further-requires : goal.behind-further-requires
behind-further-requires g c =
    let many = fits c.in_ok-plan.plan c.args.limit c.deref.result.now c.in-Ok.events.items c.in-Ok.ensures.goes_on in
    let same = ap (λ (l : List StepLine). length l) c.deref.ensures.value in
    let first = ap (λ (l : List Event). length l) c.deref-2.ensures.value in
    let second = ap (λ (l : List StepLine). length l) c.deref-3.ensures.value in
    omega (arith, many, same, first, second)

pub further_text_of-requires : goal.further_text_of-requires
further_text_of-requires g c =
    let plan = c.in_ok-plan.plan in
    let steps = c.deref.result.now in
    let events = c.in-Ok.events.items in
    subst (All (λ event. IsStepOf plan (step_of event)))
    (sym (seen_behind steps c.deref-3.result.now c.in_ok-plan.steps.items events c.deref-2.result.now c.behind-further.result.now
    c.behind-further.ensures c.deref-3.ensures.value c.deref.ensures.value c.deref-2.ensures.value))
    (c.steps_are_of_plan.ensures plan (after_all plan (the_opening plan) (run_of plan steps)) (events_behind steps events)
    (legal_further plan c.args.limit steps events c.in-Ok.ensures.goes_on))

pub returns-clause-answer : goal.returns-clause-answer
returns-clause-answer g c = (
  c.deref-6.result.now,
  inr (further c.in_ok-plan.plan c.args.limit c.in_ok-plan.steps.items c.in-Ok.events.items
      (subst (λ (l : List StepLine). GoesOnByRounds c.in_ok-plan.plan c.args.limit (map (λ (line : StepLine). line.step) l) c.in-Ok.events.items)
      c.deref.ensures.value c.in-Ok.ensures.goes_on)
      c.args.input.now c.behind-further.result.now c.deref-6.result.now c.in_ok-text.text.items c.deref-4.result.now c.deref-5.result.now
      c.outcome_for-outcome.result c.in_ok-plan.ensures.meaning c.requires
      (c.behind-further.ensures ∙ (λ i. events_behind (c.deref-3.ensures.value i) (c.deref-2.ensures.value i)))
      c.deref-6.ensures.value c.in_ok-text.ensures c.deref-4.ensures.value c.deref-5.ensures.value c.outcome_for-outcome.ensures),
  c.in_ok-send_text.ensures.0,
)

pub returns-in_err-send_text-clause-answer : goal.returns-in_err-send_text-clause-answer
returns-in_err-send_text-clause-answer g c =
    ends_with (WritesTrace c.args.limit) TraceRefuses _ _ _ c.from_residual-in_err-send_text.result Write c.from_residual-in_err-send_text.ensures.1 (
      c.deref-6.result.now,
      c.outcome_for-outcome.result,
      inr (further c.in_ok-plan.plan c.args.limit c.in_ok-plan.steps.items c.in-Ok.events.items
          (subst (λ (l : List StepLine). GoesOnByRounds c.in_ok-plan.plan c.args.limit (map (λ (line : StepLine). line.step) l) c.in-Ok.events.items)
          c.deref.ensures.value c.in-Ok.ensures.goes_on)
          c.args.input.now c.behind-further.result.now c.deref-6.result.now c.in_ok-text.text.items c.deref-4.result.now c.deref-5.result.now
          c.outcome_for-outcome.result c.in_ok-plan.ensures.meaning c.requires
          (c.behind-further.ensures ∙ (λ i. events_behind (c.deref-3.ensures.value i) (c.deref-2.ensures.value i)))
          c.deref-6.ensures.value c.in_ok-text.ensures c.deref-4.ensures.value c.deref-5.ensures.value c.outcome_for-outcome.ensures),
      c.in_err-send_text.ensures.0,
    )
