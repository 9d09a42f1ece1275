use Rattle.std.proofs.Common.{sym, subst, inl}
use Rattle.std.specs.List.{All}
use Rattle.legal_steps.specs.Opening.{the_opening}
use Rattle.legal_steps.specs.Steps.{IsStepOf}
use Rattle.round_trace.specs.StepsOf.{step_of}
use Rattle.lab_program.specs.declared.faults.RunFault.TheVariants.{Write}
use Rattle.lab_program.proofs.RunAnswers.{ends_with}
use Rattle.lab_views.specs.Traces.{WritesTrace, TraceRefuses}
use Rattle.lab_views.proofs.Traced.{traced_as}
use Rattle.lab_views.proofs.trace.trace_script.Goals as goal

pub text_of-requires : goal.text_of-requires
text_of-requires g c =
    let plan = c.args.plan.now in
    subst (All (λ event. IsStepOf plan (step_of event))) (sym c.deref.ensures.value) (c.steps_are_of_plan.ensures plan
    (the_opening plan) c.in_ok-events.events.items c.in_ok-events.ensures.rounds.legal)

pub returns-clause-answer : goal.returns-clause-answer
returns-clause-answer g c = (
  c.deref-4.result.now,
  inl (traced_as c.args.limit c.args.input.now c.args.plan.now c.deref.result.now c.in_ok-events.events.items c.deref-4.result.now c.in_ok-text.text.items
      c.deref.ensures.value c.deref-4.ensures.value c.jobs.ensures.plan c.requires c.in_ok-events.ensures c.in_ok-text.ensures c.deref-2.result.now c.deref-3.result.now
      c.outcome_for-outcome.result c.deref-2.ensures.value c.deref-3.ensures.value c.outcome_for-outcome.ensures),
  c.in_ok-send_text.ensures.0,
)

pub returns-in_err-send_text-clause-answer : goal.returns-in_err-send_text-clause-answer
returns-in_err-send_text-clause-answer g c =
    ends_with (WritesTrace c.args.limit) TraceRefuses _ _ _ c.from_residual-in_err-send_text.result Write c.from_residual-in_err-send_text.ensures.1 (
      c.deref-4.result.now,
      c.outcome_for-outcome.result,
      inl (traced_as c.args.limit c.args.input.now c.args.plan.now c.deref.result.now c.in_ok-events.events.items c.deref-4.result.now c.in_ok-text.text.items
          c.deref.ensures.value c.deref-4.ensures.value c.jobs.ensures.plan c.requires c.in_ok-events.ensures c.in_ok-text.ensures c.deref-2.result.now c.deref-3.result.now
          c.outcome_for-outcome.result c.deref-2.ensures.value c.deref-3.ensures.value c.outcome_for-outcome.ensures),
      c.in_err-send_text.ensures.0,
    )
