use Rattle.std.proofs.KnownBytes.{Keeps-refl}
use Rattle.lab_program.specs.declared.faults.RunFault.TheVariants.{Script, Write}
use Rattle.lab_program.specs.declared.faults.Outcome.TheVariants.{Finished}
use Rattle.lab_program.proofs.RunAnswers.{ends_with}
use Rattle.lab_views.specs.Views.{Explains, StepsAreRefused}
use Rattle.lab_views.proofs.Explained.{explained}
use Rattle.lab_views.proofs.explanations.explain_input.Goals as goal

pub returns-in_err-plan-clause-answer : goal.returns-in_err-plan-clause-answer
returns-in_err-plan-clause-answer g c =
    ends_with Explains StepsAreRefused _ _ _ c.from_residual.result (Script c.in_err-plan.field-0.0) c.from_residual.ensures.1 (c.in_err-plan.ensures.meaning, Keeps-refl _)

pub returns-clause-answer : goal.returns-clause-answer
returns-clause-answer g c = (
  c.deref-2.result.now,
  explained c.args.input.now c.in_ok-plan.plan c.deref.result.now c.in_ok-plan.steps.items c.in_ok-told.told.refused c.deref-2.result.now c.in_ok-told.told.text.items
      c.deref.ensures.value c.deref-2.ensures.value c.in_ok-plan.ensures.meaning c.in_ok-told.ensures,
  c.in_ok-send_text.ensures.0,
)

pub returns-in_err-send_text-clause-answer : goal.returns-in_err-send_text-clause-answer
returns-in_err-send_text-clause-answer g c =
    ends_with Explains StepsAreRefused _ _ _ c.from_residual-in_err-send_text.result Write c.from_residual-in_err-send_text.ensures.1 (
      c.deref-2.result.now,
      Finished,
      explained c.args.input.now c.in_ok-plan.plan c.deref.result.now c.in_ok-plan.steps.items c.in_ok-told.told.refused c.deref-2.result.now c.in_ok-told.told.text.items
          c.deref.ensures.value c.deref-2.ensures.value c.in_ok-plan.ensures.meaning c.in_ok-told.ensures,
      c.in_err-send_text.ensures.0,
    )
