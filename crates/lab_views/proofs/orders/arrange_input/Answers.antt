use Rattle.std.proofs.Common.{refl}
use Rattle.std.proofs.KnownBytes.{Keeps-refl}
use Rattle.lab_program.specs.declared.faults.RunFault.TheVariants.{Script, Write}
use Rattle.lab_program.specs.declared.faults.Outcome.TheVariants.{Unfinished}
use Rattle.lab_program.specs.Answers.{ScriptRefuses}
use Rattle.lab_program.proofs.RunAnswers.{ends_with}
use Rattle.lab_views.specs.Arranged.{Arranges}
use Rattle.lab_views.proofs.orders.arrange_input.Goals as goal

pub returns-in_err-plan-clause-answer : goal.returns-in_err-plan-clause-answer
returns-in_err-plan-clause-answer g c =
    ends_with Arranges ScriptRefuses _ _ _ c.from_residual.result (Script c.in_err-plan.field-0.0) c.from_residual.ensures.1
    (c.in_err-plan.ensures, Keeps-refl _)

pub returns-in_err-send_text-in-None-clause-answer : goal.returns-in_err-send_text-in-None-clause-answer
returns-in_err-send_text-in-None-clause-answer g c =
    ends_with Arranges ScriptRefuses _ _ _ c.from_residual-in_err-send_text-in-None.result Write c.from_residual-in_err-send_text-in-None.ensures.1 (
      c.args.input.now,
      Unfinished,
      (c.in_ok-plan.plan, c.in_ok-plan.ensures, (rw c.in-None.is at c.in_ok-made.ensures), refl),
      c.in_err-send_text-in-None.ensures.0,
    )
