use Rattle.std.proofs.Common.{refl, ◌∙◌}
use Rattle.std.proofs.KnownBytes.{Keeps-refl}
use Rattle.lab_program.specs.declared.faults.RunFault.TheVariants.{Script}
use Rattle.lab_program.specs.Answers.{ScriptRefuses}
use Rattle.lab_runs.specs.Scripts.{Checks}
use Rattle.lab_program.proofs.RunAnswers.{ends_with}
use Rattle.lab_runs.proofs.scripts.check.Goals as goal

pub returns-in_err-plan-clause-answer : goal.returns-in_err-plan-clause-answer
returns-in_err-plan-clause-answer g c =
    ends_with Checks ScriptRefuses _ _ _ c.from_residual.result (Script c.in_err-plan.field-0.0) c.from_residual.ensures.1 (c.in_err-plan.ensures, Keeps-refl _)

pub returns-clause-answer : goal.returns-clause-answer
returns-clause-answer g c = (
  c.as_bytes.result.now,
  record { plan = c.in_ok-plan.plan; means = c.in_ok-plan.ensures; counts = c.as_bytes.ensures.value ∙ c.in_ok-line.ensures; ends = refl },
  c.in_ok-send_text.ensures.0,
)
