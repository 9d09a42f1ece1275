use Rattle.std.proofs.KnownBytes.{Keeps-refl}
use Rattle.lab_program.specs.declared.faults.RunFault.TheVariants.{Script, Write, NoMemory}
use Rattle.lab_program.specs.declared.faults.Outcome.TheVariants.{Finished}
use Rattle.lab_program.specs.Answers.{ScriptRefuses}
use Rattle.lab_program.proofs.RunAnswers.{ends_with}
use Rattle.lab_views.specs.Gantts.{DrawsRun}
use Rattle.lab_views.proofs.RunDrawn.{drawn_run}
use Rattle.blocking.proofs.Known.{kept_of_plan}
use Rattle.lab_views.proofs.drawing_gantt.draw_run.Goals as goal

pub returns-in_err-plan-clause-answer : goal.returns-in_err-plan-clause-answer
returns-in_err-plan-clause-answer g c =
    ends_with (DrawsRun c.args.limit) ScriptRefuses _ _ _ c.from_residual.result (Script c.in_err-plan.field-0.0) c.from_residual.ensures.1
    (c.in_err-plan.ensures, Keeps-refl _)

pub returns-clause-answer : goal.returns-clause-answer
returns-clause-answer g c = (
  c.deref.result.now,
  drawn_run c.args.limit c.args.input.now c.in_ok-plan.plan c.in_ok-run.run' c.deref.result.now c.in_ok-text.text.items
      c.deref.ensures.value c.in_ok-plan.ensures c.in_ok-run.ensures c.in_ok-text.ensures,
  c.in_ok-send_text.ensures.0,
)

pub returns-in_err-send_text-clause-answer : goal.returns-in_err-send_text-clause-answer
returns-in_err-send_text-clause-answer g c =
    ends_with (DrawsRun c.args.limit) ScriptRefuses _ _ _ c.from_residual-in_err-send_text.result Write c.from_residual-in_err-send_text.ensures.1 (
      c.deref.result.now,
      Finished,
      drawn_run c.args.limit c.args.input.now c.in_ok-plan.plan c.in_ok-run.run' c.deref.result.now c.in_ok-text.text.items
          c.deref.ensures.value c.in_ok-plan.ensures c.in_ok-run.ensures c.in_ok-text.ensures,
      c.in_err-send_text.ensures.0,
    )

pub text_of-requires : goal.text_of-requires
text_of-requires g c = kept_of_plan c.in_ok-plan.plan c.args.limit c.in_ok-run.run' c.in_ok-run.ensures

pub returns-in_err-text-clause-answer : goal.returns-in_err-text-clause-answer
returns-in_err-text-clause-answer g c =
    ends_with (DrawsRun c.args.limit) ScriptRefuses _ _ _ c.from_residual-in_err-text.result NoMemory c.from_residual-in_err-text.ensures.1 (Keeps-refl _)
