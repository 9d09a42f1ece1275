use Rattle.std.proofs.Common.{sym, subst}
use Rattle.std.proofs.KnownBytes.{Keeps-refl}
use Rattle.script_reader.specs.Steps.{StepsMean}
use Rattle.lab_program.specs.declared.faults.RunFault.TheVariants.{Script}
use Rattle.lab_runs.specs.Replays.{ReplaysScript, ReplayRefuses}
use Rattle.lab_program.proofs.RunAnswers.{ends_with}
use Rattle.lab_runs.proofs.replay.replay.Goals as goal

pub returns-in_err-plan-clause-answer : goal.returns-in_err-plan-clause-answer
returns-in_err-plan-clause-answer g c =
    ends_with ReplaysScript ReplayRefuses _ _ _ c.from_residual.result
    (Script c.in_err-plan.field-0.0) c.from_residual.ensures.1 (c.in_err-plan.ensures.meaning, Keeps-refl _)

pub returns-clause-answer : goal.returns-clause-answer
returns-clause-answer g c = c.replay_steps.ensures.answer c.args.input.now
    (subst (λ l. StepsMean c.args.input.now c.in_ok-plan.plan l) (sym c.deref.ensures.value) c.in_ok-plan.ensures.meaning)
