use Rattle.std.proofs.Common.{refl}
use Rattle.std.proofs.KnownBytes.{Keeps-refl}
use Rattle.lab_plan.specs.Upgrade.{script_text}
use Rattle.lab_program.specs.declared.faults.RunFault.TheVariants.{Script, Write}
use Rattle.lab_program.specs.declared.faults.Outcome.TheVariants.{Finished}
use Rattle.lab_program.specs.Answers.{ScriptRefuses}
use Rattle.lab_runs.specs.Scripts.{Upgrades}
use Rattle.lab_program.proofs.RunAnswers.{ends_with}
use Rattle.lab_runs.proofs.scripts.upgrade.Goals as goal

pub returns-in_err-plan-clause-answer : goal.returns-in_err-plan-clause-answer
returns-in_err-plan-clause-answer g c =
    ends_with Upgrades ScriptRefuses _ _ _ c.from_residual.result
    (Script c.in_err-plan.field-0.0) c.from_residual.ensures.1 (c.in_err-plan.ensures, Keeps-refl _)

pub returns-in_err-send_script-clause-answer : goal.returns-in_err-send_script-clause-answer
returns-in_err-send_script-clause-answer g c =
    let plan = c.in_ok-plan.plan in
    let upgrades : Upgrades c.args.input.now (script_text plan) Finished = record {
      plan = plan;
      means = c.in_ok-plan.ensures;
      upgraded = refl;
      means_same = c.upgrade_means_plan.ensures plan c.jobs.ensures.plan;
      short = c.upgrade_is_short.ensures plan c.jobs.ensures.plan;
      ends = refl;
    } in
    ends_with Upgrades ScriptRefuses _ _ _ c.from_residual-in_err-send_script.result Write c.from_residual-in_err-send_script.ensures.1
    (script_text plan, Finished, upgrades, c.in_err-send_script.ensures.0)

pub returns-clause-answer : goal.returns-clause-answer
returns-clause-answer g c =
    let plan = c.in_ok-plan.plan in
    let upgrades : Upgrades c.args.input.now (script_text plan) Finished = record {
      plan = plan;
      means = c.in_ok-plan.ensures;
      upgraded = refl;
      means_same = c.upgrade_means_plan.ensures plan c.jobs.ensures.plan;
      short = c.upgrade_is_short.ensures plan c.jobs.ensures.plan;
      ends = refl;
    } in
    (script_text plan, upgrades, c.in_ok-send_script.ensures.0)
