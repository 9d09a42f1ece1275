use Rattle.std.proofs.Common.{refl}
use Rattle.std.proofs.KnownBytes.{Keeps-refl}
use Rattle.report.specs.Report.{report_of, all_retired}
use Rattle.whole_runs.specs.Shown.{shown_in}
use Rattle.lab_program.specs.declared.faults.RunFault.TheVariants.{Script}
use Rattle.lab_program.specs.Answers.{ScriptRefuses}
use Rattle.lab_program.specs.Reports.{outcome_of}
use Rattle.lab_runs.specs.Shared.{RunsInRounds}
use Rattle.lab_program.proofs.RunAnswers.{ends_with}
use Rattle.lab_runs.proofs.Shown.{answered}
use Rattle.lab_runs.proofs.SharedRuns.{runs_in_rounds}
use Rattle.lab_runs.proofs.shared.in_rounds.Goals as goal

pub returns-in_err-plan-clause-answer : goal.returns-in_err-plan-clause-answer
returns-in_err-plan-clause-answer g c =
    ends_with (RunsInRounds c.args.limit) ScriptRefuses _ _ _ c.from_residual.result
    (Script c.in_err-plan.field-0.0) c.from_residual.ensures.1 (c.in_err-plan.ensures, Keeps-refl _)

pub returns-clause-answer : goal.returns-clause-answer
returns-clause-answer g c =
    let run = c.in_ok-run.run' in
    let text = report_of run.plan (shown_in run) in
    let outcome = outcome_of (all_retired run.plan (shown_in run)) in
    answered (RunsInRounds c.args.limit) ScriptRefuses c.args.input.now text outcome _ _ c.show_run.result
    (runs_in_rounds c.one_report.ensures c.holds_of_every_run.ensures c.args.input.now
    c.in_ok-plan.plan c.args.limit run outcome c.in_ok-plan.ensures refl c.in_ok-run.ensures)
    c.show_run.ensures.shows
