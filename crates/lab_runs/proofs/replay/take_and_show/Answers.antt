use Rattle.std.proofs.Common.{refl}
use Rattle.std.proofs.KnownBytes.{Keeps-refl}
use Rattle.report.specs.Report.{report_of, all_retired}
use Rattle.report.specs.Worlds.{shown_by}
use Rattle.lab_program.specs.Reports.{outcome_of}
use Rattle.lab_runs.proofs.Shown.{answered}
use Rattle.lab_runs.specs.Replays.{ReplaysScript, ReplayRefuses}
use Rattle.lab_runs.proofs.Replayed.{stopped, replayed}
use Rattle.lab_runs.proofs.replay.take_and_show.Goals as goal

pub returns-in-Err-clause-answer : goal.returns-in-Err-clause-answer
returns-in-Err-clause-answer g c = λ input means. (
  stopped input c.args.plan.now c.args.steps.now c.args.steps.now c.args.world.now c.take_steps.new.world c.in-Err.line
      refl c.requires.opening means c.in-Err.ensures,
  Keeps-refl _,
)

pub returns-clause-answer : goal.returns-clause-answer
returns-clause-answer g c = λ input means.
    let world = c.take_steps.new.world in
    let text = report_of world.plan (shown_by world) in
    let outcome = outcome_of (all_retired world.plan (shown_by world)) in
    answered ReplaysScript ReplayRefuses input text outcome _ _ c.show_run.result
    (replayed c.report_of_events.ensures c.holds_of_every_run.ensures input c.args.plan.now
    c.args.steps.now c.args.steps.now c.args.world.now world outcome c.jobs.ensures.plan
    refl c.requires.opening means c.in_default.ensures refl)
    c.show_run.ensures.shows
