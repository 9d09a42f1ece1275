-- For readers: whole runs of a plan, by their histories.
use Rattle.std.specs.Prelude.{◌≡◌, ◌≢◌, ℕ, List, [], length}
use Rattle.lab_plan.specs.LabPlan.{LabPlan}
use Rattle.lab_plan.specs.IsPlan.{IsPlan}
use Rattle.legal_steps.specs.declared.event.Event.{Event}
use Rattle.legal_steps.specs.Opening.{the_opening}
use Rattle.legal_steps.specs.Run.{IsLegalFrom}
use Rattle.edge_rule.specs.ClosedView.{ClosedView}
use Rattle.report.specs.Events.{ShowsAlike, shown_after, retired_after}
use Rattle.rounds.specs.declared.ended.Ended.{Ended}
use Rattle.rounds.specs.declared.ended.Ended.TheVariants.{Quiet}
use Rattle.rounds.specs.OneRun.{RanRounds}
use Rattle.rounds.specs.FromOpening.{fresh_players}
use Rattle.whole_runs.specs.Turns.{TakeTurns}
use Rattle.whole_runs.specs.Shown.{shown_in}

-- The run has a history: a list of events, each legal after the ones before it, from the initial state of the plan on. What is shown at its end is what these
-- events lead to. The events of each job are whole turns, at most this many; and that many, if not every job is retired
pub record IsRunByTurns (plan : LabPlan) (turns : ℕ) (c : ClosedView) : Type 0 where
  pub of_plan : c.plan ≡ plan
  pub within_limits : IsPlan plan
  pub history : List Event
  pub legal : IsLegalFrom plan (the_opening plan) history
  pub shows : ShowsAlike plan (shown_in c) (shown_after plan (the_opening plan) history)
  pub takes_turns : TakeTurns plan history turns (retired_after plan (the_opening plan) history)

-- The same in rounds of all jobs, in ascending order: they ended because all jobs were retired, or because the limit was there, never because a round was quiet
pub record IsRunInRounds (plan : LabPlan) (limit : ℕ) (c : ClosedView) : Type 0 where
  pub by_turns : IsRunByTurns plan limit c
  pub ended : Ended
  pub number : ℕ
  pub rounds : RanRounds plan limit (fresh_players (length plan.jobs)) [] ended number by_turns.history
  pub not_quiet : ended ≢ Quiet
