-- For readers: the run of a plan by rounds, as a list of events.
use Rattle.std.specs.Prelude.{◌≢◌, ℕ, Bool, List, [], ◌++◌, length}
use Rattle.lab_plan.specs.LabPlan.{LabPlan}
use Rattle.legal_steps.specs.declared.event.Event.{Event}
use Rattle.legal_steps.specs.declared.event.Step.{Step}
use Rattle.legal_steps.specs.State.{State}
use Rattle.legal_steps.specs.Run.{StopsAt}
use Rattle.legal_steps.specs.Steps.{step_events}
use Rattle.legal_steps.specs.Opening.{the_opening}
use Rattle.turns.specs.History.{IsHistory, state_after}
use Rattle.rounds.specs.declared.ended.Ended.{Ended}
use Rattle.rounds.specs.declared.ended.Ended.TheVariants.{Quiet}
use Rattle.rounds.specs.OneRun.{RanRounds, why_ended}
use Rattle.rounds.specs.FromOpening.{fresh_players}
use Rattle.round_trace.specs.declared.going_on.NotTraced.{NotTraced}
use Rattle.round_trace.specs.declared.going_on.NotTraced.TheVariants.{NoMemory, NotLegal}
use Rattle.round_trace.specs.InHand.{acts_in_hand}

-- the events of some steps from the initial state on
abbrev pub run_of : LabPlan → List Step → List Event
run_of plan steps = step_events plan (the_opening plan) steps

-- and with the acts of the commands that are in hand then
abbrev pub run_before : LabPlan → List Step → List Event
run_before plan steps = run_of plan steps ++ acts_in_hand plan (state_after plan (run_of plan steps))

-- All of it are rounds of all jobs from the initial state on, each with one turn of each job, in ascending order. They ended because all
-- jobs were retired, or after this many.
-- These are the words that the run of `labrun rounds` is promised in
pub record IsRunByRounds (plan : LabPlan) (limit : ℕ) (history : List Event) : Type 0 where
  pub ended : Ended
  pub number : ℕ
  pub rounds : RanRounds plan limit (fresh_players (length plan.jobs)) [] ended number history
  pub not_quiet : ended ≢ Quiet

-- Rounds of all jobs that go on behind the run of a list of steps: the acts of the commands in hand come first. In a session that is
-- open then, turns that a job waited before aren't counted
pub record GoesOnByRounds (plan : LabPlan) (limit : ℕ) (steps : List Step) (history : List Event) : Type 0 where
  pub begins : IsHistory plan (run_before plan steps)
  pub ended : Ended
  pub number : ℕ
  pub rounds : RanRounds plan limit (fresh_players (length plan.jobs)) (run_before plan steps) ended number history
  pub not_quiet : ended ≢ Quiet

-- why no rounds go on behind the steps: the one at this place is the first that isn't legal, or there was no memory
abbrev pub IsNotTraced : LabPlan → List Step → NotTraced → Type 0
IsNotTraced plan steps (NotLegal place) = (s : State) × StopsAt plan (the_opening plan) (run_of plan steps) place s
IsNotTraced plan steps NoMemory = Unit

-- rounds from a history on, and whether all jobs were retired
abbrev pub Plays : LabPlan → ℕ → Bool → List Event → List Event → Type 0
Plays plan limit retired begun history = (number : ℕ) × RanRounds plan limit (fresh_players (length plan.jobs)) begun (why_ended retired) number history
