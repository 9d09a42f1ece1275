-- For readers: the run of a plan by rounds, cut into its rounds.
use Rattle.std.specs.Prelude.{ℕ, ◌≤◌, Bool, List, [], length, take}
use Rattle.std.specs.List.{flat_map}
use Rattle.lab_plan.specs.LabPlan.{LabPlan}
use Rattle.legal_steps.specs.declared.event.Event.{Event}
use Rattle.rounds.specs.Rounds.{Player, Rounds}
use Rattle.rounds.specs.OneRun.{RanRounds, why_ended}
use Rattle.rounds.specs.FromOpening.{fresh_players}

-- the events of rounds, one after another
abbrev pub joined : List (List Event) → List Event
joined rounds = flat_map (λ round. round) rounds

-- the history after this many rounds of all jobs from the initial state
pub record IsAfter (plan : LabPlan) (number : ℕ) (history : List Event) : Type 0 where
  pub idle : Bool
  pub players : List Player
  pub rounds : Rounds plan (fresh_players (length plan.jobs)) number idle [] history players

-- These are the rounds of the run by at most this many: each is what its round added to the history. They ended because all jobs were
-- retired, or after this many
pub record AreRoundsOf (plan : LabPlan) (limit : ℕ) (retired : Bool) (rounds : List (List Event)) : Type 0 where
  pub ran : RanRounds plan limit (fresh_players (length plan.jobs)) [] (why_ended retired) (length rounds) (joined rounds)
  pub each : (k : ℕ) → k ≤ length rounds → IsAfter plan k (joined (take k rounds))
