-- Players of rounds, as the code has them.
use Rattle.std.specs.Prelude.{◌≡◌, ◌<◌, Bool, ◌&&◌, if◌then◌else◌, List, length, map}
use Rattle.lab_plan.specs.LabPlan.{LabPlan}
use Rattle.legal_steps.specs.declared.event.Event.{Event}
use Rattle.legal_steps.specs.declared.phase.JobState.{JobState}
use Rattle.interleaving.specs.World.{WorldView}
use Rattle.turns.specs.History.{IsHistory, state_after}
use Rattle.turns.specs.Lists.{Each}
use Rattle.turns.specs.Patience.{Waited, is_waiting, one_more, waited_in}
use Rattle.rounds.specs.Rounds as rounds
use Rattle.round_trace.specs.declared.player.Player.{Player}

abbrev pub waits : Player → Waited
waits x = record { turns = x.turns; session = x.session }

abbrev pub player_of : Player → rounds.Player
player_of x = record { job = x.job; waited = waits x }

abbrev pub players_of : List Player → List rounds.Player
players_of players = map player_of players

-- the count after a turn that left the job in this phase, at whose start it was thirsty or not
abbrev pub waited_then : Waited → Bool → JobState → Waited
waited_then w thirsty phase = record {
  turns = if thirsty && is_waiting phase.drinking then one_more 4294967295 (waited_in w phase.session) else waited_in w phase.session;
  session = phase.session;
}

-- the world stands where this history led
pub record StandsAt (w : WorldView) (h : List Event) : Type 0 where
  pub legal : IsHistory w.plan h
  pub led : w.state ≡ state_after w.plan h

-- each is a job of the plan
abbrev pub AreJobs : LabPlan → List rounds.Player → Type 0
AreJobs plan players = Each (λ (x : rounds.Player). x.job < length plan.jobs) players
