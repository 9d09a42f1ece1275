-- For readers: what is known of a run by rounds, of which this many were done.
use Rattle.std.specs.Prelude.{◌≡◌, ℕ, Bool, List, [], length, map, slice_index_or}
use Rattle.std.specs.List.{range_with_len}
use Rattle.lab_plan.specs.LabPlan.{LabPlan}
use Rattle.legal_steps.specs.declared.event.Event.{Event}
use Rattle.waiting.specs.Rounds.{AreRoundsOf}
use Rattle.waiting.specs.Sessions.{deeds_of, sessions_of, meals_of}
use Rattle.waiting.specs.declared.session.Session.{Session}
use Rattle.waiting.specs.declared.session.Meal.{Meal}

-- the rounds of a job's sessions and meals
pub record JobRounds : Type 0 where
  pub sessions : List Session
  pub meals : List Meal

abbrev pub rounds_of : List (List Event) → ℕ → JobRounds
rounds_of rounds j = record { sessions = sessions_of (deeds_of j rounds); meals = meals_of (deeds_of j rounds) }

pub record RunView : Type 0 where
  pub number : ℕ
  pub retired : Bool
  pub jobs : List JobRounds

-- of one job; of none if there is no such job
abbrev pub job_of : RunView → ℕ → JobRounds
job_of run j = slice_index_or run.jobs j (record { sessions = []; meals = [] })

-- what is known of these rounds of this many jobs
abbrev pub run_of : ℕ → Bool → List (List Event) → RunView
run_of jobs retired rounds = record { number = length rounds; retired = retired; jobs = map (rounds_of rounds) (range_with_len 0 jobs) }

-- the run of the plan by at most this many rounds
pub record IsRunOf (plan : LabPlan) (limit : ℕ) (run : RunView) : Type 0 where
  pub rounds : List (List Event)
  pub are_rounds : AreRoundsOf plan limit run.retired rounds
  pub known : run ≡ run_of (length plan.jobs) run.retired rounds
