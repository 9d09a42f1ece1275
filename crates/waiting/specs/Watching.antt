-- Desks that are looked at after each round, and what is told of the rounds.
use Rattle.std.specs.Prelude.{◌≡◌, ℕ, ◌+◌, ◌<◌, ◌≤◌, Bool, true, false, List, [], ◌∷◌, ◌++◌, length, take, slice_index_or}
use Rattle.std.specs.List.{range_with_len}
use Rattle.lab_plan.specs.LabPlan.{LabPlan}
use Rattle.legal_steps.specs.declared.event.Event.{Event}
use Rattle.legal_steps.specs.State.{phase}
use Rattle.turns.specs.History.{IsHistory, events_by}
use Rattle.turns.specs.Lists.{Each}
use Rattle.turns.specs.Turn.{Visit, IsTurnBy}
use Rattle.edge_rule.specs.DeskView.{DeskView, BenchView, Owns, known}
use Rattle.edge_rule.specs.Company.{jobs_of}
use Rattle.rounds.specs.declared.ended.Ended.{Ended}
use Rattle.rounds.specs.declared.ended.Ended.TheVariants.{AllRetired, Quiet, Limit, NoMemory}
use Rattle.rounds.specs.Company.{first_front, IsWhole}
use Rattle.rounds.specs.Rounds.{Rounds, known_in, players_of}
use Rattle.rounds.specs.FromOpening.{fresh_players, opened}
use Rattle.waiting.specs.Rounds.{joined, IsAfter, AreRoundsOf}
use Rattle.waiting.specs.Sessions.{deeds_of, sessions_of, meals_of}
use Rattle.waiting.specs.Noting.{LogView, log_then}
use Rattle.waiting.specs.Waits.{JobRounds}

abbrev pub is_all_retired : Ended → Bool
is_all_retired AllRetired = true
is_all_retired Quiet = false
is_all_retired Limit = false
is_all_retired NoMemory = false

-- ---- desks after rounds

-- the desks stand after these rounds of all jobs from the initial state
pub record Stands (b : BenchView) (rounds : List (List Event)) (desks : List DeskView) : Type 0 where
  pub jobs : jobs_of desks ≡ jobs_of (opened b)
  pub own : Each (Owns b) desks
  pub front : first_front desks ≡ joined rounds
  pub legal : IsHistory b.plan (joined rounds)
  pub whole : IsWhole (joined rounds) desks
  pub each : (k : ℕ) → k ≤ length rounds → IsAfter b.plan k (joined (take k rounds))
  pub idle : Bool
  pub now : Rounds b.plan (fresh_players (length b.plan.jobs)) (length rounds) idle [] (joined rounds) (players_of desks)

-- the desk is job j's, and knows what the job does by its events of this history
pub record DeskKnows (plan : LabPlan) (h : List Event) (j : ℕ) (d : DeskView) : Type 0 where
  pub plan_is : d.plan ≡ plan
  pub job_is : d.job ≡ j
  pub known_is : known d ≡ known_in plan h j

-- there is a desk of each job, in their order
pub record KnowAll (plan : LabPlan) (h : List Event) (desks : List DeskView) : Type 0 where
  pub many : length desks ≡ length plan.jobs
  pub each : (j : ℕ) (d : DeskView) → j < length plan.jobs → DeskKnows plan h j (slice_index_or desks j d)

-- job j had one turn between these histories
pub record HadTurn (plan : LabPlan) (j : ℕ) (h g : List Event) : Type 0 where
  pub waited : ℕ
  pub visits : List Visit
  pub acts : List Event
  pub events : List Event
  pub own : events_by j g ≡ events_by j h ++ events
  pub turn : IsTurnBy plan j waited (known_in plan h j) visits acts events

-- after these rounds one more was done, which has this number and these events: each job had a turn, and each desk knows what its job has done
pub record OneMore (plan : LabPlan) (rounds : List (List Event)) (events : List Event) (round : ℕ) (desks : List DeskView) : Type 0 where
  pub number : round ≡ length rounds + 1
  pub front : first_front desks ≡ joined (rounds ++ events ∷ [])
  pub legal : IsHistory plan (joined (rounds ++ events ∷ []))
  pub turns : (j : ℕ) → j < length plan.jobs → HadTurn plan j (joined rounds) (joined (rounds ++ events ∷ []))
  pub know : KnowAll plan (first_front desks) desks

-- ---- who watches

-- the round of this number was done, and what was told before it is told of the rounds before it
pub record MayNote (plan : LabPlan) (desks : List DeskView) (round : ℕ) (tells : List (List Event) → Type 0) : Type 0 where
  pub rounds : List (List Event)
  pub events : List Event
  pub more : OneMore plan rounds events round desks
  pub told : tells rounds

-- what is told then is told of that round too
abbrev pub Notes : LabPlan → List DeskView → ℕ → (List (List Event) → Type 0) → (List (List Event) → Type 0) → Type 0
Notes plan desks round before after =
    (rounds : List (List Event)) (events : List Event) → OneMore plan rounds events round desks → before rounds → after (rounds ++ events ∷ [])

-- a run by at most this many rounds was watched: this many were done, and this is told of them
pub record Watched (plan : LabPlan) (limit n : ℕ) (retired : Bool) (tells : List (List Event) → Type 0) : Type 0 where
  pub rounds : List (List Event)
  pub are_rounds : AreRoundsOf plan limit retired rounds
  pub number : n ≡ length rounds
  pub told : tells rounds

-- ---- the logs of all jobs

abbrev pub logs_then : ℕ → List DeskView → List LogView → List LogView
logs_then k [] logs = logs
logs_then k (d ∷ desks) [] = []
logs_then k (d ∷ desks) (x ∷ logs) = log_then k (phase (known d) d.job) x ∷ logs_then k desks logs

-- of a job after these rounds
pub record KnowsJob (plan : LabPlan) (rounds : List (List Event)) (j : ℕ) (x : LogView) : Type 0 where
  pub phase_is : x.phase ≡ phase (known_in plan (joined rounds) j) j
  pub sessions_are : x.sessions ≡ sessions_of (deeds_of j rounds)
  pub meals_are : x.meals ≡ meals_of (deeds_of j rounds)

-- of these jobs, one after another
abbrev pub KnowsAll : LabPlan → List (List Event) → List ℕ → List LogView → Type 0
KnowsAll plan rounds [] logs = logs ≡ []
KnowsAll plan rounds (j ∷ jobs) [] = ⊥
KnowsAll plan rounds (j ∷ jobs) (x ∷ logs) = KnowsJob plan rounds j x × KnowsAll plan rounds jobs logs

-- of all jobs of the plan
abbrev pub LogsTell : LabPlan → List LogView → List (List Event) → Type 0
LogsTell plan logs rounds = KnowsAll plan rounds (range_with_len 0 (length plan.jobs)) logs

abbrev pub told : LogView → JobRounds
told x = record { sessions = x.sessions; meals = x.meals }
