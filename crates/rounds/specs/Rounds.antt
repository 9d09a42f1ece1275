-- For readers: rounds of turns, as the history has them.
use Rattle.std.specs.Prelude.{Bool, true, false, ◌&&◌, ◌≡◌, ℕ, zero, suc, ◌+◌, ◌≤◌, ◌⊎◌, List, [], ◌∷◌, ◌++◌, map}
use Rattle.lab_plan.specs.LabPlan.{LabPlan}
use Rattle.legal_steps.specs.declared.event.Event.{Event}
use Rattle.legal_steps.specs.State.{State, session}
use Rattle.turns.specs.History.{events_by, known_by}
use Rattle.turns.specs.AtTheEnd.{AllRetired, BothKnow}
use Rattle.turns.specs.Lists.{StartsWith}
use Rattle.turns.specs.Patience.{Waited, waited_in, no_wait}
use Rattle.edge_rule.specs.DeskView.{DeskView, BenchView, waits}
use Rattle.edge_rule.specs.Company.{jobs_of}
use Rattle.turns.specs.Turn.{Visit, IsTurnBy, is_done, is_lost, count, once}
use Rattle.turns.specs.Turns.{waited_next}
use Rattle.session_layer.specs.declared.turning.Turned.{Turned}
use Rattle.session_layer.specs.declared.turning.Turned.TheVariants as answers
use Rattle.session_layer.specs.Turn.{Says}
use Rattle.rounds.specs.declared.ended.Ended.{Ended}
use Rattle.rounds.specs.declared.ended.Ended.TheVariants as reasons
use Rattle.rounds.specs.Company.{first_front, IsWhole, Company}

-- what a job knows by its own events in the history
abbrev pub known_in : LabPlan → List Event → ℕ → State
known_in plan h j = known_by plan (events_by j h)

-- a job that takes turns, and its count of patience
pub record Player : Type 0 where
  pub job : ℕ
  pub waited : Waited

abbrev pub no_player : Player
no_player = record { job = 0; waited = no_wait }

abbrev pub player_of : DeskView → Player
player_of d = record { job = d.job; waited = waits d.clock }

abbrev pub players_of : List DeskView → List Player
players_of desks = map player_of desks

-- the count of patience of the player's present session
abbrev pub waited_so_far : LabPlan → Player → List Event → ℕ
waited_so_far plan x h = waited_in x.waited (session (known_in plan h x.job) x.job)

-- the player after a turn with these events
abbrev pub player_after : LabPlan → Player → List Event → List Event → Player
player_after plan x h events = record { job = x.job; waited = waited_next plan x.job x.waited (known_in plan h x.job) events }

-- The history goes on with one turn of the player, in which no exchange was lost
pub record Plays (plan : LabPlan) (x : Player) (h : List Event) (r : Turned) (h' : List Event) (x' : Player) : Type 0 where
  pub visits : List Visit
  pub acts : List Event
  pub events : List Event
  pub after : h' ≡ h ++ events
  pub turn : IsTurnBy plan x.job (waited_so_far plan x h) (known_in plan h x.job) visits acts events
  pub none_lost : count is_lost visits ≡ 0
  pub says : Says r (count is_done visits + once acts) 0
  pub counted : x' ≡ player_after plan x h events

abbrev pub is_idle : Turned → Bool
is_idle (answers.Acted n) = false
is_idle answers.Moved = false
is_idle answers.Idle = true

-- one turn of each of the players, in this order; idle says whether all were idle
abbrev pub Round : LabPlan → List Player → Bool → List Event → List Event → List Player → Type 0
Round plan [] idle h h' players' = (h' ≡ h) × (idle ≡ true) × (players' ≡ [])
Round plan (x ∷ players) idle h h' players' =
    (r : Turned) × (m : List Event) × (x' : Player) × (later : Bool) × (rest : List Player) × Plays plan x h r m x' × Round plan players later m h' rest
    × (idle ≡ (is_idle r && later)) × (players' ≡ x' ∷ rest)

-- nothing more is to come: all jobs are retired, or the last round was quiet; idle says that there was one, all of whose turns were idle
abbrev pub IsOver : LabPlan → Bool → List Event → Type 0
IsOver plan idle h = AllRetired plan h ⊎ ((idle ≡ true) × BothKnow plan h)

-- this many rounds, none of which came after all was over; idle says whether there was a last one, all of whose turns were idle
abbrev pub Rounds : LabPlan → List Player → ℕ → Bool → List Event → List Event → List Player → Type 0
Rounds plan players zero idle h h' players' = (h' ≡ h) × (idle ≡ false) × (players' ≡ players)
Rounds plan players (suc n) idle h h' players' =
    (m : List Event) × (before : Bool) × (middle : List Player) × Rounds plan players n before h m middle
    × ¬ IsOver plan before m × Round plan middle idle m h' players'

-- why rounds ended after n of them
abbrev pub Why : LabPlan → List Event → Ended → Bool → ℕ → ℕ → Type 0
Why plan h reasons.AllRetired idle n limit = AllRetired plan h
Why plan h reasons.Quiet idle n limit = ¬ AllRetired plan h × (idle ≡ true) × BothKnow plan h
Why plan h reasons.Limit idle n limit = ¬ IsOver plan idle h × (n ≡ limit)
Why plan h reasons.NoMemory idle n limit = ⊥

-- this many rounds were played from the history h to new, where the desks stand then
pub record Played (b : BenchView) (limit : ℕ) (players : List Player) (h : List Event)
    (ended : Ended) (n : ℕ) (new : List Event) (desks : List DeskView) : Type 0 where
  pub idle : Bool
  pub rounds : Rounds b.plan players n idle h new (players_of desks)
  pub most : n ≤ limit
  pub why : Why b.plan new ended idle n limit

-- This many rounds were driven, from a history that begins with what the first desk had seen, and has every record whole. Then the first desk's front has every
-- record whole
pub record Drove (b : BenchView) (limit : ℕ) (old : List DeskView) (ended : Ended) (n : ℕ) (new : List DeskView) : Type 0 where
  pub start : List Event
  pub begins : StartsWith start (first_front old)
  pub whole : IsWhole start old
  pub idle : Bool
  pub rounds : Rounds b.plan (players_of old) n idle start (first_front new) (players_of new)
  pub most : n ≤ limit
  pub why : Why b.plan (first_front new) ended idle n limit
  pub jobs : jobs_of new ≡ jobs_of old
  pub company : Company b (first_front new) new
