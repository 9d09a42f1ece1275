-- For readers: rounds are determined by the plan, the limit and where they began.
use Rattle.std.specs.Prelude.{◌≡◌, ℕ, ◌≤◌, Bool, List, if◌then◌else◌}
use Rattle.lab_plan.specs.LabPlan.{LabPlan}
use Rattle.legal_steps.specs.declared.event.Event.{Event}
use Rattle.turns.specs.History.{IsHistory}
use Rattle.rounds.specs.declared.ended.Ended.{Ended}
use Rattle.rounds.specs.declared.ended.Ended.TheVariants.{AllRetired, Limit}
use Rattle.rounds.specs.Rounds.{Player, Rounds, Why}

-- this many rounds of these players led from one history to another, and why they ended
pub record RanRounds (plan : LabPlan) (limit : ℕ) (players : List Player) (h : List Event) (ended : Ended) (n : ℕ) (h' : List Event) : Type 0 where
  pub idle : Bool
  pub players_then : List Player
  pub legal : IsHistory plan h'
  pub rounds : Rounds plan players n idle h h' players_then
  pub most : n ≤ limit
  pub why : Why plan h' ended idle n limit

-- why rounds ended that went on until all jobs were retired, or as often as they may
abbrev pub why_ended : Bool → Ended
why_ended retired = if retired then AllRetired else Limit

-- two that begin alike, with one limit, end alike: for the same reason, after as many rounds, with the same history
abbrev pub OneRun : Type 0
OneRun = (plan : LabPlan) (limit : ℕ) (players : List Player) (h : List Event) (ended ended' : Ended) (n n' : ℕ) (g g' : List Event)
    → RanRounds plan limit players h ended n g → RanRounds plan limit players h ended' n' g' → (ended ≡ ended') × (n ≡ n') × (g ≡ g')
