-- For readers: rounds don't end because nothing is left to do.
use Rattle.std.specs.Prelude.{true, ◌≡◌, ◌≢◌, ℕ, ◌<◌, List, [], length, map}
use Rattle.lab_plan.specs.LabPlan.{LabPlan}
use Rattle.legal_steps.specs.declared.event.Event.{Event}
use Rattle.legal_steps.specs.declared.phase.Drinking.TheVariants.{Reaching}
use Rattle.legal_steps.specs.State.{drinking}
use Rattle.turns.specs.History.{IsHistory, state_after}
use Rattle.edge_rule.specs.Ending.{Any}
use Rattle.edge_rule.specs.Company.{Distinct}
use Rattle.turns.specs.AtTheEnd.{AllRetired, BothKnow}
use Rattle.rounds.specs.Rounds.{Player, Rounds}

abbrev pub jobs_in : List Player → List ℕ
jobs_in players = map (λ (x : Player). x.job) players

-- every job of the plan is a player's
abbrev pub HasAllPlayers : LabPlan → List Player → Type 0
HasAllPlayers plan players = (j : ℕ) → j < length plan.jobs → Any (λ (i : ℕ). i ≡ j) (jobs_in players)

-- no job is reaching for a log after the history
abbrev pub NoneReaches : LabPlan → List Event → Type 0
NoneReaches plan h = (j : ℕ) → j < length plan.jobs → drinking (state_after plan h) j ≢ Reaching

-- Rounds of all jobs, from a history after which none is reaching: if every turn of the last one was idle, and both ends of every edge know the same of it,
-- all jobs are retired
abbrev pub NoQuietEndFromRest : Type 0
NoQuietEndFromRest = (plan : LabPlan) (players players' : List Player) (n : ℕ) (start h : List Event)
    → HasAllPlayers plan players → Distinct (jobs_in players) → NoneReaches plan start → IsHistory plan h
    → Rounds plan players n true start h players' → BothKnow plan h → AllRetired plan h

-- the same from the opening, after which none is
abbrev pub NoQuietEnd : Type 0
NoQuietEnd = (plan : LabPlan) (players players' : List Player) (n : ℕ) (h : List Event)
    → HasAllPlayers plan players → Distinct (jobs_in players) → IsHistory plan h
    → Rounds plan players n true [] h players' → BothKnow plan h → AllRetired plan h
