-- The desks of all jobs of a bench, as one company.
use Rattle.std.specs.Prelude.{Bool, true, ◌&&◌, ◌≡◌, ℕ, ◌<◌, List, [], ◌∷◌, length, ◌==◌, if◌then◌else◌}
use Rattle.lab_plan.specs.LabPlan.{LabPlan, ends}
use Rattle.legal_steps.specs.declared.event.Event.{Event}
use Rattle.legal_steps.specs.declared.edge_state.EdgeState.{EdgeState}
use Rattle.legal_steps.specs.State.{edge, no_edge}
use Rattle.turns.specs.History.{IsHistory, events_by}
use Rattle.turns.specs.Lists.{StartsWith, Each}
use Rattle.edge_rule.specs.DeskView.{DeskView, BenchView, Owns, IsAtRest, known}
use Rattle.edge_rule.specs.Ending.{Any}
use Rattle.session_layer.specs.Retired.{is_retired}

-- the history that the first desk has seen
abbrev pub first_front : List DeskView → List Event
first_front [] = []
first_front (d ∷ desks) = d.front

-- every job of the plan is in the list
abbrev pub AllOf : LabPlan → List ℕ → Type 0
AllOf plan js = (m : ℕ) → m < length plan.jobs → Any (λ (j : ℕ). j ≡ m) js

-- the history has the record of each desk as the events of its job, all of them
abbrev pub IsWhole : List Event → List DeskView → Type 0
IsWhole h desks = Each (λ (d : DeskView). events_by d.job h ≡ d.deeds) desks

-- The desks are of this bench and at rest, and the history begins with what each has seen. It may have more of a job than its record so far
pub record Spread (b : BenchView) (h : List Event) (desks : List DeskView) : Type 0 where
  pub own : Each (Owns b) desks
  pub rest : Each IsAtRest desks
  pub legal : IsHistory b.plan h
  pub starts : Each (λ (d : DeskView). StartsWith h d.front) desks

-- The same, and every record is whole in the history
pub record Company (b : BenchView) (h : List Event) (desks : List DeskView) : Type 0 where
  pub own : Each (Owns b) desks
  pub rest : Each IsAtRest desks
  pub legal : IsHistory b.plan h
  pub starts : Each (λ (d : DeskView). StartsWith h d.front) desks
  pub whole : IsWhole h desks

-- ---- tests

-- the job of each of the desks is retired
abbrev pub all_retired : List DeskView → Bool
all_retired [] = true
all_retired (d ∷ desks) = is_retired d && all_retired desks

-- the edge as the desk of this job saw it last
abbrev pub seen_by : List DeskView → ℕ → ℕ → EdgeState
seen_by [] j e = no_edge
seen_by (d ∷ desks) j e = if d.job == j then edge (known d) e else seen_by desks j e

-- on the edges below n, the desks at both ends saw the same
abbrev pub IsAgreed : List DeskView → LabPlan → ℕ → Type 0
IsAgreed desks plan n = (e : ℕ) → e < n → seen_by desks (ends plan e).0 e ≡ seen_by desks (ends plan e).1 e
