-- For readers: one turn of a job by its own events alone: what it knows, event by event.
use Rattle.std.specs.Prelude.{◌≡◌, ℕ, ◌+◌, Bool, not, ◌&&◌, if◌then◌else◌, List, [], ◌∷◌, ◌++◌, map}
use Rattle.lab_plan.specs.LabPlan.{LabPlan, edges_of}
use Rattle.legal_steps.specs.declared.edge_state.EdgeState.{EdgeState}
use Rattle.legal_steps.specs.declared.event.Event.{Event}
use Rattle.legal_steps.specs.declared.event.Event.TheVariants.{Look}
use Rattle.legal_steps.specs.State.{State}
use Rattle.edge_word.specs.declared.moves.EdgeMoves.{EdgeMoves}
use Rattle.edge_word.specs.Moves.{events_of, is_nothing}
use Rattle.turns.specs.History.{learned, learned_all}
use Rattle.turns.specs.Due.{AreDue}
use Rattle.turns.specs.Acts.{AreActs}

-- one visit of an edge: what the look saw, the moves that this made due, and whether their exchange found another word
pub record Visit : Type 0 where
  pub edge : ℕ
  pub saw : EdgeState
  pub moves : EdgeMoves
  pub lost : Bool

abbrev pub is_done : Visit → Bool
is_done v = not (is_nothing v.moves) && not v.lost

abbrev pub is_lost : Visit → Bool
is_lost v = not (is_nothing v.moves) && v.lost

-- 1 if something was done, in however many events
abbrev pub once : List Event → ℕ
once [] = 0
once (event ∷ events) = 1

abbrev pub count : (Visit → Bool) → List Visit → ℕ
count f [] = 0
count f (v ∷ vs) = (if f v then 1 else 0) + count f vs

-- the events of a visit: a look, and the moves if their exchange was done
abbrev pub visit_events : ℕ → Visit → List Event
visit_events j v = Look j v.edge v.saw ∷ (if v.lost then [] else events_of v.moves j v.edge)

abbrev pub visits_events : ℕ → List Visit → List Event
visits_events j [] = []
visits_events j (v ∷ vs) = visit_events j v ++ visits_events j vs

-- in each visit what the look made due is what was tried
abbrev pub AreVisits : LabPlan → ℕ → State → List Visit → Type 0
AreVisits plan j s [] = Unit {0}
AreVisits plan j s (v ∷ vs) = AreDue plan (learned plan s (Look j v.edge v.saw)) j v.edge v.moves × AreVisits plan j (learned_all plan s (visit_events j v)) vs

-- the events of one turn of a job that knew s and had waited so long. That a lost exchange found another word isn't said by the job's own
-- events: Stands says so
-- of the history
pub record IsTurnBy (plan : LabPlan) (j waited : ℕ) (s : State) (visits : List Visit) (acts events : List Event) : Type 0 where
  pub edges : map (λ (v : Visit). v.edge) visits ≡ edges_of plan j
  pub due : AreVisits plan j s visits
  pub acts_due : AreActs plan (learned_all plan s (visits_events j visits)) j waited acts
  pub events_are : events ≡ visits_events j visits ++ acts

abbrev pub IsTurn : LabPlan → ℕ → ℕ → State → List Event → Type 0
IsTurn plan j waited s events = (visits : List Visit) × (acts : List Event) × IsTurnBy plan j waited s visits acts events

-- a turn of looks alone, in which nothing was due
abbrev pub IsIdleTurn : LabPlan → ℕ → ℕ → State → List Event → Type 0
IsIdleTurn plan j waited s events = (visits : List Visit) × IsTurnBy plan j waited s visits [] events × (count is_done visits ≡ 0) × (count is_lost visits ≡ 0)
