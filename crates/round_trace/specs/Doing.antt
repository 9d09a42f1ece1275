-- What a world does in a turn, and how a list of its events grows.
use Rattle.std.specs.Prelude.{◌≡◌, ◌↔◌, ℕ, Bool, true, not, ◌==◌, List, [], ◌∷◌, ◌++◌, map, Option, None, Some}
use Rattle.legal_steps.specs.declared.event.Event.{Event}
use Rattle.legal_steps.specs.Legal.{May}
use Rattle.legal_steps.specs.Run.{Runs, StopsAt}
use Rattle.legal_steps.specs.Steps.{step_events}
use Rattle.legal_steps.specs.declared.event.StepLine.{StepLine}
use Rattle.interleaving.specs.World.{WorldView}
use Rattle.edge_word.specs.Moves.{on}
use Rattle.turns.specs.Due.{after_if, IsGreatest}
use Rattle.turns.specs.Acts.{AreActs, whole_act}
use Rattle.turns.specs.Turn.{Visit, count, is_lost, AreVisits, visits_events}

-- the event was done if it is legal, and added to the list then
pub record Tries (old : WorldView) (before : List Event) (event : Event) (done : Bool) (new : WorldView) (after : List Event) : Type 0 where
  pub legal : (done ≡ true) ↔ May old.plan old.state event
  pub leads : new.state ≡ after_if old.plan done event old.state
  pub same_plan : new.plan ≡ old.plan
  pub added : after ≡ before ++ on done event []

-- all bottles of which P holds were moved together, if there are any
pub record MovesAll (P : ℕ → Type 0) (event : ℕ → Event) (e : ℕ) (old : WorldView) (before : List Event) (set : ℕ) (new : WorldView)
    (after : List Event) : Type 0 where
  pub greatest : IsGreatest old.plan e set P
  pub tries : Tries old before (event set) (not (set == 0)) new after

-- these legal events were done one after another, and added to the list
pub record Does (old : WorldView) (before : List Event) (events : List Event) (new : WorldView) (after : List Event) : Type 0 where
  pub run : Runs old.plan old.state events new.state
  pub same_plan : new.plan ≡ old.plan
  pub added : after ≡ before ++ events

-- the edges were visited in this order by one who knew the state before, and no exchange was lost
pub record VisitsEdges (old : WorldView) (before : List Event) (j : ℕ) (es : List ℕ) (new : WorldView) (after : List Event) : Type 0 where
  pub visits : List Visit
  pub edges : map (λ (v : Visit). v.edge) visits ≡ es
  pub due : AreVisits old.plan j old.state visits
  pub none_lost : count is_lost visits ≡ 0
  pub does : Does old before (visits_events j visits) new after

abbrev pub VisitsEdge : WorldView → List Event → ℕ → ℕ → WorldView → List Event → Type 0
VisitsEdge old before j e new after = VisitsEdges old before j (e ∷ []) new after

-- the events of a phase act, of a command with its Act; none if there is none
abbrev pub first_events : Option Event → List Event
first_events None = []
first_events (Some event) = whole_act event

-- the phase act was done that was due in the state before
pub record ActsDue (old : WorldView) (before : List Event) (j waited : ℕ) (new : WorldView) (after : List Event) : Type 0 where
  pub acts : List Event
  pub due : AreActs old.plan old.state j waited acts
  pub does : Does old before acts new after

-- the steps were done one after another, from no events on; or the one at this place is the first that isn't legal
abbrev pub TakesAll : WorldView → List StepLine → WorldView → List Event → Option ℕ → Type 0
TakesAll old lines new after None = Does old [] (step_events old.plan old.state (map (λ line. line.step) lines)) new after
TakesAll old lines new after (Some place) = StopsAt old.plan old.state (step_events old.plan old.state (map (λ line. line.step) lines)) place new.state
