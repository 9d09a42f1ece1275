-- For readers: the laws of marks, instruments, things and precedence: what holds after each beginning of a legal list of events.
use Rattle.std.specs.Prelude.{◌≡◌, ◌↔◌, ℕ, List, take}
use Rattle.lab_plan.specs.LabPlan.{LabPlan}
use Rattle.lab_plan.specs.IsPlan.{IsPlan}
use Rattle.legal_steps.specs.declared.event.Event.{Event}
use Rattle.legal_steps.specs.declared.edge_state.EndChoice.{EndChoice}
use Rattle.legal_steps.specs.State.{State}
use Rattle.legal_steps.specs.Run.{IsLegalFrom, after_all}
use Rattle.legal_steps.specs.Precedence.{IsAcyclic}
use Rattle.legal_steps.specs.Opening.{IsOpening, AreChoices, opening_of, the_opening}
use Rattle.legal_steps.specs.Fitting.{Fits}
use Rattle.legal_steps.specs.Holding.{AreTruthful, IsExclusive}
use Rattle.legal_steps.specs.Things.{Thing, IsThingOf, StandsAtOne}

-- P holds of the state after each beginning of every list that is legal from any opening state of any plan
abbrev pub Always : (LabPlan → State → Type 0) → Type 0
Always P = (plan : LabPlan) (opening : State) (events : List Event) (n : ℕ) → IsPlan plan
    → IsOpening plan opening → IsLegalFrom plan opening events → P plan (after_all plan opening (take n events))

-- all numbers of the state are the plan's
abbrev pub StaysWithinPlan : Type 0
StaysWithinPlan = Always Fits

-- marks are truthful
abbrev pub MarksAreTruthful : Type 0
MarksAreTruthful = Always AreTruthful

-- no two jobs hold one instrument
abbrev pub HasOneHolder : Type 0
HasOneHolder = Always IsExclusive

-- each thing of an edge stands at exactly one of its two jobs
abbrev pub HasOnePlace : Type 0
HasOnePlace = Always (λ plan s. (e : ℕ) (thing : Thing) → IsThingOf plan e thing → StandsAtOne plan s e thing)

-- precedence has no cycle, if it has none in the opening state
abbrev pub StaysAcyclic : Type 0
StaysAcyclic = (plan : LabPlan) (opening : State) (events : List Event) (n : ℕ) → IsPlan plan → IsOpening plan opening
    → IsAcyclic plan opening → IsLegalFrom plan opening events → IsAcyclic plan (after_all plan opening (take n events))

-- the initial state is an opening state whose precedence has no cycle
abbrev pub TheOpeningIsAcyclic : Type 0
TheOpeningIsAcyclic = (plan : LabPlan) → IsOpening plan (the_opening plan) × IsAcyclic plan (the_opening plan)

-- the opening states are those that a choice of ends gives
abbrev pub OpeningsAreChosen : Type 0
OpeningsAreChosen = (plan : LabPlan) (s : State) → IsOpening plan s ↔ ((choices : List EndChoice) × AreChoices plan choices × (s ≡ opening_of plan choices))
