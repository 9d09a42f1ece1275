-- What is due at an edge, as it is reckoned for one visit.
use Rattle.std.specs.Prelude.{◌≡◌, ℕ, Bool, true, false, not, ◌&&◌, ◌==◌, [], ◌∷◌}
use Rattle.lab_plan.specs.LabPlan.{LabPlan}
use Rattle.legal_steps.specs.declared.edge_state.EdgeState.{EdgeState}
use Rattle.legal_steps.specs.declared.phase.JobState.{JobState}
use Rattle.legal_steps.specs.State.{State, edge, end_of, phase}
use Rattle.legal_steps.specs.Fitting.{Fits}
use Rattle.legal_steps.specs.declared.event.Event.TheVariants.{Look, Drink}
use Rattle.legal_steps.specs.Legal.{May, after}
use Rattle.interleaving.specs.World.{WorldView, LeadsTo}
use Rattle.edge_word.specs.Moves.{events_of}
use Rattle.edge_word.specs.declared.moves.EdgeMoves.{EdgeMoves}
use Rattle.turns.specs.Due.{AreDue}
use Rattle.dining_layer.specs.Turned.{turned}

-- in every state in which the job is so far, and sees the edge so from its own end, these moves are due
abbrev pub AreDueBy : LabPlan → ℕ → JobState → ℕ → EdgeState → EdgeMoves → Type 0
AreDueBy plan j ph e mine m = (s : State) → Fits plan s → phase s j ≡ ph → turned plan e (end_of plan j e) (edge s e) ≡ mine → AreDue plan s j e m

-- the job looked at the edge, and then did these moves, which are all that were due there by what it saw
pub record Moves (old : WorldView) (j e : ℕ) (m : EdgeMoves) (new : WorldView) : Type 0 where
  pub due : AreDue old.plan (after old.plan old.state (Look j e (edge old.state e))) j e m
  pub leads : LeadsTo old (Look j e (edge old.state e) ∷ events_of m j e) new

-- at most the fork is soiled: nothing that the neighbour could wait for
abbrev pub are_unfelt : EdgeMoves → Bool
are_unfelt m = not m.give_fork && (m.give_bottles == 0) && not m.ask_fork && (m.ask_bottles == 0)

-- the job drank, if that was legal, and it is said whether it was
abbrev pub DrinksAlone : WorldView → ℕ → Bool → WorldView → Type 0
DrinksAlone old j true new = May old.plan old.state (Drink j) × LeadsTo old (Drink j ∷ []) new
DrinksAlone old j false new = (¬ May old.plan old.state (Drink j)) × (new ≡ old)
