-- Each event takes its edge where the move says, and leaves as many edges.
use Rattle.std.proofs.Common.{◌≡◌, ℕ, ◌<◌, length, length-set}
use Rattle.lab_plan.specs.LabPlan.{LabPlan}
use Rattle.legal_steps.specs.declared.edge_state.EdgeState.{EdgeState}
use Rattle.legal_steps.specs.declared.event.Event.TheVariants.{AskFork, GiveFork, Soil, AskBottles, GiveBottles}
use Rattle.legal_steps.specs.State.{State, edge}
use Rattle.legal_steps.specs.Legal.{after, fork_asked, fork_given, fork_soiled, bottles_asked, bottles_given}
use Rattle.legal_steps.proofs.FitsWrites.{edge_same}

-- an event on edge e changes that edge so, and leaves as many
pub record Changes (s s' : State) (e : ℕ) (f : EdgeState → EdgeState) : Type 0 where
  pub changed : edge s' e ≡ f (edge s e)
  pub as_many : length s'.edges ≡ length s.edges

pub GiveFork-changes : (plan : LabPlan) (s : State) (j e : ℕ) → e < length s.edges → Changes s (after plan s (GiveFork j e)) e fork_given
GiveFork-changes plan s j e h = record { changed = edge_same s e _ h; as_many = simp length-set }

pub AskFork-changes : (plan : LabPlan) (s : State) (j e : ℕ) → e < length s.edges → Changes s (after plan s (AskFork j e)) e fork_asked
AskFork-changes plan s j e h = record { changed = edge_same s e _ h; as_many = simp length-set }

pub Soil-changes : (plan : LabPlan) (s : State) (j e : ℕ) → e < length s.edges → Changes s (after plan s (Soil j e)) e fork_soiled
Soil-changes plan s j e h = record { changed = edge_same s e _ h; as_many = simp length-set }

pub AskBottles-changes : (plan : LabPlan) (s : State) (j e set : ℕ) → e < length s.edges → Changes s (after plan s (AskBottles j e set)) e (bottles_asked set)
AskBottles-changes plan s j e set h = record { changed = edge_same s e _ h; as_many = simp length-set }

pub GiveBottles-changes : (plan : LabPlan) (s : State) (j e set : ℕ) → e < length s.edges → Changes s (after plan s (GiveBottles j e set)) e (bottles_given set)
GiveBottles-changes plan s j e set h = record { changed = edge_same s e _ h; as_many = simp length-set }
