-- Which bottles of its edges a job needs, as its desk keeps them.
use Rattle.std.specs.Prelude.{◌≡◌, ◌↔◌, ℕ, ◌<◌, Bool, true, false, List, length, slice_index_or}
use Rattle.lab_plan.specs.LabPlan.{LabPlan, edges, bottles, session_names}
use Rattle.legal_steps.specs.declared.phase.JobState.{JobState}
use Rattle.legal_steps.specs.State.{Has, IsOfEdge, IsOwn, IsInSession, phase}
use Rattle.legal_steps.specs.Legal.{instrument_of}
use Rattle.one_history.specs.declared.phase_event.PhaseEvent.{PhaseEvent}
use Rattle.one_history.specs.declared.phase_event.PhaseEvent.TheVariants.{Thirst, Quit, Withdraw}
use Rattle.edge_rule.specs.DeskView.{DeskView, known}

-- a job in this phase needs the instrument
pub record NeedsIn (plan : LabPlan) (j : ℕ) (phase : JobState) (i : ℕ) : Type 0 where
  pub in_session : IsInSession phase.drinking
  pub named : session_names plan j phase.session i ≡ true

-- the set has just the bottles of the edge that a job in this phase needs
pub record AreNeededIn (plan : LabPlan) (j : ℕ) (phase : JobState) (e set : ℕ) : Type 0 where
  pub of_edge : IsOfEdge plan e set
  pub just : (k : ℕ) → k < length (bottles plan e) → Has set k ↔ NeedsIn plan j phase (instrument_of plan e k)

-- those that the job needs by what it knows
abbrev pub AreNeededNow : DeskView → ℕ → ℕ → Type 0
AreNeededNow d e set = AreNeededIn d.plan d.job (phase (known d) d.job) e set

-- there is a set for each edge, and that of each own edge is so
pub record AreNeeded (plan : LabPlan) (j : ℕ) (phase : JobState) (sets : List ℕ) : Type 0 where
  pub wide : length sets ≡ length (edges plan)
  pub each : (e : ℕ) → IsOwn plan j e → AreNeededIn plan j phase e (slice_index_or sets e 0)

-- a session begins or ends
abbrev pub changes_session : PhaseEvent → Bool
changes_session Thirst = true
changes_session Quit = true
changes_session Withdraw = true
changes_session _ = false
