-- A state that fits its plan: all its numbers are the plan's.
use Rattle.std.specs.Prelude.{◌≡◌, ℕ, ◌<◌, ◌≤◌, length, slice_index_or}
use Rattle.lab_plan.specs.LabPlan.{LabPlan, edges, sessions, commands}
use Rattle.legal_steps.specs.declared.phase.Drinking.TheVariants.{Reaching}
use Rattle.legal_steps.specs.declared.phase.JobState.{JobState}
use Rattle.legal_steps.specs.State.{State, Seat, IsOfEdge, IsInSession, edge, seat}

-- how far a job of the plan may be: its session is one of the job's, and its position is within the session,
-- with a command left if it reaches
pub record IsPhaseOf (plan : LabPlan) (j : ℕ) (phase : JobState) : Type 0 where
  pub session_there : phase.session ≤ length (sessions plan j)
  pub begun : IsInSession phase.drinking → 1 ≤ phase.session
  pub position_there : phase.position ≤ length (commands plan j phase.session)
  pub command_left : phase.drinking ≡ Reaching → phase.position < length (commands plan j phase.session)

-- a seat fits a job of the plan: it has marks for each edge, and the job may be so far
pub record IsSeatOf (plan : LabPlan) (j : ℕ) (x : Seat) : Type 0 where
  pub fork_marks_there : length x.fork_marks ≡ length (edges plan)
  pub bottle_marks_there : length x.bottle_marks ≡ length (edges plan)
  pub bottle_marks_fit : (e : ℕ) → e < length (edges plan) → IsOfEdge plan e (slice_index_or x.bottle_marks e 0)
  pub phase_within : IsPhaseOf plan j x.phase

-- a state fits the plan: each of its edges, with sets of its bottles alone, a seat that fits each job, a log for each instrument
pub record Fits (plan : LabPlan) (s : State) : Type 0 where
  pub edges_there : length s.edges ≡ length (edges plan)
  pub bottles_fit : (e : ℕ) → e < length (edges plan) → IsOfEdge plan e (edge s e).bottles
  pub tokens_fit : (e : ℕ) → e < length (edges plan) → IsOfEdge plan e (edge s e).bottle_tokens
  pub seats_there : length s.seats ≡ length plan.jobs
  pub logs_there : length s.logs ≡ length plan.instruments
  pub seats_fit : (j : ℕ) → j < length plan.jobs → IsSeatOf plan j (seat s j)
