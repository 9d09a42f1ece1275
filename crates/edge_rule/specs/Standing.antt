-- Where a bench opens: in the state after what came before, each desk with what its job knows by its own events in it.
use Rattle.std.specs.Prelude.{◌≡◌, ◌≢◌, ℕ, ◌<◌, List, length, slice_get, slice_index, slice_index_or, Some}
use Rattle.lab_plan.specs.LabPlan.{LabPlan, edges}
use Rattle.instrument_log.specs.InstrumentLog.{LogView}
use Rattle.legal_steps.specs.declared.edge_state.EdgeState.{EdgeState}
use Rattle.legal_steps.specs.declared.event.Event.{Event}
use Rattle.legal_steps.specs.declared.phase.Drinking.TheVariants.{Reaching}
use Rattle.legal_steps.specs.State.{Seat, seat, no_edge}
use Rattle.legal_steps.specs.Counting.{counts_of}
use Rattle.legal_steps.specs.WholeLogs.{log_with_room}
use Rattle.edge_word.specs.Words.{word_of}
use Rattle.edge_word.specs.Phases.{phase_word_of}
use Rattle.one_history.specs.Rule.{edge_place, phase_place, word_count}
use Rattle.turns.specs.History.{IsHistory, state_after, events_by, known_by}
use Rattle.edge_rule.specs.declared.job_knowledge.JobKnowledge.{JobKnowledge}
use Rattle.edge_rule.specs.ClosedView.{log_at}

abbrev pub seat_known : {A : Type 0} → JobKnowledge A → Seat
seat_known k = record { phase = k.phase; fork_marks = k.fork_marks.items; bottle_marks = k.bottle_marks.items }

-- what the job knows by its own events in the past; it doesn't reach
pub record IsKnownAfter {A : Type 0} (plan : LabPlan) (past : List Event) (j : ℕ) (k : JobKnowledge A) : Type 0 where
  pub own : seat (known_by plan (events_by j past)) j ≡ seat_known k
  pub seen : (known_by plan (events_by j past)).edges ≡ k.seen.items
  pub counts : counts_of j (events_by j past) ≡ k.counts
  pub rests : k.phase.drinking ≢ Reaching

-- each of these is what the job of its number knows
abbrev pub AllKnownAfter : {A : Type 0} → LabPlan → List Event → List (JobKnowledge A) → Type 0
AllKnownAfter {A} plan past known = (j : ℕ) (k : JobKnowledge A) → slice_get known j ≡ Some k → IsKnownAfter plan past j k

-- the past is legal from the initial state, the edges and the logs are those of the state after it,
-- and each job knows what it knows by its own events in it
pub record StandsAfter {A : Type 0} (plan : LabPlan) (past : List Event) (there : List EdgeState) (known : List (JobKnowledge A))
    (logs : List LogView) : Type 0 where
  pub legal : IsHistory plan past
  pub edges_there : (state_after plan past).edges ≡ there
  pub one_each : length known ≡ length plan.jobs
  pub known_there : AllKnownAfter plan past known
  pub logs_there : length logs ≡ length plan.instruments
  pub logs_are : (i : ℕ) → i < length plan.instruments → log_at logs i ≡ log_with_room plan (state_after plan past) i

-- another copy of it
pub record IsSameKnowledge {A : Type 0} (k : JobKnowledge A) (copy : JobKnowledge A) : Type 0 where
  pub own : seat_known copy ≡ seat_known k
  pub seen : copy.seen.items ≡ k.seen.items
  pub counts : copy.counts ≡ k.counts

-- ---- the words

-- the words of the first n edges are written
pub record AreEdgeWords (plan : LabPlan) (there : List EdgeState) (n : ℕ) (words : List ℕ) : Type 0 where
  pub wide : length words ≡ word_count plan
  pub written : (e : ℕ) → e < n → slice_index words (edge_place e) ≡ word_of (slice_index_or there e no_edge)

-- those of all edges, and of the first n phases
pub record AreWordsOf {A : Type 0} (plan : LabPlan) (there : List EdgeState) (known : List (JobKnowledge A)) (n : ℕ) (words : List ℕ) : Type 0 where
  pub edges_written : AreEdgeWords plan there (length (edges plan)) words
  pub phases_written : (j : ℕ) (k : JobKnowledge A) → j < n → slice_get known j ≡ Some k
      → slice_index words (phase_place plan j) ≡ phase_word_of k.phase
