-- What is true of the fields of a bench that was closed.
use Rattle.std.specs.Prelude.{◌≡◌, ℕ, ◌<◌, List, length, slice_index}
use Rattle.std.specs.Mem.Slots.{slots_items, IsFull}
use Rattle.lab_plan.specs.LabPlan.{LabPlan, edges, bottles}
use Rattle.lab_plan.specs.IsPlan.{IsPlan}
use Rattle.legal_steps.specs.declared.edge_state.EdgeState.{EdgeState}
use Rattle.legal_steps.specs.declared.phase.JobState.{JobState}
use Rattle.edge_word.specs.Words.{word_of, IsOfBottles}
use Rattle.edge_word.specs.Phases.{phase_word_of, FitsPhaseWord}
use Rattle.one_history.specs.Rule.{edge_place, phase_place, word_count}
use Rattle.edge_rule.specs.ClosedView.{ClosedView}
use Rattle.edge_rule.specs.Ending.{HasLegalLogs}
use Rattle.edge_rule.specs.declared.closed.Closed.TheInside.{Inside}

abbrev pub view_of : {A : Type 0} → Inside A → ClosedView
view_of c = record { plan = c.plan.now; words = slots_items c.left.words; logs = slots_items c.left.slots; counts = c.counts.items }

-- the words spell edges and phases of the plan
pub record AreWords (plan : LabPlan) (words : List ℕ) : Type 0 where
  pub wide : length words ≡ word_count plan
  pub edges_fit : (e : ℕ) → e < length (edges plan) → (x : EdgeState) × (slice_index words (edge_place e) ≡ word_of x) × IsOfBottles (length (bottles plan e)) x
  pub phases_fit : (j : ℕ) → j < length plan.jobs → (x : JobState) × (slice_index words (phase_place plan j) ≡ phase_word_of x) × FitsPhaseWord x

pub record IsClosed {A : Type 0} (c : Inside A) : Type 0 where
  pub is_plan : IsPlan c.plan.now
  pub full : IsFull c.left.words × IsFull c.left.slots
  pub words : AreWords c.plan.now (slots_items c.left.words)
  pub logs_there : length (slots_items c.left.slots) ≡ length c.plan.now.instruments
  pub counts_there : length c.counts.items ≡ length c.plan.now.jobs
  pub legal_logs : HasLegalLogs c.plan.now (view_of c)
