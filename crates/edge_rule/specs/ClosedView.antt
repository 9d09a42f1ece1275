-- What contracts see of a bench that was closed.
use Rattle.std.specs.Prelude.{ℕ, List, slice_index, slice_index_or}
use Rattle.lab_plan.specs.LabPlan.{LabPlan}
use Rattle.instrument_log.specs.InstrumentLog.{LogView, empty_log}
use Rattle.legal_steps.specs.declared.edge_state.EdgeState.{EdgeState}
use Rattle.legal_steps.specs.declared.phase.JobState.{JobState}
use Rattle.edge_word.specs.Words.{state_of}
use Rattle.edge_word.specs.Phases.{phase_of}
use Rattle.one_history.specs.Rule.{edge_place, phase_place}
use Rattle.legal_steps.specs.declared.counts.Counts.{Counts}
use Rattle.legal_steps.specs.Counting.{no_counts}

pub record ClosedView : Type 0 where
  pub plan : LabPlan
  pub words : List ℕ
  pub logs : List LogView
  -- the counts of each job
  pub counts : List Counts

-- edge e, the phase of job j, the log of instrument i, and the counts of job j
abbrev pub edge_in : ClosedView → ℕ → EdgeState
edge_in c e = state_of (slice_index c.words (edge_place e))

abbrev pub phase_in : ClosedView → ℕ → JobState
phase_in c j = phase_of (slice_index c.words (phase_place c.plan j))

abbrev pub log_at : List LogView → ℕ → LogView
log_at logs i = slice_index_or logs i (empty_log 0)

abbrev pub log_in : ClosedView → ℕ → LogView
log_in c i = log_at c.logs i

abbrev pub counts_in : ClosedView → ℕ → Counts
counts_in c j = slice_index_or c.counts j no_counts
