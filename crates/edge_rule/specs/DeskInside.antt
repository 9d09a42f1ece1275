-- What is true of the fields of a desk.
use Rattle.std.specs.Prelude.{◌≡◌, ◌≢◌, ℕ, ◌<◌, true, List, [], length, slice_index_or}
use Rattle.atomic_table.specs.declared.shared.Seat.{Seat as TableSeat}
use Rattle.lab_plan.specs.LabPlan.{LabPlan, edges, bottles}
use Rattle.instrument_log.specs.InstrumentLog.{LogView}
use Rattle.legal_steps.specs.declared.edge_state.EdgeState.{EdgeState}
use Rattle.legal_steps.specs.declared.phase.Drinking.TheVariants.{Reaching}
use Rattle.legal_steps.specs.declared.phase.JobState.{JobState}
use Rattle.legal_steps.specs.State.{Seat, seat, no_edge}
use Rattle.edge_word.specs.Words.{IsOfBottles}
use Rattle.one_history.specs.declared.board.View.{View}
use Rattle.edge_rule.specs.declared.clock.Clock.{Clock}
use Rattle.legal_steps.specs.declared.counts.Counts.{Counts}
use Rattle.legal_steps.specs.Counting.{counts_of}
use Rattle.turns.specs.History.{IsHistory, events_by}
use Rattle.one_history.specs.Groups.{all_of, StandUnbroken}
use Rattle.one_history.specs.Grow.{hand_in, IsMine, mine}
use Rattle.edge_rule.specs.DeskView.{DeskView}
use Rattle.edge_rule.specs.CalmEdges.{AreStill}
use Rattle.edge_rule.specs.NeededBottles.{AreNeeded}
use Rattle.turns.specs.Acts.{IsSettled}
use Rattle.edge_rule.specs.declared.desk.Desk.TheInside.{Inside}

abbrev pub seat_view : Clock → TableSeat LogView View → DeskView
seat_view k s = record {
  table = s.table_id;
  plan = (hand_in s.me.0).plan;
  job = (hand_in s.me.0).job;
  front = s.me.0.front;
  deeds = (hand_in s.me.0).deeds;
  groups = (hand_in s.me.0).groups;
  clock = k;
}

abbrev pub view_of : {A : Type 0} → Inside A → DeskView
view_of d = seat_view d.clock d.seat

-- the seat of the core that the fields are
abbrev pub kept : {A : Type 0} → Inside A → Seat
kept d = record { phase = d.phase; fork_marks = d.fork_marks.items; bottle_marks = d.bottle_marks.items }

-- what no step but one of the job's phase changes
abbrev pub fixed : {A : Type 0} → Inside A → ℕ × Counts × JobState × List ℕ
fixed d = (d.job, d.counts, d.phase, d.needed.items)

-- the edges have bottles of their own alone
abbrev pub AreOfPlan : LabPlan → List EdgeState → Type 0
AreOfPlan plan seen = (e : ℕ) → e < length (edges plan) → IsOfBottles (length (bottles plan e)) (slice_index_or seen e no_edge)

-- the view of a desk's seat at rest
pub record AtRest (v : View) : Type 0 where
  pub mine : IsMine v
  pub inside : (hand_in v).job < length (hand_in v).plan.jobs
  pub none_told : v.told ≡ []
  pub legal : IsHistory (hand_in v).plan v.front
  pub whole : events_by (hand_in v).job v.front ≡ (hand_in v).deeds
  pub groups : (all_of (hand_in v).groups ≡ (hand_in v).deeds) × StandUnbroken (hand_in v).groups v.front

pub record IsDesk {A : Type 0} (d : Inside A) : Type 0 where
  pub at_rest : AtRest d.seat.me.0
  pub empty : d.seat.me.1 ≡ []
  pub job : (hand_in d.seat.me.0).job ≡ d.job
  pub counts : counts_of (hand_in d.seat.me.0).job (hand_in d.seat.me.0).deeds ≡ d.counts
  pub own : seat (mine d.seat.me.0) (hand_in d.seat.me.0).job ≡ kept d
  pub seen : (mine d.seat.me.0).edges ≡ d.seen.items
  pub of_plan : AreOfPlan (hand_in d.seat.me.0).plan d.seen.items
  pub calm : AreStill (hand_in d.seat.me.0).plan (mine d.seat.me.0) (hand_in d.seat.me.0).job d.calm.items
  pub settled : d.settled ≡ true → IsSettled (hand_in d.seat.me.0).plan (mine d.seat.me.0) (hand_in d.seat.me.0).job
  pub needed : AreNeeded (hand_in d.seat.me.0).plan (hand_in d.seat.me.0).job d.phase d.needed.items
  pub rests : d.phase.drinking ≢ Reaching
