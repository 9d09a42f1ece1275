-- Two desks that meet, by the values that contracts see.
use Rattle.std.proofs.Common.{◌≡◌, ◌≢◌, ℕ, ◌<◌, length, sym, ap, ◌∙◌, subst, arith}
use Rattle.atomic_table.specs.Seated.{TableId}
use Rattle.atomic_table.specs.Table.{Me}
use Rattle.atomic_table.specs.declared.shared.Seat.{Seat as TableSeat}
use Rattle.lab_plan.specs.LabPlan.{LabPlan}
use Rattle.instrument_log.specs.InstrumentLog.{LogView}
use Rattle.one_history.specs.declared.board.View.{View}
use Rattle.one_history.specs.Rule.{phase_place}
use Rattle.one_history.specs.Grow.{hand_in}
use Rattle.turns.specs.History.{events_by}
use Rattle.turns.specs.Lists.{StartsWith}
use Rattle.edge_rule.specs.declared.clock.Clock.{Clock}
use Rattle.edge_rule.specs.DeskView.{BenchView, DeskView, Owns}
use Rattle.edge_rule.specs.DeskInside.{seat_view, view_of, IsDesk}
use Rattle.edge_rule.specs.BenchInside.{bench_of, IsBench}
use Rattle.edge_rule.specs.declared.desk.Desk.TheInside.{Inside}
use Rattle.edge_rule.specs.declared.bench.Bench.TheInside as bench_fields

-- a desk of the bench: its table and its plan are those of the bench's fields
module _ {A : Type 0} (b : bench_fields.Inside A) (x : BenchView) (bench : bench_of b ≡ x) (d : Inside A) (y : DeskView) (view : view_of d ≡ y)
    (ok : IsDesk d) (owns : Owns x y) where
  pub desk_table : d.seat.table_id ≡ b.table.shared.table_id
  desk_table = ap (λ (z : DeskView). z.table) view ∙ (owns.0 ∙ ap (λ (z : BenchView). z.table) (sym bench))

  own_plan : (hand_in d.seat.me.0).plan ≡ b.table.shared.key.plan.value
  own_plan = ap (λ (z : DeskView). z.plan) view ∙ (owns.1 ∙ ap (λ (z : BenchView). z.plan) (sym bench))

  own_job : (hand_in d.seat.me.0).job < length b.table.shared.key.plan.value.jobs
  own_job = subst (λ (z : LabPlan). (hand_in d.seat.me.0).job < length z.jobs) own_plan ok.at_rest.inside

  pub knows_plan : ((hand_in d.seat.me.0).plan ≡ b.table.shared.key.plan.value)
      × ((hand_in d.seat.me.0).job < length b.table.shared.key.plan.value.jobs)
  knows_plan = (own_plan, own_job)

  module _ (is_bench : IsBench b) (word : ℕ) (is : word ≡ phase_place b.plan.now d.job) where
    place : word ≡ phase_place b.table.shared.key.plan.value (hand_in d.seat.me.0).job
    place = is ∙ (λ i. phase_place (sym is_bench.plan i) (sym ok.job i))

    pub own_word : (word ≡ phase_place b.table.shared.key.plan.value (hand_in d.seat.me.0).job)
        × ((hand_in d.seat.me.0).job < length b.table.shared.key.plan.value.jobs)
    own_word = (place, own_job)

    pub word_inside : word < b.table.shared.table_id.words
    word_inside = let l = own_job in let p = place in let words = is_bench.words in omega arith

-- what was seen goes on with all that the other saw
pub both_seen : {A : Type 0} (o : Inside A) (z : DeskView) (view : view_of o ≡ z) (w : View)
    → StartsWith w.front o.seat.me.0.front × (events_by (hand_in o.seat.me.0).job w.front ≡ (hand_in o.seat.me.0).deeds)
    → StartsWith w.front z.front × (events_by z.job w.front ≡ z.deeds)
both_seen o z view w both = subst (λ (q : DeskView). StartsWith w.front q.front × (events_by q.job w.front ≡ q.deeds)) view both

abbrev seat_view_of : Clock → TableId → Me LogView View → DeskView
seat_view_of k t m = record {
  table = t;
  plan = (hand_in m.0).plan;
  job = (hand_in m.0).job;
  front = m.0.front;
  deeds = (hand_in m.0).deeds;
  groups = (hand_in m.0).groups;
  clock = k;
}

pub other_same : {A : Type 0} (o : Inside A) (z : DeskView) (view : view_of o ≡ z) (s' : TableSeat LogView View)
    → (s'.table_id ≡ o.seat.table_id) × (s'.me ≡ o.seat.me) → seat_view o.clock s' ≡ z
other_same o z view s' same = (λ i. seat_view_of o.clock (same.0 i) (same.1 i)) ∙ view

pub jobs_apart : {A : Type 0} (d o : Inside A) (y z : DeskView) → view_of d ≡ y → view_of o ≡ z → z.job ≢ y.job
    → (hand_in o.seat.me.0).job ≢ (hand_in d.seat.me.0).job
jobs_apart d o y z mine theirs apart = subst (λ (q : DeskView × DeskView). q.1.job ≢ q.0.job) (λ i. (sym mine i, sym theirs i)) apart
