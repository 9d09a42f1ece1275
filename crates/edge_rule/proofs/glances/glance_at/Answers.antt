use Rattle.std.proofs.Common.{refl, ap, ◌∙◌, arith}
use mathlib.Core.Option.{none}
use Rattle.atomic_table.specs.Table.{Me, step}
use Rattle.one_history.specs.Seating.{taken_back}
use Rattle.one_history.proofs.Seats.{takes_back}
use Rattle.edge_rule.proofs.GlancedDesks.{may_glance, hand_returns, glance_alone, glance_both, returned_same}
use Rattle.instrument_log.specs.InstrumentLog.{LogView}
use Rattle.one_history.specs.declared.board.View.{View}
use Rattle.edge_rule.proofs.glances.glance_at.Goals as goal

pub lend-requires-clause-table : goal.lend-requires-clause-table
lend-requires-clause-table g0 c = let t = c.requires.table in (t.0, t.1, omega arith)

pub load-found-requires : goal.load-found-requires
load-found-requires g0 c = (
  c.lend.ensures.me.0 ∙ c.requires.table.0,
  c.requires.table.2,
  may_glance c.args.table.now.shared.key.plan.value c.args.table.now.shared.table_id.slots c.lend.new.me.id c.args.word
      c.args.me.now.me.0 c.args.other.now.me.0 c.lend.new.me.me c.requires.alone.0 c.requires.other_alone.0 c.lend.ensures.me.1
      c.requires.plan.1 c.requires.word.1 c.requires.apart c.requires.word.0,
)

pub split_seat-back-requires : goal.split_seat-back-requires
split_seat-back-requires g0 c = (
  c.load-found.ensures.0 ∙ (c.lend.ensures.me.0 ∙ c.requires.table.0),
  omega arith,
  hand_returns c.args.table.now.shared.key.plan.value c.args.me.now.me.0 c.args.other.now.me.0 c.lend.new.me.me.0 c.load-found.new.seat.me.0 c.args.word c.load-found.result
      (step c.args.table.now.shared.table_id.slots c.args.word 0 0 none) c.lend.new.me.me.1 c.load-found.new.seat.me.1 c.requires.alone.0 c.requires.other_alone.0
      c.requires.plan.0 c.lend.ensures.me.1 c.requires.word.0 refl c.load-found.ensures.2
      c.load-found.new.seat.id c.requires.apart,
)

pub join_seat-requires : goal.join_seat-requires
join_seat-requires g0 c = let e = c.split_seat-back.ensures in (
  c.lend.ensures.other.0 ∙ c.requires.table.1,
  e.3 ∙ (c.load-found.ensures.0 ∙ (c.lend.ensures.me.0 ∙ c.requires.table.0)),
  ap (λ (m : Me LogView View). m.1) e.4,
  omega arith,
  takes_back c.args.table.now.shared.key.plan.value c.lend.new.other.id c.lend.new.other.me.0 c.split_seat-back.result.id c.split_seat-back.result.me.0,
)

pub returns-clause-same : goal.returns-clause-same
returns-clause-same g0 c = (
  c.join_seat.ensures.0 ∙ c.lend.ensures.other.0,
  returned_same c.args.table.now.shared.key.plan.value c.args.me.now.me.0 c.args.other.now.me.0 c.lend.new.me.me.0 c.load-found.new.seat.me.0 c.args.word c.load-found.result
      (step c.args.table.now.shared.table_id.slots c.args.word 0 0 none) c.lend.new.me.me.1 c.load-found.new.seat.me.1 c.requires.alone.0 c.requires.other_alone.0
      c.requires.plan.0 c.lend.ensures.me.1 c.requires.word.0 refl c.load-found.ensures.2
      c.requires.other_alone.1 c.args.other.now.me.1 c.lend.new.other.me c.join_seat.new.seat.me c.lend.ensures.other.1
      (c.join_seat.ensures.2 ∙ (λ i. (taken_back c.lend.new.other.me.0 ((ap (λ (m : Me LogView View). m.0) c.split_seat-back.ensures.4) i), c.lend.new.other.me.1))),
)

pub returns-clause-seat : goal.returns-clause-seat
returns-clause-seat g0 c = (
  c.split_seat-back.ensures.0 ∙ (c.load-found.ensures.0 ∙ c.lend.ensures.me.0),
  ap (λ (m : Me LogView View). m.1) c.split_seat-back.ensures.2 ∙ (c.load-found.ensures.2.4 ∙ (c.lend.ensures.me.2 ∙ c.requires.alone.2)),
)

pub returns-clause-does : goal.returns-clause-does
returns-clause-does g0 c = glance_alone c.args.table.now.shared.key.plan.value c.args.me.now.me.0 c.args.other.now.me.0 c.lend.new.me.me.0 c.load-found.new.seat.me.0 c.args.word c.load-found.result
    (step c.args.table.now.shared.table_id.slots c.args.word 0 0 none) c.lend.new.me.me.1 c.load-found.new.seat.me.1 c.requires.alone.0 c.requires.other_alone.0
    c.requires.plan.0 c.lend.ensures.me.1 c.requires.word.0 refl c.load-found.ensures.2
    c.requires.alone.1 c.split_seat-back.new.seat.me.0 (ap (λ (m : Me LogView View). m.0) c.split_seat-back.ensures.2)

pub returns-clause-both : goal.returns-clause-both
returns-clause-both g0 c = glance_both c.args.table.now.shared.key.plan.value c.args.me.now.me.0 c.args.other.now.me.0 c.lend.new.me.me.0 c.load-found.new.seat.me.0 c.args.word c.load-found.result
    (step c.args.table.now.shared.table_id.slots c.args.word 0 0 none) c.lend.new.me.me.1 c.load-found.new.seat.me.1 c.requires.alone.0 c.requires.other_alone.0
    c.requires.plan.0 c.lend.ensures.me.1 c.requires.word.0 refl c.load-found.ensures.2
    c.requires.alone.1 c.split_seat-back.new.seat.me.0 (ap (λ (m : Me LogView View). m.0) c.split_seat-back.ensures.2)
