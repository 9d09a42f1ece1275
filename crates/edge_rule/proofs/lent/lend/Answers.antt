use Rattle.std.proofs.Common.{ap, ◌∙◌}
use Rattle.one_history.specs.Grow.{hand_in}
use Rattle.one_history.specs.Seating.{glued}
use Rattle.one_history.proofs.Seats.{lends, glues}
use Rattle.atomic_table.specs.Table.{Me}
use Rattle.instrument_log.specs.InstrumentLog.{LogView}
use Rattle.one_history.specs.declared.board.View.{View}
use Rattle.edge_rule.proofs.lent.lend.Goals as goal

pub split_seat-lent-requires : goal.split_seat-lent-requires
split_seat-lent-requires g0 c = let t = c.requires.table in
    (t.1, t.2, lends c.args.table.now.shared.key.plan.value c.args.other.now.id c.args.other.now.me.0 (hand_in c.args.other.now.me.0) c.requires.mine)

pub join_seat-requires : goal.join_seat-requires
join_seat-requires g0 c = let t = c.requires.table in let e = c.split_seat-lent.ensures in (
  t.0,
  e.3 ∙ t.1,
  ap (λ (m : Me LogView View). m.1) e.4,
  t.2,
  glues c.args.table.now.shared.key.plan.value c.args.me.now.id c.args.me.now.me.0 c.split_seat-lent.result.id c.split_seat-lent.result.me.0,
)

pub returns-clause-me : goal.returns-clause-me
returns-clause-me g0 c = let j = c.join_seat.ensures in
    (j.0, ap (λ (m : Me LogView View). m.0) j.2 ∙ ap (glued c.args.me.now.me.0) (ap (λ (m : Me LogView View). m.0) c.split_seat-lent.ensures.4), ap (λ (m : Me LogView View). m.1) j.2)
