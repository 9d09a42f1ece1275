use Rattle.std.proofs.Common.{ap, ◌∙◌}
use Rattle.one_history.specs.Seating.{taken_back}
use Rattle.one_history.proofs.Seats.{takes_back}
use Rattle.edge_rule.proofs.ManyHands.{backs}
use Rattle.atomic_table.specs.Table.{Me}
use Rattle.instrument_log.specs.InstrumentLog.{LogView}
use Rattle.one_history.specs.declared.board.View.{View}
use Rattle.edge_rule.proofs.lent.give_back.Goals as goal

pub split_seat-back-requires : goal.split_seat-back-requires
split_seat-back-requires g0 c = let t = c.requires.table in let l = c.requires.lent in
    (t.0, t.2, backs c.args.table.now.shared.key.plan.value c.args.me.now.id c.args.me.now.me.0 l.own l.before l.last l.hands l.apart)

pub join_seat-requires : goal.join_seat-requires
join_seat-requires g0 c = let t = c.requires.table in let e = c.split_seat-back.ensures in (
  t.1,
  e.3 ∙ t.0,
  ap (λ (m : Me LogView View). m.1) e.4,
  t.2,
  takes_back c.args.table.now.shared.key.plan.value c.args.other.now.id c.args.other.now.me.0 c.split_seat-back.result.id c.split_seat-back.result.me.0,
)

pub returns-clause-me : goal.returns-clause-me
returns-clause-me g0 c = let e = c.split_seat-back.ensures in (e.0, ap (λ (m : Me LogView View). m.0) e.2, ap (λ (m : Me LogView View). m.1) e.2)

pub returns-clause-other : goal.returns-clause-other
returns-clause-other g0 c = let j = c.join_seat.ensures in
    (j.0, j.2 ∙ (λ i. (taken_back c.args.other.now.me.0 ((ap (λ (m : Me LogView View). m.0) c.split_seat-back.ensures.4) i), c.args.other.now.me.1)))
