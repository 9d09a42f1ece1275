use Rattle.std.proofs.Common.{◌≡◌, ◌<◌, length, ap, ◌∙◌, arith}
use Rattle.turns.specs.History.{events_by}
use Rattle.turns.specs.Lists.{StartsWith}
use Rattle.edge_rule.specs.DeskView.{DeskView}
use Rattle.one_history.specs.declared.board.View.{View}
use Rattle.one_history.specs.Grow.{IsLed}
use Rattle.edge_rule.proofs.ManyHands.{notices, led_lent, has_last, grows_back, starts_there, whole_there, as_it_was, desk_still}
use Rattle.edge_rule.proofs.LentRow.{none_left, shorter, own_table, other_tables, away, others_apart, all_start, all_whole, all_same}
use Rattle.edge_rule.proofs.company.+hear.Goals as goal

pub load-requires : goal.load-requires
load-requires g0 t c =
    (c.requires.table.0, c.requires.table.1, notices c.args.table.now.shared.key.plan.value _ c.args.me.now.id c.args.me.now.me.0 c.args.me.now.me.1 c.requires.led.0)

pub returns-then-is_empty-clause-seat : goal.returns-then-is_empty-clause-seat
returns-then-is_empty-clause-seat g0 t c = (c.load.ensures.0, c.load.ensures.2.1 ∙ c.requires.led.1)

pub returns-then-is_empty-clause-grows : goal.returns-then-is_empty-clause-grows
returns-then-is_empty-clause-grows g0 t c = c.load.ensures.2.0

pub returns-then-is_empty-clause-starts : goal.returns-then-is_empty-clause-starts
returns-then-is_empty-clause-starts g0 t c =
    none_left (λ (d : DeskView). StartsWith c.load.new.seat.me.0.front d.front) c.args.others.now c.if-is_empty.ensures

pub returns-then-is_empty-clause-wholes : goal.returns-then-is_empty-clause-wholes
returns-then-is_empty-clause-wholes g0 t c =
    none_left (λ (d : DeskView). events_by d.job c.load.new.seat.me.0.front ≡ d.deeds) c.args.others.now c.if-is_empty.ensures

pub lend-requires-clause-table : goal.lend-requires-clause-table
lend-requires-clause-table g0 t c = (
  c.requires.table.0,
  own_table c.args.others.now c.split_at_mut-front.result.0.now c.split_at_mut-front.result.1.now c.index-front-0.result
      c.if-is_empty.ensures c.split_at_mut-front.ensures.front c.split_at_mut-front.ensures.back c.other.inside.clock c.other.inside.seat c.other.view_is
      c.args.table.now.shared.table_id c.requires.own,
  c.requires.table.1,
)

pub lend-requires-clause-mine : goal.lend-requires-clause-mine
lend-requires-clause-mine g0 t c = c.other.invariant.at_rest.mine

pub hear-requires : goal.hear-requires
hear-requires g0 t c =
    let apart = others_apart c.args.others.now c.split_at_mut-front.result.0.now c.split_at_mut-front.result.1.now c.index-front-0.result
    c.if-is_empty.ensures c.split_at_mut-front.ensures.front c.split_at_mut-front.ensures.back c.other.inside.clock c.other.inside.seat c.other.view_is
    c.args.me.now.me.0 c.lend.new.me.me.0 c.other.invariant.at_rest.mine c.lend.ensures.me.1 c.requires.apart.0 c.requires.apart.1 in
    let led : IsLed c.lend.new.me.me.0 = led_lent c.args.me.now.me.0 c.other.inside.seat.me.0 c.requires.led.0 c.other.invariant.at_rest.mine
    c.lend.new.me.me.0 c.lend.ensures.me.1 (away c.args.others.now c.split_at_mut-front.result.0.now c.split_at_mut-front.result.1.now c.index-front-0.result
    c.if-is_empty.ensures c.split_at_mut-front.ensures.front c.split_at_mut-front.ensures.back c.other.inside.clock c.other.inside.seat c.other.view_is
    c.args.me.now.me.0.hands c.requires.apart.0) in
    let tables = other_tables c.args.others.now c.split_at_mut-front.result.0.now c.split_at_mut-front.result.1.now c.index-front-0.result
    c.if-is_empty.ensures c.split_at_mut-front.ensures.front c.split_at_mut-front.ensures.back c.other.inside.clock c.other.inside.seat c.other.view_is
    c.args.table.now.shared.table_id c.requires.own in
    let fewer : length c.split_at_mut-front.result.1.now < t = omega (
      arith,
      c.decreases,
      shorter c.args.others.now c.split_at_mut-front.result.0.now c.split_at_mut-front.result.1.now c.index-front-0.result
          c.if-is_empty.ensures c.split_at_mut-front.ensures.front c.split_at_mut-front.ensures.back c.other.inside.clock c.other.inside.seat c.other.view_is,
    ) in
    λ κs h. (
      fewer,
      (
        (λ a m. h a m),
        (
          (c.lend.ensures.me.0 ∙ c.requires.table.0, c.requires.table.1),
          (tables, ((led, c.lend.ensures.me.2 ∙ c.requires.led.1), apart)),
        ),
      ),
    )

pub give_back-requires-clause-table : goal.give_back-requires-clause-table
give_back-requires-clause-table g0 t c = (
  c.hear.ensures.seat.0 ∙ (c.lend.ensures.me.0 ∙ c.requires.table.0),
  c.lend.ensures.other.0 ∙ own_table c.args.others.now c.split_at_mut-front.result.0.now c.split_at_mut-front.result.1.now c.index-front-0.result
      c.if-is_empty.ensures c.split_at_mut-front.ensures.front c.split_at_mut-front.ensures.back c.other.inside.clock c.other.inside.seat c.other.view_is
      c.args.table.now.shared.table_id c.requires.own,
  c.requires.table.1,
)

pub give_back-requires-clause-lent : goal.give_back-requires-clause-lent
give_back-requires-clause-lent g0 t c =
    has_last c.args.me.now.me.0 c.other.inside.seat.me.0 c.requires.led.0 c.other.invariant.at_rest.mine
    c.lend.new.me.me.0 c.hear.new.me.me.0 c.lend.ensures.me.1 c.hear.ensures.grows
    (away c.args.others.now c.split_at_mut-front.result.0.now c.split_at_mut-front.result.1.now c.index-front-0.result
    c.if-is_empty.ensures c.split_at_mut-front.ensures.front c.split_at_mut-front.ensures.back c.other.inside.clock c.other.inside.seat c.other.view_is c.args.me.now.me.0.hands c.requires.apart.0)

pub invariant_of-other : goal.invariant_of-other
invariant_of-other g0 t c =
    desk_still c.other.inside c.give_back.new.other
    (as_it_was c.args.me.now.me.0 c.other.inside.seat.me.0 c.requires.led.0 c.other.invariant.at_rest.mine
    c.lend.new.me.me.0 c.hear.new.me.me.0 c.lend.ensures.me.1 c.hear.ensures.grows
    c.other.inside.seat.me.1 c.lend.new.other.me c.give_back.new.other.me c.lend.ensures.other.1 c.give_back.ensures.other.1 c.other.invariant.at_rest.none_told)
    c.other.invariant

pub returns-clause-seat : goal.returns-clause-seat
returns-clause-seat g0 t c = (
  c.give_back.ensures.me.0 ∙ (c.hear.ensures.seat.0 ∙ c.lend.ensures.me.0),
  c.give_back.ensures.me.2 ∙ c.hear.ensures.seat.1,
)

pub returns-clause-grows : goal.returns-clause-grows
returns-clause-grows g0 t c = grows_back c.args.me.now.me.0 c.other.inside.seat.me.0 c.requires.led.0 c.other.invariant.at_rest.mine
    c.lend.new.me.me.0 c.hear.new.me.me.0 c.lend.ensures.me.1 c.hear.ensures.grows
    c.give_back.new.me.me.0 c.give_back.ensures.me.1

pub returns-clause-starts : goal.returns-clause-starts
returns-clause-starts g0 t c = all_start c.args.others.now c.split_at_mut-front.result.0.now c.split_at_mut-front.result.1.now c.index-front-0.result
    c.if-is_empty.ensures c.split_at_mut-front.ensures.front c.split_at_mut-front.ensures.back c.other.inside.clock c.other.inside.seat c.other.view_is
    c.give_back.new.me.me.0 c.hear.new.me.me.0 (ap (λ (z : View). z.front) c.give_back.ensures.me.1)
    (starts_there c.args.me.now.me.0 c.other.inside.seat.me.0 c.requires.led.0 c.other.invariant.at_rest.mine
    c.lend.new.me.me.0 c.hear.new.me.me.0 c.lend.ensures.me.1 c.hear.ensures.grows) c.hear.ensures.starts

pub returns-clause-wholes : goal.returns-clause-wholes
returns-clause-wholes g0 t c = all_whole c.args.others.now c.split_at_mut-front.result.0.now c.split_at_mut-front.result.1.now c.index-front-0.result
    c.if-is_empty.ensures c.split_at_mut-front.ensures.front c.split_at_mut-front.ensures.back c.other.inside.clock c.other.inside.seat c.other.view_is
    c.give_back.new.me.me.0 c.hear.new.me.me.0 (ap (λ (z : View). z.front) c.give_back.ensures.me.1)
    (whole_there c.args.me.now.me.0 c.other.inside.seat.me.0 c.requires.led.0 c.other.invariant.at_rest.mine
    c.lend.new.me.me.0 c.hear.new.me.me.0 c.lend.ensures.me.1 c.hear.ensures.grows) c.hear.ensures.wholes

pub returns-clause-same : goal.returns-clause-same
returns-clause-same g0 t c = all_same c.args.others.now c.split_at_mut-front.result.0.now c.split_at_mut-front.result.1.now c.index-front-0.result
    c.if-is_empty.ensures c.split_at_mut-front.ensures.front c.split_at_mut-front.ensures.back c.other.inside.clock c.other.inside.seat c.other.view_is
    c.give_back.new.other c.hear.new.others (c.give_back.ensures.other.0 ∙ c.lend.ensures.other.0)
    (as_it_was c.args.me.now.me.0 c.other.inside.seat.me.0 c.requires.led.0 c.other.invariant.at_rest.mine
    c.lend.new.me.me.0 c.hear.new.me.me.0 c.lend.ensures.me.1 c.hear.ensures.grows
    c.other.inside.seat.me.1 c.lend.new.other.me c.give_back.new.other.me c.lend.ensures.other.1 c.give_back.ensures.other.1 c.other.invariant.at_rest.none_told)
    c.hear.ensures.same
