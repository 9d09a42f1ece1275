use Rattle.std.proofs.Common.{◌≡◌, arith, [], refl, sym, ap, ◌∙◌, subst}
use Rattle.one_history.specs.declared.board.View.{View}
use Rattle.turns.specs.Lists.{StartsWith}
use Rattle.one_history.specs.Grow.{IsMine}
use Rattle.one_history.specs.Seating.{glued}
use Rattle.edge_rule.specs.Telling.{NewsView}
use Rattle.edge_rule.specs.DeskView.{BenchView}
use Rattle.one_history.proofs.Seats.{glues}
use Rattle.edge_rule.proofs.DeskSteps.{owned, led, desk_keeps, seat_adds}
use Rattle.edge_rule.proofs.ManyHands.{notices}
use Rattle.edge_rule.proofs.Tidings.{still_mine, grows_by_news, starts_news, heard}
use Rattle.edge_rule.proofs.news.heed.Goals as goal

pub join_seat-requires : goal.join_seat-requires
join_seat-requires g0 c =
    let b = c.bench.inside in
    let d = c.desk.inside in
    let n = c.news.inside in
    let owns = owned b d _ _ c.bench.view_is c.desk.view_is c.requires.own in
    let words = c.bench.invariant.words in (
      owns.0,
      ap (λ (z : NewsView). z.table) c.news.view_is ∙ (c.requires.news ∙ sym (ap (λ (z : BenchView). z.table) c.bench.view_is)),
      c.news.invariant.empty,
      omega arith,
      glues b.table.shared.key.plan.value d.seat.id d.seat.me.0 n.seat.id n.seat.me.0,
    )

pub load-requires : goal.load-requires
load-requires g0 c =
    let b = c.bench.inside in
    let d = c.desk.inside in
    let n = c.news.inside in
    let owns = owned b d _ _ c.bench.view_is c.desk.view_is c.requires.own in
    let words = c.bench.invariant.words in
    let s = c.join_seat.new.seat in let j = c.join_seat.ensures in let is : glued d.seat.me.0 n.seat.me.0 ≡ s.me.0 = sym (ap (λ m. m.0) j.2) in (
      j.0 ∙ owns.0,
      omega arith,
      notices b.table.shared.key.plan.value b.table.shared.table_id.slots s.id s.me.0 s.me.1
          (led s.me.0 (subst IsMine is (still_mine d.seat.me.0 n.seat.me.0 c.desk.invariant.at_rest.mine c.news.invariant.hands))),
    )

pub invariant_of-desk : goal.invariant_of-desk
invariant_of-desk g0 c = let ok = c.desk.invariant in let d = c.desk.inside in let n = c.news.inside in let j = c.join_seat.ensures in
    let grown = grows_by_news d.seat.me.0 n.seat.me.0 ok.at_rest.mine c.news.invariant.hands c.join_seat.new.seat.me.0 c.load.new.seat.me.0
    (ap (λ m. m.0) j.2) c.load.ensures.2.0 in
    desk_keeps d ok _ [] tt grown (c.load.ensures.2.1 ∙ (ap (λ m. m.1) j.2 ∙ ok.empty)) refl ok.own ok.seen ok.of_plan ok.calm ok.settled ok.rests

pub returns : goal.returns
returns g0 c =
    let ok = c.desk.invariant in
    let d = c.desk.inside in
    let n = c.news.inside in
    let j = c.join_seat.ensures in
    let w : View = c.load.new.seat.me.0 in
    let grown =
    grows_by_news d.seat.me.0 n.seat.me.0 ok.at_rest.mine c.news.invariant.hands c.join_seat.new.seat.me.0 w (ap (λ m. m.0) j.2) c.load.ensures.2.0 in
    heard c.args.desk.now c.args.news.front _ (seat_adds d.seat c.load.new.seat c.args.desk.now (λ _. []) c.desk.view_is grown (c.load.ensures.0 ∙ j.0))
    (subst (StartsWith w.front) (ap (λ (z : NewsView). z.front) c.news.view_is)
    (starts_news d.seat.me.0 n.seat.me.0 ok.at_rest.mine c.news.invariant.hands c.join_seat.new.seat.me.0 w (ap (λ m. m.0) j.2) c.load.ensures.2.0))
