use Rattle.std.proofs.Common.{[], ◌∷◌, refl, sym, ap, ◌∙◌, append-nil}
use Rattle.edge_rule.specs.DeskView.{DeskView}
use Rattle.one_history.proofs.Seats.{glues}
use Rattle.edge_rule.proofs.TakenApart.{last_table, split_more, gathered_more, rest_more}
use Rattle.edge_rule.proofs.close.gather.Goals as goal

pub join_seat-requires : goal.join_seat-requires
join_seat-requires g0 c = let inv = c.loop-desk.invariant in (
  inv.0 ∙ c.requires.table.0,
  ap (λ (z : DeskView). z.table) c.desk.view_is
      ∙ last_table c.args.desks.items c.loop-desk.desks.items c.pop.new.self.items inv.1.0 c.in-Some.desk inv.1.1 c.in-Some.ensures.items
      c.args.table.now.shared.table_id c.requires.own,
  c.desk.invariant.empty,
  c.requires.table.1,
  glues c.args.table.now.shared.key.plan.value c.loop-desk.keeper.id c.loop-desk.keeper.me.0 c.desk.inside.seat.id c.desk.inside.seat.me.0,
)

pub loop-desk-preserved : goal.loop-desk-preserved
loop-desk-preserved g0 c = let inv = c.loop-desk.invariant in (
  c.join_seat.ensures.0 ∙ inv.0,
  (
    c.in-Some.desk ∷ inv.1.0,
    split_more c.args.desks.items c.loop-desk.desks.items c.pop.new.self.items inv.1.0 c.in-Some.desk inv.1.1 c.in-Some.ensures.items,
    gathered_more c.desk.inside c.desk.invariant c.in-Some.desk c.desk.view_is inv.1.0 c.loop-desk.keeper.me c.join_seat.new.seat.me inv.1.2
        c.join_seat.ensures.2,
    rest_more c.desk.inside c.desk.invariant c.in-Some.desk c.desk.view_is inv.1.0 inv.1.3,
  ),
)

pub loop-desk-init : goal.loop-desk-init
loop-desk-init g0 c = (refl, ([], sym (append-nil c.args.desks.items), c.requires.empty, tt))
