use Rattle.std.proofs.Common.{sym, subst}
use Rattle.legal_steps.specs.Run.{IsLegalFrom}
use Rattle.edge_rule.specs.DeskView.{DeskView, known}
use Rattle.dining_layer.specs.declared.answers.Tried.{Tried}
use Rattle.drinking_layer.specs.Bottles.{Wanted}
use Rattle.drinking_layer.proofs.AllAtOnce.{asks_some, ask_events, may_ask_all, wants, wants_none}
use Rattle.drinking_layer.proofs.service.want_bottles.Goals as goal

pub exchange-requires-clause-some : goal.exchange-requires-clause-some
exchange-requires-clause-some g c = asks_some c.all_wishes-set.result c.if-set-eq0.false

pub exchange-requires-clause-may : goal.exchange-requires-clause-may
exchange-requires-clause-may g c = let d : DeskView = c.args.desk.now in let set = c.all_wishes-set.result in
    subst (λ l. IsLegalFrom d.plan (known d) l) (sym (ask_events d c.args.edge set c.if-set-eq0.false))
    (may_ask_all d.plan (known d) d.job c.args.edge set c.requires.edge c.all_wishes-set.ensures c.if-set-eq0.false, tt)

pub returns-then-set-eq0 : goal.returns-then-set-eq0
returns-then-set-eq0 g c = wants_none c.args.desk.now c.args.edge c.all_wishes-set.result c.requires.edge c.all_wishes-set.ensures c.if-set-eq0.true

pub returns : goal.returns
returns g c = subst (λ (r : Tried). Wanted c.args.desk.now c.args.edge r c.exchange.new.desk) (sym c.answered.ensures)
    (wants c.args.desk.now c.args.edge c.all_wishes-set.result c.requires.edge c.all_wishes-set.ensures
    c.exchange.result c.exchange.new.desk c.if-set-eq0.false c.exchange.ensures)
