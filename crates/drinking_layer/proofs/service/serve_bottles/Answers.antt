use Rattle.std.proofs.Common.{sym, subst}
use Rattle.legal_steps.specs.Run.{IsLegalFrom}
use Rattle.edge_rule.specs.DeskView.{DeskView, known}
use Rattle.dining_layer.specs.declared.answers.Tried.{Tried}
use Rattle.drinking_layer.specs.Bottles.{Served}
use Rattle.drinking_layer.proofs.AllAtOnce.{gives_some, give_events, may_give_all, serves, serves_none}
use Rattle.drinking_layer.proofs.service.serve_bottles.Goals as goal

pub exchange-requires-clause-some : goal.exchange-requires-clause-some
exchange-requires-clause-some g c = gives_some c.all_gifts-set.result c.if-set-eq0.false

pub exchange-requires-clause-may : goal.exchange-requires-clause-may
exchange-requires-clause-may g c = let d : DeskView = c.args.desk.now in let set = c.all_gifts-set.result in
    subst (λ l. IsLegalFrom d.plan (known d) l) (sym (give_events d c.args.edge set c.if-set-eq0.false))
    (may_give_all d.plan (known d) d.job c.args.edge set c.requires.edge c.all_gifts-set.ensures c.if-set-eq0.false, tt)

pub returns-then-set-eq0 : goal.returns-then-set-eq0
returns-then-set-eq0 g c = serves_none c.args.desk.now c.args.edge c.all_gifts-set.result c.requires.edge c.all_gifts-set.ensures c.if-set-eq0.true

pub returns : goal.returns
returns g c = subst (λ (r : Tried). Served c.args.desk.now c.args.edge r c.exchange.new.desk) (sym c.answered.ensures)
    (serves c.args.desk.now c.args.edge c.all_gifts-set.result c.requires.edge c.all_gifts-set.ensures
    c.exchange.result c.exchange.new.desk c.if-set-eq0.false c.exchange.ensures)
