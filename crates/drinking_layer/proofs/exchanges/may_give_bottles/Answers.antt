use Rattle.edge_rule.specs.DeskView.{known}
use Rattle.drinking_layer.proofs.Subsets.{may_give}
use Rattle.drinking_layer.proofs.exchanges.may_give_bottles.Goals as goal

pub returns-then-set-ne0 : goal.returns-then-set-ne0
returns-then-set-ne0 g0 c =
    may_give c.args.desk.now.plan (known c.args.desk.now) c.args.desk.now.job c.args.edge
    c.args.set c.all_gifts.result c.requires.edge c.all_gifts.ensures c.if-set-ne0.true
