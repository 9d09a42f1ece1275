use Rattle.edge_rule.specs.DeskView.{known}
use Rattle.drinking_layer.proofs.Subsets.{may_ask}
use Rattle.drinking_layer.proofs.exchanges.may_ask_bottles.Goals as goal

pub returns-then-set-ne0 : goal.returns-then-set-ne0
returns-then-set-ne0 g0 c =
    may_ask c.args.desk.now.plan (known c.args.desk.now) c.args.desk.now.job c.args.edge
    c.args.set c.all_wishes.result c.requires.edge c.all_wishes.ensures c.if-set-ne0.true
