use Rattle.std.proofs.Common.{sym, subst}
use Rattle.bay_line.specs.Lines.{LineView}
use Rattle.bay.specs.Cores.{core, IsTied}
use Rattle.bay.proofs.Askers.{ordered_tied}
use Rattle.bay.proofs.asking.take.Goals as goal

pub returns-clause-tied : goal.returns-clause-tied
returns-clause-tied c =
    let classes = c.args.classes.now in let line = c.join.new.line in let book = c.join.new.book in
    subst (λ (l : LineView). IsTied classes (core l book)) (sym c.keep_order.ensures)
    (ordered_tied classes c.args.request.urgency line book c.join.ensures.tied)
