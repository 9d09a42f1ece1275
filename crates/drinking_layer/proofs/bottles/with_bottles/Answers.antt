use Rattle.std.proofs.Common.{◌∙◌}
use Rattle.edge_rule.specs.DeskView.{DeskView, known}
use Rattle.drinking_layer.specs.Local.{with_sets}
use Rattle.drinking_layer.proofs.AddedSets.{edge_there, seat_there, sets_with}
use Rattle.turns.proofs.DueMoves.{due_all, due_legal}
use Rattle.drinking_layer.proofs.bottles.with_bottles.Goals as goal

pub returns-clause-with : goal.returns-clause-with
returns-clause-with g c =
    let a = c.at_edge-at.ensures in
    let d : DeskView = c.args.desk.now in
    sets_with d c.args.edge a.known c.requires.edge c.needed-needed.result c.args.moves c.with_sets.result c.needed-needed.ensures
    (c.with_sets.ensures ∙ (λ i. with_sets (a.phase i) c.needed-needed.result (a.mine i) c.args.moves))

pub returns-clause-due : goal.returns-clause-due
returns-clause-due g c = λ forks. let k = c.at_edge-at.ensures.known in let d : DeskView = c.args.desk.now in
    due_all d.plan (known d) d.job c.args.edge (edge_there d c.args.edge k c.requires.edge)
    (seat_there d c.args.edge k c.requires.edge) c.args.moves _ forks (returns-clause-with g c)

pub returns-clause-legal : goal.returns-clause-legal
returns-clause-legal g c = λ forks. let k = c.at_edge-at.ensures.known in let d : DeskView = c.args.desk.now in
    due_legal d.plan (known d) d.job c.args.edge (edge_there d c.args.edge k c.requires.edge)
    (seat_there d c.args.edge k c.requires.edge) c.requires.edge _ (returns-clause-due g c forks)
