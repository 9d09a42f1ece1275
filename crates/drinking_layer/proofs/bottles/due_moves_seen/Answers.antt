use Rattle.std.proofs.Common.{◌∙◌, subst}
use Rattle.legal_steps.specs.declared.end.End.TheVariants.{Higher}
use Rattle.legal_steps.specs.declared.phase.Dining.{Dining}
use Rattle.legal_steps.specs.declared.edge_state.EdgeState.{EdgeState}
use Rattle.edge_rule.specs.DeskView.{DeskView, known}
use Rattle.dining_layer.specs.Forks.{AreForksDue}
use Rattle.dining_layer.proofs.ForkMoves.{moves_due}
use Rattle.turns.specs.Due.{AreForkMoves, WithBottles}
use Rattle.drinking_layer.specs.Local.{with_sets}
use Rattle.drinking_layer.proofs.AddedSets.{edge_there, seat_there, sets_with}
use Rattle.turns.proofs.DueMoves.{due_all, due_legal}
use Rattle.drinking_layer.proofs.bottles.due_moves_seen.Goals as goal

pub returns-clause-due : goal.returns-clause-due
returns-clause-due g c =
    let a = c.at_edge_seen-at.ensures in
    let d : DeskView = c.args.desk.now in
    let e = c.args.edge in
    let in_edges = edge_there d e a.known c.requires.edge in
    let in_seats = seat_there d e a.known c.requires.edge in
    let forks : AreForkMoves d.plan (known d) d.job e c.due_forks-forks.result =
    moves_due d.plan (known d) d.job e c.due_forks-forks.result in_edges in_seats c.requires.edge
    (subst (λ (q : Dining × EdgeState). AreForksDue q.0 Higher q.1 c.due_forks-forks.result)
    (λ i. ((a.phase i).dining, a.mine i)) c.due_forks-forks.ensures) in
    let all : WithBottles d.plan (known d) d.job e c.due_forks-forks.result c.with_sets.result =
    sets_with d e a.known c.requires.edge c.needed-needed.result c.due_forks-forks.result c.with_sets.result c.needed-needed.ensures
    (c.with_sets.ensures ∙ (λ i. with_sets (a.phase i) c.needed-needed.result (a.mine i) c.due_forks-forks.result)) in
    due_all d.plan (known d) d.job e in_edges in_seats c.due_forks-forks.result _ forks all

pub returns-clause-legal : goal.returns-clause-legal
returns-clause-legal g c = let k = c.at_edge_seen-at.ensures.known in let d : DeskView = c.args.desk.now in
    due_legal d.plan (known d) d.job c.args.edge (edge_there d c.args.edge k c.requires.edge)
    (seat_there d c.args.edge k c.requires.edge) c.requires.edge _ (returns-clause-due g c)
