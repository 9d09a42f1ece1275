use Rattle.std.proofs.Common.{subst, arith}
use Rattle.legal_steps.specs.declared.end.End.TheVariants.{Higher}
use Rattle.legal_steps.specs.declared.phase.Dining.{Dining}
use Rattle.legal_steps.specs.declared.edge_state.EdgeState.{EdgeState}
use Rattle.edge_rule.specs.DeskView.{DeskView, known}
use Rattle.dining_layer.specs.Forks.{AreForksDue}
use Rattle.dining_layer.proofs.ForkMoves.{moves_due}
use Rattle.dining_layer.proofs.forks.fork_moves.Goals as goal

pub returns-clause-due : goal.returns-clause-due
returns-clause-due g c =
    let a = c.at_edge-at.ensures in
    let k = a.known in
    let d : DeskView = c.args.desk.now in
    moves_due d.plan (known d) d.job c.args.edge c.due_forks.result (let h = c.requires.edge.is_edge in let n = k.edges_there in omega arith)
    (let h = k.is_job in let n = k.seats_there in omega arith) c.requires.edge
    (subst (λ (q : Dining × EdgeState). AreForksDue q.0 Higher q.1 c.due_forks.result) (λ i. ((a.phase i).dining, a.mine i)) c.due_forks.ensures)
