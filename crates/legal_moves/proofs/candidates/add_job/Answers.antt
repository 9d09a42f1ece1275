use Rattle.legal_steps.proofs.OwnEdges.{own_at}
use Rattle.legal_moves.proofs.candidates.add_job.Goals as goal

pub add_edge-requires : goal.add_edge-requires
add_edge-requires g c = (own_at _ _ _ _ _ c.edges_of-edge-items.ensures c.loop-edge-test.true c.edge-item.is).is_edge
