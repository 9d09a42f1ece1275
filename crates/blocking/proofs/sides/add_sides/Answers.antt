use Rattle.legal_steps.proofs.OwnEdges.{own_at}
use Rattle.blocking.proofs.sides.add_sides.Goals as goal

pub new-requires-clause-own : goal.new-requires-clause-own
new-requires-clause-own g c =
    own_at c.args.plan.now c.args.job c.edges_of-own.result.now c.loop-edge.edge-index c.edge-item.result c.edges_of-own.ensures c.loop-edge-test.true
    c.edge-item.is
