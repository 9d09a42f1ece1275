-- the edges so far are written
use Rattle.std.proofs.Common.{◌≡◌, take}
use Rattle.edge_rule.specs.CalmEdges.{written_at}
use Rattle.edge_rule.proofs.calm.write_at.Given as goal

abbrev pub invariant-loop-edge : goal.invariant-loop-edge
invariant-loop-edge g l = l.list.items ≡ written_at (take l.edge-index l.edges) l.what l.initial.list.items
