use Rattle.std.proofs.Common.{◌≡◌, take}
use Rattle.legal_steps.specs.Opening.{opening_of}
use Rattle.interleaving.proofs.opening_tables.chosen_edges.Given as goal

abbrev pub invariant-loop-edge : goal.invariant-loop-edge
invariant-loop-edge g l = l.edges.items ≡ take l.edge (opening_of l.plan l.choices).edges
