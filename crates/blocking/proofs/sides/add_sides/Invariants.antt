use Rattle.std.proofs.Common.{◌≡◌, ◌++◌, map, take}
use Rattle.blocking.specs.Owing.{fresh_side}
use Rattle.blocking.proofs.sides.add_sides.Given as goal

abbrev pub invariant-loop-edge : goal.invariant-loop-edge
invariant-loop-edge g l = l.out.items ≡ l.fn.out.items ++ map (fresh_side l.plan l.job) (take l.edge-index l.own)
