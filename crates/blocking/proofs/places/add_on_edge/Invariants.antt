use Rattle.std.proofs.Common.{◌≡◌, ◌++◌, map}
use Rattle.std.specs.List.{range_with_len}
use Rattle.blocking.specs.Blocks.{place}
use Rattle.blocking.proofs.places.add_on_edge.Given as goal

abbrev pub invariant-loop-bottle : goal.invariant-loop-bottle
invariant-loop-bottle g l = l.out.items ≡ l.fn.out.items ++ map (place l.job l.edge) (range_with_len 0 l.bottle)
