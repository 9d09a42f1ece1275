use Rattle.std.specs.Prelude.{count_by, reverse}
use Rattle.cycles.proofs.Ranked.{RanksOut}
use Rattle.cycles.proofs.ranks.ranking.Given as goal

abbrev pub invariant-loop-job : goal.invariant-loop-job
invariant-loop-job g l = RanksOut l.jobs l.pairs l.left.items (reverse l.order.items)

abbrev pub decreases-loop-job : goal.decreases-loop-job
decreases-loop-job g l = count_by (λ is_left. is_left) l.left.items
