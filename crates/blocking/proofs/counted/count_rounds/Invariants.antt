use Rattle.std.proofs.Common.{◌≡◌, ℕ, ◌<◌, ◌≤◌, ◌-◌, map}
use Rattle.std.specs.Int.{bit_at}
use Rattle.std.specs.List.{range_with_len}
use Rattle.blocking.specs.Blocks.{place}
use Rattle.blocking.specs.Watching.{rounds_then, each_by}
use Rattle.blocking.proofs.counted.count_rounds.Given as goal

-- at the bottles in front of this one, for which the job waits
abbrev pub invariant-loop-bottle : goal.invariant-loop-bottle
invariant-loop-bottle g l = record {
  counted : (j : ℕ) → l.blocks ≡ each_by (rounds_then l.plan l.wait l.rounds) (map (place j l.edge) (range_with_len 0 l.bottle)) l.fn.blocks;
  inside : l.bottle ≤ l.bottles;
  waits : l.bottle < l.bottles → bit_at l.wait.bottles l.bottle ≡ 1;
}

abbrev pub decreases-loop-bottle : goal.decreases-loop-bottle
decreases-loop-bottle g l = l.bottles - l.bottle
