use Rattle.std.proofs.Common.{◌≡◌, ◌<◌, ℕ}
use Rattle.std.specs.Prelude.{slice_index_or}
use Rattle.cycles.specs.Peeling.{IsOut}
use Rattle.cycles.proofs.sinks.next_left.Given as goal

abbrev pub invariant-loop-from : goal.invariant-loop-from
invariant-loop-from l = (k : ℕ) → k < l.from-index → (slice_index_or l.pairs k (0, 0)).0 ≡ l.job → IsOut l.left (slice_index_or l.pairs k (0, 0)).1
