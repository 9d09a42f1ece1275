use Rattle.std.proofs.Common.{◌<◌, ◌≤◌, ℕ, length}
use Rattle.std.specs.Prelude.{slice_index_or}
use Rattle.cycles.proofs.cycle.smallest_place.Given as goal

abbrev pub invariant-loop-place : goal.invariant-loop-place
invariant-loop-place l = record {
  within : l.smallest < length l.jobs;
  least : (k : ℕ) → k < l.place → slice_index_or l.jobs l.smallest 0 ≤ slice_index_or l.jobs k 0;
}
