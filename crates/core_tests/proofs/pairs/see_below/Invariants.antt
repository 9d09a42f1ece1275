use Rattle.std.proofs.Common.{◌<◌, ℕ}
use Rattle.std.specs.Prelude.{slice_index_or}
use Rattle.core_tests.proofs.pairs.see_below.Given as goal

abbrev pub invariant-loop-from : goal.invariant-loop-from
invariant-loop-from g l = (k : ℕ) → k < l.from-index → ((slice_index_or l.pairs k (0, 0)).0 < l.jobs) × ((slice_index_or l.pairs k (0, 0)).1 < l.jobs)
