use Rattle.std.proofs.Common.{ℕ, ◌<◌, ◌≤◌, length}
use Rattle.std.specs.Prelude.{◌≢◌, slice_index}
use Rattle.journal_texts.proofs.lines.whole_lines.Given as goal

abbrev pub invariant-loop-n : goal.invariant-loop-n
invariant-loop-n l = (l.n ≤ length l.fn.bytes) × ((k : ℕ) → l.n ≤ k → k < length l.fn.bytes → slice_index l.fn.bytes k ≢ 10)

abbrev pub decreases-loop-n : goal.decreases-loop-n
decreases-loop-n l = l.n
