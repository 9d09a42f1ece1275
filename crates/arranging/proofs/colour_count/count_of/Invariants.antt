-- the colours so far are below the count, and no smaller count is above all of them
use Rattle.std.proofs.Common.{ℕ, ◌<◌, ◌≤◌, slice_index_or}
use Rattle.arranging.proofs.colour_count.count_of.Given as goal

abbrev pub invariant-loop-colour : goal.invariant-loop-colour
invariant-loop-colour l =
    ((k d : ℕ) → k < l.colour-index → slice_index_or l.colours k d < l.count)
    × ((n : ℕ) → ((k d : ℕ) → k < l.colour-index → slice_index_or l.colours k d < n) → l.count ≤ n)
