-- the parts so far, and those of what is left
use Rattle.std.proofs.Common.{◌≡◌, ◌≤◌, ◌++◌, length, map}
use Rattle.std.specs.Prelude.{◌==◌}
use Rattle.std.specs.List.{slice_split}
use Rattle.report_reader.proofs.parts.parts.Given as goal

abbrev pub invariant-loop-end : goal.invariant-loop-end
invariant-loop-end g l =
    (map (λ part. part.now) l.parts.items ++ slice_split (λ b. b == l.fn.at) l.rest ≡ slice_split (λ b. b == l.fn.at) l.fn.text)
    × (length l.rest ≤ length l.fn.text)

abbrev pub decreases-loop-end : goal.decreases-loop-end
decreases-loop-end g l = length l.rest
