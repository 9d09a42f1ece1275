use Rattle.std.proofs.Common.{◌≡◌, length, take}
use Rattle.std.specs.List.{flat_map, range_with_len}
use Rattle.legal_moves.specs.Moves.{moves_of}
use Rattle.legal_moves.proofs.candidates.all_moves.Given as goal

abbrev pub invariant-loop-job : goal.invariant-loop-job
invariant-loop-job g l = l.moves.items ≡ flat_map (moves_of l.plan) (take l.job (range_with_len 0 (length l.plan.jobs)))
