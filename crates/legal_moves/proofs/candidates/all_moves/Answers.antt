use Rattle.std.proofs.Common.{[], ◌<◌, ◌≤◌, length, arith}
use Rattle.std.specs.List.{range_with_len}
use Rattle.std.proofs.lemmas.List.FromFn.{length-range_with_len}
use Rattle.legal_moves.specs.Moves.{moves_of}
use Rattle.legal_moves.proofs.Lists.{adds_more, adds_all, number_at}
use Rattle.legal_moves.proofs.candidates.all_moves.Goals as goal

pub loop-job-preserved : goal.loop-job-preserved
loop-job-preserved g c =
    let n = length c.args.plan.now.jobs in
    let k = c.loop-job.job in
    let small : k < n = omega arith in
    let inside : k < length (range_with_len 0 n) = omega (arith, small, length-range_with_len 0 n) in
    adds_more (moves_of c.args.plan.now) (range_with_len 0 n) k k [] _ _ inside (number_at n k small) c.loop-job.invariant c.in_ok-add_job.ensures

pub returns : goal.returns
returns g c =
    let n = length c.args.plan.now.jobs in
    let past : length (range_with_len 0 n) ≤ c.loop-job.job = omega (arith, length-range_with_len 0 n) in
    adds_all (moves_of c.args.plan.now) (range_with_len 0 n) c.loop-job.job [] [] _ past c.loop-job.invariant
