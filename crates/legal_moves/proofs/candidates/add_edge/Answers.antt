use Rattle.std.proofs.Common.{◌<◌, ◌≤◌, length, arith}
use Rattle.std.specs.List.{range_with_len}
use Rattle.std.proofs.lemmas.List.FromFn.{length-range_with_len}
use Rattle.lab_plan.specs.LabPlan.{bottles}
use Rattle.legal_moves.specs.Moves.{fork_moves, bottle_moves}
use Rattle.legal_moves.proofs.Lists.{adds_more, adds_all, number_at}
use Rattle.legal_moves.proofs.candidates.add_edge.Goals as goal

pub loop-bottle-preserved : goal.loop-bottle-preserved
loop-bottle-preserved g c =
    let n = length (bottles c.args.plan.now c.args.edge) in
    let k = c.loop-bottle.bottle in
    let small : k < n = omega arith in
    let inside : k < length (range_with_len 0 n) = omega (arith, small, length-range_with_len 0 n) in
    adds_more (bottle_moves c.args.job c.args.edge) (range_with_len 0 n) k k _ _ _ inside
    (number_at n k small) c.loop-bottle.invariant c.in_ok-add_bottle.ensures

pub returns : goal.returns
returns g c =
    let n = length (bottles c.args.plan.now c.args.edge) in
    let past : length (range_with_len 0 n) ≤ c.loop-bottle.bottle = omega (arith, length-range_with_len 0 n) in
    adds_all (bottle_moves c.args.job c.args.edge) (range_with_len 0 n) c.loop-bottle.bottle _
    (fork_moves c.args.job c.args.edge) _ past c.loop-bottle.invariant
