use Rattle.std.proofs.Common.{◌<◌, ◌≤◌, length, arith, ap}
use Rattle.std.specs.List.{range_with_len}
use Rattle.std.proofs.lemmas.List.FromFn.{length-range_with_len}
use Rattle.lab_plan.specs.LabPlan.{bottles}
use Rattle.legal_moves.proofs.Lists.{adds_all}
use Rattle.explaining.specs.StateTexts.{fork_line, bottle_line, edge_text}
use Rattle.explaining.proofs.Parts.{next_part}
use Rattle.explaining.proofs.states.add_edge.Goals as goal

pub loop-bottle-preserved : goal.loop-bottle-preserved
loop-bottle-preserved g c =
    let w = c.args.world.now in
    let n = length (bottles w.plan c.args.edge) in
    let small : c.loop-bottle.bottle < n = omega (arith, ap (λ p. length (bottles p c.args.edge)) c.plan.ensures.plan) in
    next_part (bottle_line w.plan w.state c.args.job c.args.edge) n c.loop-bottle.bottle _ _ _ small c.loop-bottle.invariant c.in_ok-add_bottle_line.ensures

pub returns : goal.returns
unfolding edge_text
returns g c =
    let w = c.args.world.now in
    let n = length (bottles w.plan c.args.edge) in
    let past : length (range_with_len 0 n) ≤ c.loop-bottle.bottle =
    omega (arith, length-range_with_len 0 n, ap (λ p. length (bottles p c.args.edge)) c.plan.ensures.plan) in
    adds_all (bottle_line w.plan w.state c.args.job c.args.edge) (range_with_len 0 n) c.loop-bottle.bottle _
    (fork_line w.plan w.state c.args.job c.args.edge) _ past c.loop-bottle.invariant
