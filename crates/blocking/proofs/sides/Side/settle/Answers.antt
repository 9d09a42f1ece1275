use Rattle.std.proofs.Common.{◌≡◌, length, ap, arith}
use Rattle.lab_plan.specs.LabPlan.{bottles}
use Rattle.blocking.specs.Blocks.{places_on}
use Rattle.blocking.specs.Owing.{SideView}
use Rattle.blocking.proofs.Bottles.{on_edge}
use Rattle.blocking.proofs.sides.Side.settle.Goals as goal

pub count_rounds-requires-clause-room : goal.count_rounds-requires-clause-room
count_rounds-requires-clause-room g c =
    let p = c.args.plan.now in let s = c.args.self.now in
    let here = on_edge p s.job s.edge in
    let many : length s.blocks ≡ length (places_on p s.job s.edge) = c.requires.many in
    let edge = ap (λ (x : SideView). length (bottles p x.edge)) c.self.view_is in
    let blocks = ap (λ (x : SideView). length x.blocks) c.self.view_is in
    let read = ap length c.as_mut_slice.ensures.value in
    omega (arith, here, many, edge, blocks, read)
