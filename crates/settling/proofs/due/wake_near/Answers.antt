use Rattle.std.proofs.Common.{◌≡◌, ◌+◌, slice_index_or, sym, ◌∙◌, subst, arith}
use Rattle.legal_steps.proofs.OwnEdges.{own_at, get_default}
use Rattle.settling.specs.Left.{DueView}
use Rattle.settling.proofs.Waking.{NearWoken, near_more, near_keeps}
use Rattle.settling.proofs.due.wake_near.Goals as goal

pub wake_at-requires-clause-edge : goal.wake_at-requires-clause-edge
wake_at-requires-clause-edge g c =
    (own_at c.args.plan.now c.args.job c.edges_of-edge-items.result.now c.loop-edge.edge-index c.edge-item.result c.edges_of-edge-items.ensures
    c.loop-edge-test.true c.edge-item.is).is_edge

pub loop-edge-preserved : goal.loop-edge-preserved
loop-edge-preserved g c =
    let es = c.edges_of-edge-items.result.now in
    let k = c.loop-edge.edge-index in
    let e = c.edge-item.result in
    let is : e ≡ slice_index_or es k 0 = c.edge-item.is ∙ sym (get_default es k e c.loop-edge-test.true) in
    subst (λ (due : DueView). NearWoken c.args.plan.now c.args.job c.args.due.now es (k + 1) due) (sym c.wake_at.ensures)
    (near_more c.args.plan.now c.args.job c.args.due.now es k e c.loop-edge.due is c.loop-edge.invariant)

pub returns-clause-keeps : goal.returns-clause-keeps
returns-clause-keeps g c =
    near_keeps c.args.plan.now c.args.job c.args.due.now c.edges_of-edge-items.result.now c.loop-edge.edge-index c.loop-edge.due c.edges_of-edge-items.ensures
    (let t = c.loop-edge-test.false in omega (arith, t)) c.loop-edge.invariant
