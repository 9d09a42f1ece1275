use Rattle.std.proofs.Common.{◌≡◌, ◌+◌, false, slice_index_or, sym, ◌∙◌, subst, arith}
use Rattle.legal_steps.proofs.OwnEdges.{own_at, get_default}
use Rattle.settling.specs.Left.{DueView}
use Rattle.settling.specs.Attending.{with_note}
use Rattle.settling.proofs.Waking.{SelfWoken, self_more, self_keeps}
use Rattle.settling.proofs.due.wake_self.Goals as goal

pub of-requires : goal.of-requires
of-requires g c =
    own_at c.args.plan.now c.args.job c.edges_of-edge-items.result.now c.loop-edge.edge-index c.edge-item.result c.edges_of-edge-items.ensures
    c.loop-edge-test.true c.edge-item.is

pub forget-requires-clause-lower : goal.forget-requires-clause-lower
forget-requires-clause-lower g c =
    let own = own_at c.args.plan.now c.args.job c.edges_of-edge-items.result.now c.loop-edge.edge-index c.edge-item.result c.edges_of-edge-items.ensures
    c.loop-edge-test.true c.edge-item.is in
    omega (arith, own.is_edge, c.loop-edge.invariant.fits.lower_there)

pub forget-requires-clause-higher : goal.forget-requires-clause-higher
forget-requires-clause-higher g c =
    let own = own_at c.args.plan.now c.args.job c.edges_of-edge-items.result.now c.loop-edge.edge-index c.edge-item.result c.edges_of-edge-items.ensures
    c.loop-edge-test.true c.edge-item.is in
    omega (arith, own.is_edge, c.loop-edge.invariant.fits.higher_there)

pub loop-edge-preserved : goal.loop-edge-preserved
loop-edge-preserved g c =
    let es = c.edges_of-edge-items.result.now in
    let k = c.loop-edge.edge-index in
    let e = c.edge-item.result in
    let is : e ≡ slice_index_or es k 0 = c.edge-item.is ∙ sym (get_default es k e c.loop-edge-test.true) in
    subst (λ (due : DueView). SelfWoken c.args.plan.now c.args.job c.args.due.now es (k + 1) due)
    (sym (c.forget.ensures ∙ (λ i. with_note c.loop-edge.due (c.of.ensures.end i) e false)))
    (self_more c.args.plan.now c.args.job c.args.due.now es k e c.loop-edge.due is c.loop-edge.invariant)

pub returns-clause-keeps : goal.returns-clause-keeps
returns-clause-keeps g c =
    self_keeps c.args.plan.now c.args.job c.args.due.now c.edges_of-edge-items.result.now c.loop-edge.edge-index c.loop-edge.due c.edges_of-edge-items.ensures
    (let t = c.loop-edge-test.false in omega (arith, t)) c.loop-edge.invariant
