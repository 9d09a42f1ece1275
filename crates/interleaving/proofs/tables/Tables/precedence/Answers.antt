use Rattle.std.proofs.Common.{◌≤◌, length, arith, sym, ap, subst}
use Rattle.lab_plan.specs.LabPlan.{edges}
use Rattle.interleaving.proofs.PrecedenceLemmas.{ArePairsBelow, pairs_none, pairs_more, precedes_of, by_edge_of}
use Rattle.interleaving.proofs.tables.Tables.precedence.Goals as goal

pub loop-edge-init : goal.loop-edge-init
loop-edge-init g c = pairs_none _ _ _ c.new-pairs.ensures.items

pub loop-edge-preserved : goal.loop-edge-preserved
loop-edge-preserved g c =
    let s = c.args.self.now in
    subst (ArePairsBelow s.plan s.state _) (sym c.in_ok-push.ensures.items)
    (pairs_more s.plan s.state c.loop-edge.edge c.loop-edge.pairs.items c.order.result
    c.loop-edge.invariant c.order.ensures.precedes c.order.ensures.no_other c.order.ensures.jobs)

pub returns-clause-by_edge : goal.returns-clause-by_edge
returns-clause-by_edge g c =
    let s = c.args.self.now in
    by_edge_of s.plan s.state c.loop-edge.edge c.loop-edge.pairs.items c.loop-edge.invariant
    (omega (arith, c.edges-edges.ensures.edges, ap (λ p. length (edges p)) c.plan.ensures.plan, c.loop-edge-test.false, c.loop-edge.far-edge))

pub returns-clause-pairs : goal.returns-clause-pairs
returns-clause-pairs g c =
    let s = c.args.self.now in
    let past : length (edges s.plan) ≤ c.loop-edge.edge = omega (arith, c.edges-edges.ensures.edges, ap (λ p. length (edges p)) c.plan.ensures.plan) in
    precedes_of s.plan s.state c.loop-edge.edge c.loop-edge.pairs.items c.loop-edge.invariant past

pub returns-clause-below : goal.returns-clause-below
returns-clause-below g c = c.loop-edge.invariant.below
