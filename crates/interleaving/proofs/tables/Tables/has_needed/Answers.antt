use Rattle.std.proofs.Common.{refl}
use Rattle.std.proofs.lemmas.Bool.{false≢true}
use Rattle.legal_steps.specs.Legal.{HasNeededAt}
use Rattle.legal_steps.proofs.OwnEdges.{own_at, at_own_edges}
use Rattle.interleaving.proofs.tables.Tables.has_needed.Goals as goal

pub has_needed_at-requires-clause-is_edge : goal.has_needed_at-requires-clause-is_edge
has_needed_at-requires-clause-is_edge g c = (own_at _ _ _ _ _ c.own_edges-own.ensures c.loop-edge-test.true c.edge-item.is).is_edge

pub returns-then-not-has_needed_at : goal.returns-then-not-has_needed_at
returns-then-not-has_needed_at g c = (
  λ t. absurd (false≢true t),
  λ all. c.if-not-has_needed_at.ensures.1 (all _ (own_at _ _ _ _ _ c.own_edges-own.ensures c.loop-edge-test.true c.edge-item.is)),
)

pub returns : goal.returns
returns g c = (
  λ t. at_own_edges c.args.self.now.plan c.args.job c.own_edges-own.result.now c.loop-edge.edge-index
      (HasNeededAt c.args.self.now.plan c.args.self.now.state c.args.job) c.own_edges-own.ensures c.loop-edge-test.false c.loop-edge.invariant,
  λ all. refl,
)
