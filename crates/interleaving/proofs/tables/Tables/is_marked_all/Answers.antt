use Rattle.std.proofs.Common.{◌≡◌, true, ◌∙◌, sym, refl}
use Rattle.std.proofs.lemmas.Bool.{false≢true}
use Rattle.legal_steps.specs.State.{fork_mark}
use Rattle.legal_steps.proofs.OwnEdges.{own_at, at_own_edges}
use Rattle.interleaving.proofs.tables.Tables.is_marked_all.Goals as goal

pub fork_mark-requires-clause-is_edge : goal.fork_mark-requires-clause-is_edge
fork_mark-requires-clause-is_edge g c = (own_at _ _ _ _ _ c.own_edges-own.ensures c.loop-edge-test.true c.edge-item.is).is_edge

pub returns-then-not-fork_mark : goal.returns-then-not-fork_mark
returns-then-not-fork_mark g c = (
  λ t. absurd (false≢true t),
  λ all. sym c.if-not-fork_mark.true ∙ (c.fork_mark.ensures ∙ all _ (own_at _ _ _ _ _ c.own_edges-own.ensures c.loop-edge-test.true c.edge-item.is)),
)

pub returns : goal.returns
returns g c = (
  λ t. at_own_edges c.args.self.now.plan c.args.job c.own_edges-own.result.now c.loop-edge.edge-index
      (λ e. fork_mark c.args.self.now.state c.args.job e ≡ true) c.own_edges-own.ensures c.loop-edge-test.false c.loop-edge.invariant,
  λ all. refl,
)
