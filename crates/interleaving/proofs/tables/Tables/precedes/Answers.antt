use Rattle.std.proofs.Common.{◌≡◌, slice_index_or, arith, sym, ◌∙◌, subst, inl, inr}
use Rattle.std.proofs.lemmas.Bool.{cases_lt, false≢true}
use Rattle.legal_steps.specs.Precedence.{PrecedesOn}
use Rattle.legal_steps.proofs.FitsLaw.{own_is_job}
use Rattle.legal_steps.proofs.OwnEdges.{own_at, at_own_edges, get_default}
use Rattle.interleaving.proofs.PrecedenceLemmas.{precedes_own, both_equal}
use Rattle.interleaving.proofs.tables.Tables.precedes.Goals as goal

pub returns-then-not-is_job : goal.returns-then-not-is_job
returns-then-not-is_job g c = (
  λ t. absurd (false≢true t),
  λ p. sym c.if-not-is_job.true ∙ c.is_job.ensures.1 (own_is_job _ _ _ (precedes_own _ _ _ _ _ p.1)),
)

pub order-requires : goal.order-requires
order-requires g c = (own_at _ _ _ _ _ c.own_edges-own.ensures c.loop-edge-test.true c.edge-item.is).is_edge

pub loop-edge-preserved : goal.loop-edge-preserved
loop-edge-preserved g c = λ k below on. elim (cases_lt k c.loop-edge.edge-index) [
  | inl before ↦ c.loop-edge.invariant k before on
  | inr past ↦
      let s = c.args.self.now in
      let own = c.own_edges-own.result.now in
      let last : k ≡ c.loop-edge.edge-index = omega arith in
      let item : slice_index_or own k 0 ≡ c.edge-item.result =
      subst (λ n. slice_index_or own n 0 ≡ c.edge-item.result) (sym last) (get_default own c.loop-edge.edge-index c.edge-item.result c.loop-edge-test.true
      ∙ sym c.edge-item.is) in
      let is = c.order.ensures.no_other c.args.a c.args.b (subst (λ e. PrecedesOn s.plan s.state e c.args.a c.args.b) item on) in
      false≢true (sym c.if-eq.false ∙ (c.eq.ensures ∙ both_equal _ _ _ _ (sym is.0) (sym is.1)))
]

pub returns : goal.returns
returns g c =
    let s = c.args.self.now in (
      λ t. absurd (false≢true t),
      λ p. absurd (at_own_edges s.plan c.args.a c.own_edges-own.result.now c.loop-edge.edge-index (λ e. ¬ PrecedesOn s.plan s.state e c.args.a c.args.b)
          c.own_edges-own.ensures c.loop-edge-test.false c.loop-edge.invariant p.0 (precedes_own _ _ _ _ _ p.1) p.1),
    )
