use Rattle.std.proofs.Common.{◌≡◌, slice_index_or, ◌∙◌, sym, ap, subst}
use Rattle.std.proofs.lemmas.Bool.{false≢true}
use Rattle.lab_plan.specs.LabPlan.{LabPlan, edges_of}
use Rattle.legal_steps.proofs.OwnEdges.{own_at, get_default, at_own_edges}
use Rattle.live_lab.specs.Keepers.{IsKeptAt}
use Rattle.live_lab.proofs.Tests.{none_more}
use Rattle.live_lab.proofs.keepers.is_keeper.Goals as goal

pub is_kept_at-requires-clause-own : goal.is_kept_at-requires-clause-own
is_kept_at-requires-clause-own g c =
    own_at _ _ _ _ _ (c.edges_of-own.ensures ∙ ap (λ (p : LabPlan). edges_of p c.args.job) c.plan.ensures.plan) c.loop-edge-test.true c.edge-item.is

pub loop-edge-preserved : goal.loop-edge-preserved
loop-edge-preserved g c =
    let w = c.args.world.now in let own = c.edges_of-own.result.now in let n = c.loop-edge.edge-index in
    let here : c.edge-item.result ≡ slice_index_or own n 0 = c.edge-item.is ∙ sym (get_default own n c.edge-item.result c.loop-edge-test.true) in
    none_more (λ k. IsKeptAt w.plan w.state c.args.job c.args.instrument c.args.other (slice_index_or own k 0)) n c.loop-edge.invariant
    (λ q. false≢true (sym c.if-is_kept_at.false ∙ c.is_kept_at.ensures.1 (subst (IsKeptAt w.plan w.state c.args.job c.args.instrument c.args.other) (sym here) q)))

pub returns : goal.returns
returns g c =
    let w = c.args.world.now in let own = c.edges_of-own.result.now in (
      λ t. absurd (false≢true t),
      λ q. absurd (at_own_edges w.plan c.args.job own c.loop-edge.edge-index (λ e. ¬ IsKeptAt w.plan w.state c.args.job c.args.instrument c.args.other e)
          (c.edges_of-own.ensures ∙ ap (λ (p : LabPlan). edges_of p c.args.job) c.plan.ensures.plan) c.loop-edge-test.false c.loop-edge.invariant q.0 q.1.1.1.own q.1),
    )
