use Rattle.std.proofs.Common.{◌<◌, ◌+◌, ℕ, List, get_or, set, sym, ◌∙◌, subst, arith, length-set}
use Rattle.lab_plan.specs.LabPlan.{LabPlan}
use Rattle.legal_steps.specs.State.{IsOwn}
use Rattle.legal_steps.specs.declared.phase.JobState.{JobState}
use Rattle.legal_steps.proofs.OwnEdges.{own_at, get_default, at_own_edges}
use Rattle.edge_rule.specs.NeededBottles.{AreNeededIn}
use Rattle.edge_rule.proofs.NotedNeeds.{set_more}
use Rattle.edge_rule.proofs.needed.set_needed.Goals as goal

pub needed_in-requires-clause-edge : goal.needed_in-requires-clause-edge
needed_in-requires-clause-edge g c =
    (own_at c.args.plan.now c.args.job c.edges_of-own.result.now c.loop-edge.edge-index c.edge-item.result
    c.edges_of-own.ensures c.loop-edge-test.true c.edge-item.is).is_edge

pub index_mut-requires : goal.index_mut-requires
index_mut-requires g c =
    let own : IsOwn c.args.plan.now c.args.job c.edge-item.result =
    own_at c.args.plan.now c.args.job c.edges_of-own.result.now c.loop-edge.edge-index c.edge-item.result
    c.edges_of-own.ensures c.loop-edge-test.true c.edge-item.is in
    let inside = own.is_edge in
    let at = c.number.ensures.0 in
    let wide = c.loop-edge.invariant.0 in
    let same = c.loop-edge.needed.ok.0 in
    omega arith

pub loop-edge-preserved : goal.loop-edge-preserved
loop-edge-preserved g c =
    let plan : LabPlan = c.args.plan.now in
    let j : ℕ = c.args.job in
    let x : JobState = c.args.phase in
    let own : List ℕ = c.edges_of-own.result.now in
    let sets : List ℕ = c.loop-edge.needed.items in
    let i : ℕ = c.loop-edge.edge-index in
    let e : ℕ = c.edge-item.result in
    let n : ℕ = c.needed_in.result in
    let is_own : IsOwn plan j e = own_at plan j own i e c.edges_of-own.ensures c.loop-edge-test.true c.edge-item.is in (
      length-set sets c.number.result n ∙ c.loop-edge.invariant.0,
      subst (λ (place : ℕ). (k : ℕ) → k < i + 1 → AreNeededIn plan j x (get_or own k 0) (get_or (set sets place n) (get_or own k 0) 0))
          (sym c.number.ensures.0)
          (set_more plan j x own sets i e n c.loop-edge.invariant.0 (c.edge-item.is ∙ sym (get_default own i e c.loop-edge-test.true))
          is_own.is_edge c.needed_in.ensures c.loop-edge.invariant.1),
    )

pub returns : goal.returns
returns g c = record {
  wide = c.loop-edge.invariant.0;
  each = at_own_edges c.args.plan.now c.args.job c.edges_of-own.result.now c.loop-edge.edge-index
      (λ e. AreNeededIn c.args.plan.now c.args.job c.args.phase e (get_or c.loop-edge.needed.items e 0))
      c.edges_of-own.ensures c.loop-edge-test.false c.loop-edge.invariant.1;
}
