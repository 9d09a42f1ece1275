use Rattle.std.proofs.Common.{◌≡◌, ◌+◌, ◌≤◌, ◌∷◌, [], ◌++◌, ℕ, List, take, length, sym, ap, ◌∙◌, subst, arith}
use Rattle.std.proofs.lemmas.List.{take_more}
use Rattle.lab_plan.specs.LabPlan.{LabPlan, edges_of}
use Rattle.legal_steps.specs.State.{IsOwn}
use Rattle.edge_rule.specs.DeskView.{DeskView}
use Rattle.session_layer.specs.Turn.{Along, done_by, lost_by}
use Rattle.session_layer.specs.declared.turning.Visited.{Visited}
use Rattle.session_layer.specs.declared.turning.Visited.TheVariants as visits
use Rattle.legal_steps.proofs.OwnEdges.{own_at}
use Rattle.session_layer.proofs.Turns.{along_more, few_own}
use Rattle.session_layer.proofs.turning.visit_all.Goals as goal
use Rattle.session_layer.proofs.turning.visit_all.Goals.{in-Done, in-Lost, in-Calm}

pub visit-requires-clause-edge : goal.visit-requires-clause-edge
visit-requires-clause-edge g c = let a = c.loop-edge.invariant.0 in
    subst (λ (z : LabPlan × ℕ). IsOwn z.0 z.1 c.edge-item.result) (λ i. (sym a.plan i, sym a.job i))
    (own_at c.args.desk.now.plan c.args.desk.now.job _ _
    _ (c.edges_of-own.ensures ∙ (λ i. edges_of ((c.plan-plan.ensures ∙ sym c.requires.own.1) i) (c.job.ensures.job i)))
    c.loop-edge-test.true c.edge-item.is)

pub overflow_add-done : goal.overflow_add-done
overflow_add-done g c = let i = c.loop-edge.invariant.1 in let l = ap (λ (z : List ℕ). length z) c.edges_of-own.ensures in
    let f = few_own c.plan-plan.result.now c.job.result in let t = c.loop-edge-test.true in let n = c.edges.ensures in omega (arith, i, l, f, t, n)

pub overflow_add-lost : goal.overflow_add-lost
overflow_add-lost g c = let i = c.loop-edge.invariant.1 in let l = ap (λ (z : List ℕ). length z) c.edges_of-own.ensures in
    let f = few_own c.plan-plan.result.now c.job.result in let t = c.loop-edge-test.true in let n = c.edges.ensures in omega (arith, i, l, f, t, n)

pub loop-edge-preserved : goal.loop-edge-preserved
loop-edge-preserved g c =
    let d : DeskView = c.args.desk.now in
    let a = c.loop-edge.invariant.0 in
    let i = c.loop-edge.invariant.1 in
    let done : ℕ = c.loop-edge.done in
    let lost : ℕ = c.loop-edge.lost in
    let own : List ℕ = c.edges_of-own.result.now in
    let more : take c.loop-edge.edge-index own ++ c.edge-item.result ∷ [] ≡ take (c.loop-edge.edge-index + 1) own =
    ap (λ n. take c.loop-edge.edge-index own ++ n ∷ []) c.edge-item.is ∙ sym (take_more own c.loop-edge.edge-index c.edge-item.result c.loop-edge-test.true) in
    let visited : Along d (take (c.loop-edge.edge-index + 1) own) (done + done_by c.visit.result) (lost + lost_by c.visit.result) c.visit.new.desk =
    subst (λ (z : List ℕ). Along d z (done + done_by c.visit.result) (lost + lost_by c.visit.result) c.visit.new.desk) more
    (along_more d c.loop-edge.desk c.visit.new.desk (take c.loop-edge.edge-index own) c.edge-item.result done lost c.visit.result a c.visit.ensures) in
    let step : (r : Visited) (m n : ℕ) → c.visit.result ≡ r → done + done_by r ≡ m
    → lost + lost_by r ≡ n → m ≤ c.loop-edge.edge-index + 1 → n ≤ c.loop-edge.edge-index + 1
    → Along d (take (c.loop-edge.edge-index + 1) own) m n c.visit.new.desk × (m ≤ c.loop-edge.edge-index + 1) × (n ≤ c.loop-edge.edge-index + 1) =
    λ r m n is is_m is_n few_m few_n. (
      subst (λ (z : ℕ × ℕ). Along d (take (c.loop-edge.edge-index + 1) own) z.0 z.1 c.visit.new.desk)
          (λ k. ((ap (λ (x : Visited). done + done_by x) is ∙ is_m) k, (ap (λ (x : Visited). lost + lost_by x) is ∙ is_n) k)) visited,
      few_m,
      few_n,
    ) in
    elim c.match-visit.branch [
      | in-Done w ↦ let m = w.done-is in
          let n = w.lost-is in
          step visits.Done c.match-visit.done c.match-visit.lost w.in-Done.is (omega arith) (omega arith) (omega (arith, i)) (omega (arith, i))
      | in-Lost w ↦ let m = w.done-is in
          let n = w.lost-is in
          step visits.Lost c.match-visit.done c.match-visit.lost w.in-Lost.is (omega arith) (omega arith) (omega (arith, i)) (omega (arith, i))
      | in-Calm w ↦ let m = w.done-is in
          let n = w.lost-is in
          step visits.Calm c.match-visit.done c.match-visit.lost w.in-Calm.is (omega arith) (omega arith) (omega (arith, i)) (omega (arith, i))
    ]

pub returns-clause-few : goal.returns-clause-few
returns-clause-few g c =
    let i = c.loop-edge.invariant.1 in
    let l = ap (λ (z : List ℕ). length z) c.edges_of-own.ensures in
    let f = few_own c.plan-plan.result.now c.job.result in
    let t = c.loop-edge.auto.edge-index-end in
    let n = c.edges.ensures in
    ((omega (arith, i, l, f, t, n)), (omega (arith, i, l, f, t, n)))
