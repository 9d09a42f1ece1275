use Rattle.std.proofs.Common.{◌≡◌, ◌+◌, ◌<◌, ◌≤◌, ◌∷◌, [], ◌++◌, ℕ, List, take, length, slice_index_or, refl, sym, ap, ◌∙◌, subst, arith}
use Rattle.std.proofs.lemmas.List.{take_more}
use Rattle.lab_plan.specs.LabPlan.{LabPlan, edges, edges_of}
use Rattle.legal_steps.proofs.OwnEdges.{own_at}
use Rattle.interleaving.specs.World.{WorldView}
use Rattle.settling.specs.Doing.{VisitsEdge, VisitsEdges}
use Rattle.settling.proofs.Few.{few_own}
use Rattle.settling.proofs.Visits.{visits_both, one_visit}
use Rattle.settling.proofs.edge_visits.visit_all.Goals as goal
use Rattle.settling.proofs.edge_visits.visit_all.Goals.{then-visit-gt0, else-visit-gt0}

zero_added : (n : ℕ) → n + 0 ≡ n
zero_added n = omega arith

pub visit-requires : goal.visit-requires
visit-requires g c =
    let j = c.args.job in
    let p = c.loop-index.invariant.0.leads.same_plan in
    let xs = c.edges_of.result.now in
    let is = c.edges_of.ensures ∙ ap (λ (q : LabPlan). edges_of q j) c.plan-in-loop-index.ensures.plan in
    let first = c.edges_of-index-end.ensures ∙ ap (λ (q : LabPlan). edges_of q j) c.plan-2.ensures.plan in
    let long : length xs ≡ length c.edges_of-index-end.result.now = ap (λ (l : List ℕ). length l) (is ∙ (ap (λ (q : LabPlan). edges_of q j) p ∙ sym first)) in
    let t = c.loop-index-test.true in
    own_at c.loop-index.world.plan j xs c.loop-index.index c.index-edges_of-index.result is (omega (arith, long, t)) c.index-edges_of-index.is

pub overflow_add-done : goal.overflow_add-done
overflow_add-done g c =
    let i = c.loop-index.invariant.1 in let f = few_own c.plan-2.result.now c.args.job in
    let l = ap (λ (z : List ℕ). length z) c.edges_of-index-end.ensures in let t = c.loop-index-test.true in
    let n : length (edges c.plan-2.result.now) ≤ 496 = subst (λ (p : LabPlan). length (edges p) ≤ 496) (c.plan.ensures.plan ∙ sym c.plan-2.ensures.plan)
    (subst (λ m. m ≤ 496) c.edges.ensures.edges c.edges.ensures.few) in
    omega (arith, i, f, l, t, n)

pub loop-index-preserved : goal.loop-index-preserved
loop-index-preserved g c =
    let w : WorldView = c.args.world.now in
    let mid : WorldView = c.loop-index.world in
    let new : WorldView = c.visit.new.world in
    let j = c.args.job in
    let k = c.loop-index.index in
    let e = c.index-edges_of-index.result in
    let inv = c.loop-index.invariant in
    let v : VisitsEdge mid j e c.visit.result new = c.visit.ensures.visits in
    let es : List ℕ = edges_of w.plan j in
    let first : c.edges_of-index-end.result.now ≡ es = c.edges_of-index-end.ensures ∙ ap (λ (q : LabPlan). edges_of q j) c.plan-2.ensures.plan in
    let is : c.edges_of.result.now ≡ es = c.edges_of.ensures ∙ ap (λ (q : LabPlan). edges_of q j) (c.plan-in-loop-index.ensures.plan ∙ inv.0.leads.same_plan) in
    let inside : k < length es = subst (λ n. k < n) (ap (λ (l : List ℕ). length l) first) c.loop-index-test.true in
    let at : e ≡ slice_index_or es k e = c.index-edges_of-index.is ∙ ap (λ (l : List ℕ). slice_index_or l k e) is in
    let more : take k es ++ e ∷ [] ≡ take (k + 1) es = ap (λ n. take k es ++ n ∷ []) at ∙ sym (take_more es k e inside) in
    let all : (m : ℕ) → (0 < c.visit.result → m ≡ 1) → (¬ (0 < c.visit.result) → m ≡ 0) → VisitsEdges w j (take (k + 1) es) (c.loop-index.done + m) new =
    λ m some none. subst (λ (l : List ℕ). VisitsEdges w j l (c.loop-index.done + m) new) more
    (visits_both j w mid new (take k es) (e ∷ []) c.loop-index.done m inv.0 (one_visit j e c.visit.result m mid new v some none)) in
    elim c.if-visit-gt0.branch [
      | then-visit-gt0 b ↦ let yes = b.if-visit-gt0.true in (
        subst (λ n. VisitsEdges w j (take (k + 1) es) n new) (sym b.done-is) (all 1 (λ h. refl) (λ h. absurd (h yes))),
        omega (arith, inv.1, b.done-is),
      )
      | else-visit-gt0 b ↦ let no_more = b.if-visit-gt0.false in (
        subst (λ n. VisitsEdges w j (take (k + 1) es) n new) (zero_added c.loop-index.done ∙ sym b.done-is) (all 0 (λ h. absurd (omega (arith, h, no_more))) (λ h. refl)),
        omega (arith, inv.1, b.done-is),
      )
    ]

pub returns-clause-few : goal.returns-clause-few
returns-clause-few g c =
    let i = c.loop-index.invariant.1 in let f = few_own c.plan-2.result.now c.args.job in
    let l = ap (λ (z : List ℕ). length z) c.edges_of-index-end.ensures in let t = c.loop-index.auto.index-end in
    let n : length (edges c.plan-2.result.now) ≤ 496 = subst (λ (p : LabPlan). length (edges p) ≤ 496) (c.plan.ensures.plan ∙ sym c.plan-2.ensures.plan)
    (subst (λ m. m ≤ 496) c.edges.ensures.edges c.edges.ensures.few) in
    omega (arith, i, f, l, t, n)
