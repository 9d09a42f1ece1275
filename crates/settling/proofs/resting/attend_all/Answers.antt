use Rattle.std.proofs.Common.{◌≡◌, ℕ, ◌*◌, ◌<◌, ◌≤◌, List, length, slice_index_or, sym, ap, ◌∙◌, subst, arith}
use Rattle.lab_plan.specs.LabPlan.{LabPlan, edges, edges_of}
use Rattle.legal_steps.proofs.OwnEdges.{own_at, get_default}
use Rattle.interleaving.specs.World.{WorldView}
use Rattle.settling.proofs.Few.{few_own}
use Rattle.settling.proofs.Rested.{edges_none, edges_more, edges_all}
use Rattle.settling.proofs.resting.attend_all.Goals as goal

pub attend_edge-done-requires-clause-own : goal.attend_edge-done-requires-clause-own
attend_edge-done-requires-clause-own g c =
    let j = c.args.job in
    let p = c.loop-index.invariant.alone.leads.same_plan in
    let xs = c.edges_of.result.now in
    let is = c.edges_of.ensures ∙ ap (λ (q : LabPlan). edges_of q j) c.plan-in-loop-index.ensures.plan in
    let first = c.edges_of-index-end.ensures ∙ ap (λ (q : LabPlan). edges_of q j) c.plan-2.ensures.plan in
    let long : length xs ≡ length c.edges_of-index-end.result.now = ap (λ (l : List ℕ). length l) (is ∙ (ap (λ (q : LabPlan). edges_of q j) p ∙ sym first)) in
    let t = c.loop-index-test.true in
    own_at c.loop-index.world.plan j xs c.loop-index.index c.index-edges_of-index.result is (omega (arith, long, t)) c.index-edges_of-index.is

pub loop-index-init : goal.loop-index-init
loop-index-init g c = edges_none c.args.world.now c.args.due.now c.args.job c.requires.marked c.requires.due

few_at : (p q : LabPlan) (xs : List ℕ) (j n k m : ℕ) → p ≡ q → xs ≡ edges_of q j → n ≡ length (edges p) → n ≤ 496 → k ≤ length xs → m ≤ 5 * k → m ≤ 2480
few_at p q xs j n k m same are is few inside most =
    let a : length (edges q) ≡ n = ap (λ (z : LabPlan). length (edges z)) (sym same) ∙ sym is in
    let l = ap (λ (z : List ℕ). length z) are in
    let f = few_own q j in
    omega (arith, a, l, f, few, inside, most)

pub overflow_add-done : goal.overflow_add-done
overflow_add-done g c =
    let few = few_at c.plan.result.now c.plan-2.result.now c.edges_of-index-end.result.now c.args.job c.edges.result c.loop-index.index c.loop-index.done
    (c.plan.ensures.plan ∙ sym c.plan-2.ensures.plan) c.edges_of-index-end.ensures c.edges.ensures.edges c.edges.ensures.few c.loop-index.auto.index-end
    c.loop-index.invariant.few in
    omega (arith, few, c.attend_edge-done.ensures.few)

pub loop-index-preserved : goal.loop-index-preserved
loop-index-preserved g c =
    let w : WorldView = c.args.world.now in
    let mid : WorldView = c.loop-index.world in
    let j = c.args.job in
    let k = c.loop-index.index in
    let e = c.index-edges_of-index.result in
    let inv = c.loop-index.invariant in
    let es : List ℕ = edges_of w.plan j in
    let first : c.edges_of-index-end.result.now ≡ es = c.edges_of-index-end.ensures ∙ ap (λ (q : LabPlan). edges_of q j) c.plan-2.ensures.plan in
    let is : c.edges_of.result.now ≡ es = c.edges_of.ensures ∙ ap (λ (q : LabPlan). edges_of q j) (c.plan-in-loop-index.ensures.plan ∙ inv.alone.leads.same_plan) in
    let inside : k < length es = subst (λ n. k < n) (ap (λ (l : List ℕ). length l) first) c.loop-index-test.true in
    let at : e ≡ slice_index_or es k 0 = c.index-edges_of-index.is ∙ (ap (λ (l : List ℕ). slice_index_or l k e) is ∙ sym (get_default es k e inside)) in
    edges_more w mid c.attend_edge-done.new.world c.args.due.now c.loop-index.due c.attend_edge-done.new.due j k e c.loop-index.done c.attend_edge-done.result
    at inv c.attend_edge-done.ensures.attends c.attend_edge-done.ensures.few

pub returns-clause-attends : goal.returns-clause-attends
returns-clause-attends g c =
    let w : WorldView = c.args.world.now in
    let j = c.args.job in
    let first = c.edges_of-index-end.ensures ∙ ap (λ (q : LabPlan). edges_of q j) c.plan-2.ensures.plan in
    let long = ap (λ (z : List ℕ). length z) first in
    let past : length (edges_of w.plan j) ≤ c.loop-index.index = let t = c.loop-index-test.false in omega (arith, t, long) in
    edges_all w c.loop-index.world c.args.due.now c.loop-index.due j c.loop-index.index c.loop-index.done past c.loop-index.invariant

pub returns-clause-few : goal.returns-clause-few
returns-clause-few g c =
    let few = few_at c.plan.result.now c.plan-2.result.now c.edges_of-index-end.result.now c.args.job c.edges.result c.loop-index.index c.loop-index.done
    (c.plan.ensures.plan ∙ sym c.plan-2.ensures.plan) c.edges_of-index-end.ensures c.edges.ensures.edges c.edges.ensures.few c.loop-index.auto.index-end
    c.loop-index.invariant.few in
    omega (arith, few)
