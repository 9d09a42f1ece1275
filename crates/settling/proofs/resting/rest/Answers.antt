use Rattle.std.proofs.Common.{◌≤◌, length, subst, arith}
use Rattle.lab_plan.specs.LabPlan.{LabPlan, edges}
use Rattle.legal_steps.specs.Legal.{IsJob}
use Rattle.settling.proofs.Deeds.{few_alone, some_if}
use Rattle.settling.proofs.Rested.{so_far_none, so_far_more, rested, too_many}
use Rattle.settling.proofs.resting.rest.Goals as goal

pub returns-then-more-eq0-clause-rests : goal.returns-then-more-eq0-clause-rests
returns-then-more-eq0-clause-rests g c =
    rested c.args.world.now c.loop-number.world c.round-more.new.world c.loop-number.due c.round-more.new.due c.loop-number._number c.loop-number.done
    c.round-more.result c.plan.ensures.reached c.loop-number.invariant c.if-more-eq0.true c.round-more.ensures.attends

pub loop-number-init : goal.loop-number-init
loop-number-init g c = so_far_none c.args.world.now c.args.due.now c.requires

pub overflow_add-done : goal.overflow_add-done
overflow_add-done g c =
    let few : length (edges c.args.world.now.plan) ≤ 496 =
    subst (λ (p : LabPlan). length (edges p) ≤ 496) c.plan.ensures.plan (subst (λ n. n ≤ 496) c.edges.ensures.edges c.edges.ensures.few) in
    let most = few_alone c.args.world.now c.loop-number.world c.loop-number.done c.plan.ensures.reached few c.loop-number.invariant.alone in
    omega (arith, most, c.round-more.ensures.few)

pub loop-number-preserved : goal.loop-number-preserved
loop-number-preserved g c =
    so_far_more c.args.world.now c.loop-number.world c.round-more.new.world c.loop-number.due c.round-more.new.due c.loop-number._number c.loop-number.done
    c.round-more.result (IsJob c.loop-number.world.plan) c.loop-number.invariant c.round-more.ensures.attends (some_if c.round-more.result c.if-more-eq0.false)

pub unreachable-requires : goal.unreachable-requires
unreachable-requires g c =
    let few : length (edges c.args.world.now.plan) ≤ 496 =
    subst (λ (p : LabPlan). length (edges p) ≤ 496) c.plan.ensures.plan (subst (λ n. n ≤ 496) c.edges.ensures.edges c.edges.ensures.few) in
    too_many c.args.world.now c.loop-number.world c.loop-number.due c.loop-number._number c.loop-number.done c.loop-number-test.false
    c.plan.ensures.reached few c.loop-number.invariant

pub returns-then-more-eq0-clause-few : goal.returns-then-more-eq0-clause-few
returns-then-more-eq0-clause-few g c =
    let few : length (edges c.args.world.now.plan) ≤ 496 =
    subst (λ (p : LabPlan). length (edges p) ≤ 496) c.plan.ensures.plan (subst (λ n. n ≤ 496) c.edges.ensures.edges c.edges.ensures.few) in
    few_alone c.args.world.now c.loop-number.world c.loop-number.done c.plan.ensures.reached few c.loop-number.invariant.alone
