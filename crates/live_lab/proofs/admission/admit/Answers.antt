use Rattle.std.proofs.Common.{◌≤◌, length, arith, ap, subst}
use Rattle.lab_plan.specs.LabPlan.{LabPlan}
use Rattle.settling.proofs.Nothing.{leads_none}
use Rattle.late_thirst.proofs.Fewer.{fewer_after}
use Rattle.live_lab.specs.Admitting.{LetsInNext}
use Rattle.live_lab.proofs.Admitted.{nobody_yet, may_begin, some_more, all_admitted}
use Rattle.live_lab.proofs.admission.admit.Goals as goal

pub rounds-init : goal.rounds-init
rounds-init g c =
    let w = c.args.world.now in
    let few : length c.plan.result.now.jobs ≤ 32 = c.jobs.ensures.plan.draft.few_jobs in
    nobody_yet c.args.waiting w c.args.line.now c.args.due.now (omega (arith, few, ap (λ (p : LabPlan). length p.jobs) c.plan.ensures.plan)) c.requires.line
    c.requires.askers (leads_none w) c.requires.marked

pub say_and_rest-deeds-requires-clause-may : goal.say_and_rest-deeds-requires-clause-may
say_and_rest-deeds-requires-clause-may g c =
    may_begin c.args.waiting c.rounds.world c.rounds.line c.next_in-set.result c.next_in-set.new.line c.next_in-set.ensures

pub rounds-smaller : goal.rounds-smaller
rounds-smaller g c =
    let n = c.next_in-set.ensures in let there = c.rounds.line in
    fewer_after there.most n.ready n.used there.places c.next_in-set.result c.next_in-set.new.line.places c.if-set-eq0.false n.lets.places

pub rounds-preserved : goal.rounds-preserved
rounds-preserved g c =
    let l = c.rounds in
    some_more c.args.waiting c.args.world.now c.args.line.now l.world l.line l.due l.deeds c.next_in-set.result c.say_and_rest-deeds.result
    c.say_and_rest-deeds.new.world c.next_in-set.new.line c.say_and_rest-deeds.new.due c.if-set-eq0.false c.next_in-set.ensures c.say_and_rest-deeds.ensures.does
    c.say_and_rest-deeds.ensures.few c.say_and_rest-deeds.ensures.marked l.invariant

pub returns-clause-admits : goal.returns-clause-admits
returns-clause-admits g c =
    let l = c.rounds in
    all_admitted c.args.waiting c.args.world.now c.args.line.now l.world l.line l.due l.deeds c.next_in-set.new.line
    (subst (λ n. LetsInNext c.args.waiting l.world l.line n c.next_in-set.new.line) c.if-set-eq0.true c.next_in-set.ensures) l.invariant
