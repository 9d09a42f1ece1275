use Rattle.std.proofs.Common.{refl, subst}
use Rattle.lab_plan.specs.LabPlan.{LabPlan}
use Rattle.lab_plan.specs.IsPlan.{IsPlan}
use Rattle.late_thirst.proofs.Those.{none_let_in}
use Rattle.live_lab.proofs.BitsOf.{used_set}
use Rattle.live_lab.proofs.admission.next_in.Goals as goal

pub returns-then-those-eq0 : goal.returns-then-those-eq0
returns-then-those-eq0 g c =
    let w = c.args.world.now in let line = c.args.line.now in let ready = c.jobs_of-ready.result in
    let u = used_set w (subst (λ (p : LabPlan). IsPlan p) c.plan.ensures.plan c.jobs.ensures.plan) in
    record {
      ready = ready;
      may = c.jobs_of-ready.ensures;
      used = u.0;
      in_use = u.1;
      small = u.2;
      lets = record {
        places = none_let_in line.most ready u.0 line.places c.outside.result c.outside.ensures c.if-those-eq0.true;
        calls = refl;
        most = refl;
      };
    }
