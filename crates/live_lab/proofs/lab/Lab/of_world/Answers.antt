use Rattle.std.proofs.Common.{List, Option, None, length, ap, ◌∙◌, subst}
use Rattle.std.proofs.lemmas.List.{length-replicate}
use Rattle.lab_plan.specs.LabPlan.{LabPlan}
use Rattle.settling.specs.Left.{AreMarked}
use Rattle.late_thirst.specs.declared.asker.Asker.{Asker}
use Rattle.late_thirst.specs.Outside.{LineView}
use Rattle.live_lab.specs.declared.clock.Clock.{Clock}
use Rattle.live_lab.specs.Clocks.{no_clock}
use Rattle.live_lab.proofs.lab.Lab.of_world.Goals as goal

nowhere : Unit {0} → Option Asker
nowhere _ = None

pub invariant_of-result : goal.invariant_of-result
unfolding nowhere
invariant_of-result c =
    let w = c.args.world in (
      record {
        opening = c.requires;
        one_each = ap (λ (l : List Clock). length l) c.in_ok-clocks.ensures ∙ (length-replicate c.jobs.result no_clock
            ∙ (c.jobs.ensures.jobs ∙ ap (λ (p : LabPlan). length p.jobs) c.plan-2.ensures.plan));
      },
      subst (λ (p : LabPlan). AreMarked p w.state c.in_ok-due.due) c.plan.ensures.plan (c.in_ok-due.ensures.marked w.state),
      ap (λ (x : LineView). length x.places) c.in_ok-line.ensures ∙ (length-replicate c.jobs-2.result (nowhere tt)
          ∙ (c.jobs-2.ensures.jobs ∙ ap (λ (p : LabPlan). length p.jobs) c.plan-3.ensures.plan)),
    )
