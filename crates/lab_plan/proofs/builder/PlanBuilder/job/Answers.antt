use Rattle.std.proofs.Common.{◌≡◌, ◌<◌, false, length, ap, sym, ◌∙◌, subst, arith}
use Rattle.lab_plan.specs.LabPlan.{LabPlan, all_commands}
use Rattle.lab_plan.specs.IsPlan.{IsDraft}
use Rattle.lab_plan.specs.Building.{AreClosed, is_bare, is_job}
use Rattle.lab_plan.proofs.Closed.{closed_with_job}
use Rattle.lab_plan.proofs.Drafts.{draft_with_job}
use Rattle.lab_plan.proofs.Grown.{all_commands_with_job}
use Rattle.lab_plan.proofs.builder.PlanBuilder.job.Goals as goal

pub invariant_of-self-2 : goal.invariant_of-self-2
invariant_of-self-2 g c =
    let name = c.args.name.now in
    let plan : LabPlan = c.self.inside.draft in
    let new = c.in_ok-add_job.ensures in
    let other : is_job name plan ≡ false = sym c.is_job.ensures ∙ c.if-is_job.false in
    let room : length plan.jobs < 32 = omega arith in
    let unbare : is_bare plan ≡ false = sym c.is_bare.ensures ∙ c.if-is_bare.false in
    record {
      is_draft = subst IsDraft (sym new) (draft_with_job name plan c.self.invariant.is_draft c.requires other room);
      closed = subst AreClosed (sym new) (closed_with_job name plan c.self.invariant.closed unbare);
      counted = c.self.invariant.counted ∙ ap (λ all. length all) (sym (all_commands_with_job name plan))
          ∙ ap (λ (p : LabPlan). length (all_commands p)) (sym new);
    }
