use Rattle.std.proofs.Common.{◌≡◌, ◌<◌, ◌≤◌, false, length, ap, sym, ◌∙◌, subst, arith}
use Rattle.std.specs.Option.{ForSome}
use Rattle.lab_plan.specs.LabPlan.{LabPlan, all_commands}
use Rattle.lab_plan.specs.IsPlan.{IsDraft}
use Rattle.lab_plan.specs.Building.{AreClosed, is_bare, last_job}
use Rattle.lab_plan.proofs.Closed.{closed_with_session}
use Rattle.lab_plan.proofs.Drafts.{draft_with_session}
use Rattle.lab_plan.proofs.Grown.{all_commands_with_session}
use Rattle.lab_plan.proofs.builder.PlanBuilder.begin.Goals as goal

pub invariant_of-self-2 : goal.invariant_of-self-2
invariant_of-self-2 g c =
    let plan : LabPlan = c.self.inside.draft in
    let new = c.in_ok-begin.ensures in
    let some : 0 < length plan.jobs = subst (λ (p : LabPlan). 0 < length p.jobs) (sym c.self.view_is) c.requires.job in
    let room : length (last_job plan).sessions < 1000 = omega arith in
    let patient = subst (λ (p : LabPlan). ForSome c.args.patience (λ n. (p.version ≡ 2) × (n ≤ 999999))) (sym c.self.view_is) c.requires.patient in
    let unbare : is_bare plan ≡ false = sym c.is_bare.ensures ∙ c.if-is_bare.false in
    record {
      is_draft = subst IsDraft (sym new) (draft_with_session c.args.patience plan c.self.invariant.is_draft some room patient);
      closed = subst AreClosed (sym new) (closed_with_session c.args.patience plan c.self.invariant.closed unbare);
      counted = c.self.invariant.counted ∙ ap (λ all. length all) (sym (all_commands_with_session c.args.patience plan some))
          ∙ ap (λ (p : LabPlan). length (all_commands p)) (sym new);
    }
