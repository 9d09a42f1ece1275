use Rattle.std.proofs.Common.{ℕ, List, length, arith, ap, subst}
use Rattle.lab_plan.specs.LabPlan.{LabPlan, commands}
use Rattle.lab_plan.specs.IsPlan.{IsPlan}
use Rattle.lab_plan.specs.declared.verb.Verb.{Verb}
use Rattle.lab_plan.proofs.Small.{few_in_session}
use Rattle.lab_plan.proofs.plan.Plan.part.Goals as goal

pub count_on-requires : goal.count_on-requires
count_on-requires g c =
    let plan = subst IsPlan c.self.view_is c.self.invariant.is_plan in
    let few = few_in_session c.args.self.now c.args.job c.args.session plan.draft c.requires.is_job c.requires.begun c.requires.is_session in
    let same = ap (λ (p : LabPlan). length (commands p c.args.job c.args.session)) c.self.view_is in
    omega (arith, few, same, ap (λ (l : List (ℕ × Verb)). length l) c.commands.ensures)
