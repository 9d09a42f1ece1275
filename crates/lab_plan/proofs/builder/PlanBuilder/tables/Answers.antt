use Rattle.std.proofs.Common.{◌≡◌, true, false, None, Some, refl, sym, ◌∙◌, subst}
use Rattle.std.proofs.lemmas.Result.{IfOk-from_err}
use Rattle.lab_plan.specs.declared.refusal.PlanRefusal.TheVariants.{SessionEmpty, TooManyInCommon}
use Rattle.lab_plan.specs.LabPlan.{LabPlan}
use Rattle.lab_plan.specs.IsPlan.{IsPlan}
use Rattle.lab_plan.specs.Tables.{AreTablesOf}
use Rattle.lab_plan.specs.Building.{is_bare, has_too_many_in_common, finish_refusal}
use Rattle.lab_plan.proofs.Closed.{finished}
use Rattle.lab_plan.proofs.builder.PlanBuilder.tables.Goals as goal

bare_refused : (plan : LabPlan) → is_bare plan ≡ true → finish_refusal plan ≡ Some SessionEmpty
bare_refused plan bare = rw bare refl

crowded_refused : (plan : LabPlan) → is_bare plan ≡ false → has_too_many_in_common plan ≡ true → finish_refusal plan ≡ Some TooManyInCommon
crowded_refused plan bare many = rw (bare, many) refl

none_refused : (plan : LabPlan) → is_bare plan ≡ false → has_too_many_in_common plan ≡ false → finish_refusal plan ≡ None
none_refused plan bare few = rw (bare, few) refl

pub returns-then-is_bare-clause-refused : goal.returns-then-is_bare-clause-refused
returns-then-is_bare-clause-refused g c =
    subst (λ (p : LabPlan). finish_refusal p ≡ Some SessionEmpty) c.self.view_is (bare_refused c.self.inside.draft (sym c.is_bare.ensures ∙ c.if-is_bare.true))

pub has_too_many_in_common-requires : goal.has_too_many_in_common-requires
has_too_many_in_common-requires g c = c.self.invariant.is_draft

pub returns-then-has_too_many_in_common-clause-refused : goal.returns-then-has_too_many_in_common-clause-refused
returns-then-has_too_many_in_common-clause-refused g c =
    let bare = sym c.is_bare.ensures ∙ c.if-is_bare.false in
    let many = sym c.has_too_many_in_common.ensures ∙ c.if-has_too_many_in_common.true in
    subst (λ (p : LabPlan). finish_refusal p ≡ Some TooManyInCommon) c.self.view_is (crowded_refused c.self.inside.draft bare many)

pub returns-in_err-new-clause-tables : goal.returns-in_err-new-clause-tables
returns-in_err-new-clause-tables g c = IfOk-from_err c.from_residual.result _ c.from_residual.ensures.0

pub returns-in_err-new-clause-plan : goal.returns-in_err-new-clause-plan
returns-in_err-new-clause-plan g c = IfOk-from_err c.from_residual.result _ c.from_residual.ensures.0

pub returns-clause-tables : goal.returns-clause-tables
returns-clause-tables g c =
    let bare = sym c.is_bare.ensures ∙ c.if-is_bare.false in
    let few = sym c.has_too_many_in_common.ensures ∙ c.if-has_too_many_in_common.false in (
      subst (λ (p : LabPlan). finish_refusal p ≡ None) c.self.view_is (none_refused c.self.inside.draft bare few),
      subst (λ (p : LabPlan). AreTablesOf p c.in_ok-new.field-0) c.self.view_is c.in_ok-new.ensures,
    )

pub returns-clause-plan : goal.returns-clause-plan
returns-clause-plan g c =
    let bare = sym c.is_bare.ensures ∙ c.if-is_bare.false in
    let few = sym c.has_too_many_in_common.ensures ∙ c.if-has_too_many_in_common.false in
    subst IsPlan c.self.view_is (finished c.self.inside.draft c.self.invariant.is_draft c.self.invariant.closed bare few)
