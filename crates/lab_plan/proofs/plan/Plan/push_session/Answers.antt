use Rattle.std.proofs.Common.{◌≡◌, ◌<◌, length, is_ok, rules, sym, ap, ◌∙◌, subst}
use Rattle.std.specs.Prelude.{None, not}
use Rattle.lab_plan.specs.LabPlan.{LabPlan}
use Rattle.lab_plan.specs.Tables.{AreTablesOf}
use Rattle.lab_plan.specs.Longer.{session_of, with_one_more, more_refusal}
use Rattle.lab_plan.proofs.OneMore.{chosen, left, inside, few, numbered, whole_more, may_take_back, whole_back}
use Rattle.lab_plan.proofs.plan.Plan.push_session.Goals as goal

pub of-needs-requires : goal.of-needs-requires
of-needs-requires g c =
    let p = c.self.inside.draft in
    let session = session_of c.args.patience c.args.commands.now in
    let there : c.args.job < length p.jobs = subst (λ (x : LabPlan). c.args.job < length x.jobs) (sym c.self.view_is) c.requires.job in
    let none : more_refusal p c.args.job session ≡ None = ap (λ (x : LabPlan). more_refusal x c.args.job session) c.self.view_is ∙ c.requires.granted in
    numbered p c.args.job session c.self.inside.tables there c.self.invariant none

pub add_session-requires-clause-numbered : goal.add_session-requires-clause-numbered
add_session-requires-clause-numbered g c =
    let p = c.self.inside.draft in
    let session = session_of c.args.patience c.args.commands.now in
    let there : c.args.job < length p.jobs = subst (λ (x : LabPlan). c.args.job < length x.jobs) (sym c.self.view_is) c.requires.job in
    let none : more_refusal p c.args.job session ≡ None = ap (λ (x : LabPlan). more_refusal x c.args.job session) c.self.view_is ∙ c.requires.granted in
    numbered p c.args.job session c.self.inside.tables there c.self.invariant none

pub add_session-requires-clause-job : goal.add_session-requires-clause-job
add_session-requires-clause-job g c =
    let p = c.self.inside.draft in
    let session = session_of c.args.patience c.args.commands.now in
    let there : c.args.job < length p.jobs = subst (λ (x : LabPlan). c.args.job < length x.jobs) (sym c.self.view_is) c.requires.job in
    let none : more_refusal p c.args.job session ≡ None = ap (λ (x : LabPlan). more_refusal x c.args.job session) c.self.view_is ∙ c.requires.granted in
    inside p c.args.job session c.self.inside.tables there c.self.invariant none

pub add_session-requires-clause-few : goal.add_session-requires-clause-few
add_session-requires-clause-few g c =
    let p = c.self.inside.draft in
    let session = session_of c.args.patience c.args.commands.now in
    let there : c.args.job < length p.jobs = subst (λ (x : LabPlan). c.args.job < length x.jobs) (sym c.self.view_is) c.requires.job in
    let none : more_refusal p c.args.job session ≡ None = ap (λ (x : LabPlan). more_refusal x c.args.job session) c.self.view_is ∙ c.requires.granted in
    few p c.args.job session c.self.inside.tables there c.self.invariant none

pub invariant_of-self : goal.invariant_of-self
invariant_of-self g c = record {
  is_plan = c.self.invariant.is_plan;
  tables_are = subst (AreTablesOf c.self.inside.draft) (sym c.in_err-add_session.ensures) c.self.invariant.tables_are;
}

pub take_back_session-requires-clause-commands : goal.take_back_session-requires-clause-commands
take_back_session-requires-clause-commands g c =
    let p = c.self.inside.draft in
    let session = session_of c.args.patience c.args.commands.now in
    let there : c.args.job < length p.jobs = subst (λ (x : LabPlan). c.args.job < length x.jobs) (sym c.self.view_is) c.requires.job in
    let none : more_refusal p c.args.job session ≡ None = ap (λ (x : LabPlan). more_refusal x c.args.job session) c.self.view_is ∙ c.requires.granted in
    may_take_back p c.args.job session c.self.inside.tables there c.self.invariant none c.of-needs.result c.add_session.new.self c.in_ok-add_session.ensures

pub invariant_of-self-then-is_err : goal.invariant_of-self-then-is_err
invariant_of-self-then-is_err g c =
    let p = c.self.inside.draft in
    let session = session_of c.args.patience c.args.commands.now in
    let there : c.args.job < length p.jobs = subst (λ (x : LabPlan). c.args.job < length x.jobs) (sym c.self.view_is) c.requires.job in
    let none : more_refusal p c.args.job session ≡ None = ap (λ (x : LabPlan). more_refusal x c.args.job session) c.self.view_is ∙ c.requires.granted in
    let kept : c.add_session-added.new.self ≡ p =
    left (is_ok c.add_session-added.result) (with_one_more p c.args.job session) p c.add_session-added.new.self c.add_session-added.ensures
    (c.is_err.ensures.negation ∙ ap not c.if-is_err.true) in
    whole_back p c.args.job session c.self.inside.tables there c.self.invariant none c.of-needs.result c.add_session-added.new.self
    c.add_session.new.self c.take_back_session.new.self kept c.in_ok-add_session.ensures c.take_back_session.ensures

pub invariant_of-self-else-is_err : goal.invariant_of-self-else-is_err
invariant_of-self-else-is_err g c =
    let p = c.self.inside.draft in
    let session = session_of c.args.patience c.args.commands.now in
    let there : c.args.job < length p.jobs = subst (λ (x : LabPlan). c.args.job < length x.jobs) (sym c.self.view_is) c.requires.job in
    let none : more_refusal p c.args.job session ≡ None = ap (λ (x : LabPlan). more_refusal x c.args.job session) c.self.view_is ∙ c.requires.granted in
    let added : c.add_session-added.new.self ≡ with_one_more p c.args.job session =
    chosen (is_ok c.add_session-added.result) (with_one_more p c.args.job session) p c.add_session-added.new.self c.add_session-added.ensures
    (search rules) in
    whole_more p c.args.job session c.self.inside.tables there c.self.invariant none c.of-needs.result c.of-needs.ensures c.add_session-added.new.self
    c.add_session.new.self added c.in_ok-add_session.ensures
