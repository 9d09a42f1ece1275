use Rattle.std.proofs.Common.{◌-◌, arith, ap, ◌∙◌}
use Rattle.lab_plan.specs.declared.place.Place.{Place}
use Rattle.lab_plan.specs.LabPlan.{LabPlan, sessions}
use Rattle.lab_plan.specs.Cuts.{commands_before}
use Rattle.lab_plan.proofs.Readers.{place_few, place_inside, place_is}
use Rattle.lab_plan.proofs.plan.Plan.place.Goals as goal

pub overflow_add-start : goal.overflow_add-start
overflow_add-start g c =
    let start = c.start.ensures ∙ ap (λ (p : LabPlan). commands_before (sessions p c.args.job) (c.args.session - 1)) c.self.view_is in
    let few = place_few c.args.self.now c.args.job c.args.session c.args.position c.start.result c.table.ensures.plan
    c.requires.is_job c.requires.begun c.requires.is_session c.requires.is_position start in
    omega (arith, few)

pub place-requires : goal.place-requires
place-requires g c =
    let start = c.start.ensures ∙ ap (λ (p : LabPlan). commands_before (sessions p c.args.job) (c.args.session - 1)) c.self.view_is in
    place_inside c.args.self.now c.args.job c.args.session c.args.position c.start.result c.table.result.now c.table.ensures.table
    c.requires.begun c.requires.is_session c.requires.is_position start

pub returns-clause-place : goal.returns-clause-place
returns-clause-place g c =
    let start = c.start.ensures ∙ ap (λ (p : LabPlan). commands_before (sessions p c.args.job) (c.args.session - 1)) c.self.view_is in
    ap (λ (p : Place). p.place) (c.place.ensures ∙ place_is c.args.self.now c.args.job c.args.session c.args.position c.start.result c.table.result.now
    c.table.ensures.table c.requires.begun c.requires.is_session c.requires.is_position start)

pub returns-clause-length : goal.returns-clause-length
returns-clause-length g c =
    let start = c.start.ensures ∙ ap (λ (p : LabPlan). commands_before (sessions p c.args.job) (c.args.session - 1)) c.self.view_is in
    ap (λ (p : Place). p.length) (c.place.ensures ∙ place_is c.args.self.now c.args.job c.args.session c.args.position c.start.result c.table.result.now
    c.table.ensures.table c.requires.begun c.requires.is_session c.requires.is_position start)
