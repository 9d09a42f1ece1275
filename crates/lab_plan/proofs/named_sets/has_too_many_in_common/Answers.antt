use Rattle.std.proofs.Common.{ℕ, length, arith, ap, ◌∙◌}
use Rattle.std.specs.List.{list_any}
use Rattle.lab_plan.specs.NamedBy.{are_crowded, rows}
use Rattle.lab_plan.proofs.Crowded.{crowded_is}
use Rattle.lab_plan.proofs.Small.{small}
use Rattle.lab_plan.proofs.named_sets.has_too_many_in_common.Goals as goal

pub new-requires-clause-few : goal.new-requires-clause-few
new-requires-clause-few g c = c.requires.few_jobs

pub new-requires-clause-small : goal.new-requires-clause-small
new-requires-clause-small g c = small c.args.draft.now c.requires

pub new-requires-clause-few_instruments : goal.new-requires-clause-few_instruments
new-requires-clause-few_instruments g c = c.requires.few_instruments

pub has_crowded-requires-clause-jobs : goal.has_crowded-requires-clause-jobs
has_crowded-requires-clause-jobs g c = omega (arith, c.new.ensures.jobs, c.requires.few_jobs)

pub has_crowded-requires-clause-instruments : goal.has_crowded-requires-clause-instruments
has_crowded-requires-clause-instruments g c = omega (arith, c.new.ensures.instruments, c.requires.few_instruments)

pub returns : goal.returns
returns g c =
    let plan = c.args.draft.now in
    let naming = c.new.result in
    let told = c.new.ensures in
    c.has_crowded.ensures
    ∙ ap (λ (n : ℕ). list_any (are_crowded naming.sets n) (rows naming.jobs naming.jobs)) told.instruments
    ∙ ap (λ (n : ℕ). list_any (are_crowded naming.sets (length plan.instruments)) (rows n n)) told.jobs
    ∙ crowded_is plan naming.sets told.naming
