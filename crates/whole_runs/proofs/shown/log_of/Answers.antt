use Rattle.std.proofs.Common.{◌<◌, length, sym, ◌∙◌, subst}
use Rattle.std.specs.List.{All}
use Rattle.legal_steps.specs.Opening.{the_opening}
use Rattle.legal_steps.proofs.OpeningChoices.{the_opening_opens}
use Rattle.report.proofs.OfPlan.{log_after_is_of_plan}
use Rattle.whole_runs.proofs.shown.log_of.Goals as goal

pub returns-clause-of_plan : goal.returns-clause-of_plan
returns-clause-of_plan g c =
    let plan = c.args.closed.now.plan in
    let logs = c.log.ensures.legal in
    subst (λ log. All (λ entry. entry.job < length plan.jobs) log.entries) (sym (c.log.ensures.log ∙ logs.logs c.args.instrument c.requires))
    (log_after_is_of_plan c.whole_logs.ensures plan (the_opening plan) logs.history logs.is_plan (the_opening_opens plan) logs.legal c.args.instrument)
