use Rattle.std.proofs.Common.{subst}
use Rattle.live_lab.specs.Labs.{LabView}
use Rattle.live_lab.specs.Prints.{HasReport}
use Rattle.live_lab.proofs.Reported.{has_report}
use Rattle.live_lab.proofs.lab.Lab.print.Goals as goal

pub invariant_of-result : goal.invariant_of-result
invariant_of-result c =
    let x = c.self.inside in
    record {
      reported = ∣ (
        x.world.plan,
        has_report c.report_of_events.ensures c.holds_of_every_run.ensures x.world x.clocks.items c.plan.ensures.past
            c.self.invariant.0 c.in-Some.text.items c.in-Some.outcome c.in-Some.ensures,
      ) ∣₁;
    }

pub returns-in-Some-clause-holds : goal.returns-in-Some-clause-holds
returns-in-Some-clause-holds c =
    let x = c.self.inside in
    subst (λ (v : LabView). HasReport v.world.plan c.in-Some.text.items c.in-Some.outcome) c.self.view_is
    (has_report c.report_of_events.ensures c.holds_of_every_run.ensures x.world x.clocks.items c.plan.ensures.past
    c.self.invariant.0 c.in-Some.text.items c.in-Some.outcome c.in-Some.ensures)
