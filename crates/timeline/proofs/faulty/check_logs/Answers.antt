use Rattle.std.proofs.Common.{subst}
use Rattle.timeline.specs.Clean.{AllClean}
use Rattle.timeline.specs.Faults.{HasFault}
use Rattle.timeline.proofs.faulty.check_logs.Goals as goal

pub returns-in-None-clause-clean : goal.returns-in-None-clause-clean
returns-in-None-clause-clean g c =
    let report = c.args.report.now in
    let clean = subst (λ j. AllClean j c.logs.result.now) c.jobs.ensures (c.entry_fault.ensures.none c.in-None.is) in
    subst (λ l. AllClean report.jobs l) c.logs.ensures clean

pub returns-in-Some-clause-fault : goal.returns-in-Some-clause-fault
returns-in-Some-clause-fault g c =
    let report = c.args.report.now in
    let f = c.in-Some.found in
    let fails = subst (λ j. HasFault j c.logs.result.now f.0 f.1 f.2) c.jobs.ensures c.in-Some.ensures.some in
    subst (λ l. HasFault report.jobs l f.0 f.1 f.2) c.logs.ensures fails
