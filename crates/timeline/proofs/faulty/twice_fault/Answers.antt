use Rattle.std.proofs.Common.{map, length, arith, refl, subst}
use Rattle.std.specs.Prelude.{IfSome}
use Rattle.std.proofs.lemmas.List.{length-map}
use Rattle.std.proofs.lemmas.Option.{slice_get_read, slice_get_within}
use Rattle.report_reader.specs.Form.{entry_text, job_text}
use Rattle.timeline.specs.declared.fault.EntryCause.TheVariants as causes
use Rattle.timeline.specs.Faults.{IsTwice}
use Rattle.timeline.proofs.FaultAt.{fault_at}
use Rattle.timeline.proofs.faulty.twice_fault.Goals as goal

pub overflow_add-entry : goal.overflow_add-entry
overflow_add-entry g c =
    let entries = map entry_text c.entries.result.now in
    let found = subst (λ o. IfSome o (λ place. IsTwice entries place)) c.in-Some.is c.in_ok-place.ensures in
    omega (arith, slice_get_within entries c.in-Some.place found.entry found.stands, length-map c.entries.result.now entry_text)

pub returns-in-Some : goal.returns-in-Some
returns-in-Some g c =
    let logs = c.args.logs.now in
    let n = c.loop-number.number in
    let log = c.index-logs-number.result in
    let found = subst (λ o. IfSome o (λ place. IsTwice (map entry_text c.entries.result.now) place)) c.in-Some.is c.in_ok-place.ensures in
    fault_at (map job_text c.args.jobs.now) logs n log c.in-Some.place causes.SessionTwice
    (slice_get_read logs (length logs) n log refl c.loop-number-test.true c.index-logs-number.is) (subst (λ e. IsTwice e c.in-Some.place) c.entries.ensures found)
