use Rattle.std.proofs.Common.{ℕ, ◌+◌, ◌<◌, map, length, slice_index_or, arith, refl, sym, subst}
use Rattle.std.specs.Prelude.{IfSome}
use Rattle.std.proofs.lemmas.List.{length-map}
use Rattle.std.proofs.lemmas.Option.{slice_get_read, get_or_from_slice_get}
use borrow.Author.Count.{below_more}
use Rattle.report_reader.specs.Report.{LogText}
use Rattle.report_reader.specs.Form.{entry_text, job_text}
use Rattle.timeline.specs.declared.fault.EntryCause.{EntryCause}
use Rattle.timeline.specs.Clean.{IsClean}
use Rattle.timeline.specs.Faults.{FailsAt}
use Rattle.timeline.proofs.Failing.{some_none}
use Rattle.timeline.proofs.FaultAt.{fault_at, fails_within}
use Rattle.timeline.proofs.faulty.entry_fault.Goals as goal

pub overflow_add-entry : goal.overflow_add-entry
overflow_add-entry g c =
    let jobs = map job_text c.args.jobs.now in
    let entries = map entry_text c.entries.result.now in
    let found = subst (λ o. IfSome o (λ (p : ℕ × EntryCause). FailsAt jobs entries p.0 p.1)) c.in-Some.is c.log_fault.ensures.some in
    omega (arith, fails_within jobs entries c.in-Some.place c.in-Some.cause found, length-map c.entries.result.now entry_text)

pub returns-in-Some-clause-some : goal.returns-in-Some-clause-some
returns-in-Some-clause-some g c =
    let jobs = map job_text c.args.jobs.now in
    let logs = c.args.logs.now in
    let n = c.loop-number.number in
    let log = c.index-logs-number.result in
    let entries = map entry_text c.entries.result.now in
    let found = subst (λ o. IfSome o (λ (p : ℕ × EntryCause). FailsAt jobs entries p.0 p.1)) c.in-Some.is c.log_fault.ensures.some in
    fault_at jobs logs n log c.in-Some.place c.in-Some.cause
    (slice_get_read logs (length logs) n log refl c.loop-number-test.true c.index-logs-number.is)
    (subst (λ e. FailsAt jobs e c.in-Some.place c.in-Some.cause) c.entries.ensures found)

pub returns-in-Some-clause-none : goal.returns-in-Some-clause-none
returns-in-Some-clause-none g c = λ is. some_none _ is

pub returns-clause-none : goal.returns-clause-none
returns-clause-none g c = λ _ k d below. c.loop-number.invariant k d (omega (arith, below, c.loop-number-test.false))

pub loop-number-preserved : goal.loop-number-preserved
loop-number-preserved g c =
    let jobs = map job_text c.args.jobs.now in
    let logs = c.args.logs.now in
    let n = c.loop-number.number in
    let log = c.index-logs-number.result in
    let clean : IsClean jobs log.entries = subst (IsClean jobs) c.entries.ensures (c.log_fault.ensures.none c.in_default.is) in
    let P : ℕ → Type 0 = λ k. (d : LogText) → IsClean jobs (slice_index_or logs k d).entries in
    let here : P n = λ d. subst (λ (l : LogText). IsClean jobs l.entries) (sym (get_or_from_slice_get logs n log d (slice_get_read logs
    (length logs) n log refl c.loop-number-test.true c.index-logs-number.is))) clean in
    let more : (k : ℕ) → k < n + 1 → P k = below_more P n (λ k below d. c.loop-number.invariant k d below) here in
    λ k d below. more k below d
