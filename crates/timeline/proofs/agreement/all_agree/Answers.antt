use Rattle.std.proofs.Common.{ℕ, ◌≡◌, ◌+◌, ◌<◌, true, map, length, slice_index_or, refl, sym, subst, rules, tests}
use Rattle.std.proofs.lemmas.Option.{slice_get_read, get_or_from_slice_get}
use borrow.Author.Count.{below_more}
use Rattle.std.specs.List.{All}
use Rattle.report_reader.specs.Report.{LogText}
use Rattle.report_reader.specs.Form.{job_text}
use Rattle.timeline.specs.Timelines.{TimelineView, Stands, Agrees, IsNextOf, EachNext}
use Rattle.timeline.proofs.agreement.all_agree.Goals as goal

pub loop-log-preserved : goal.loop-log-preserved
loop-log-preserved g c =
    let jobs = map job_text c.args.jobs.now in
    let view : TimelineView = record { spans = c.args.spans.now; columns = c.args.columns } in
    let logs = c.args.logs.now in
    let n = c.loop-log.log-index in
    let log = c.log-item.result in
    let stand : c.all_stand.result ≡ true = search (rules, tests) in
    let follow : c.all_follow.result ≡ true = search (rules, tests) in
    let agrees : Agrees jobs view log.entries = record {
      stands = subst (All (Stands jobs view)) c.entries-entries.ensures (c.all_stand.ensures stand);
      follows = subst (EachNext (IsNextOf jobs view.spans)) c.entries-entries.ensures (c.all_follow.ensures follow);
    } in
    let P : ℕ → Type 0 = λ k. (d : LogText) → Agrees jobs view (slice_index_or logs k d).entries in
    let here : P n = λ d. subst (λ (l : LogText). Agrees jobs view l.entries) (sym (get_or_from_slice_get logs n log d (slice_get_read logs
    (length logs) n log refl c.loop-log-test.true c.log-item.is))) agrees in
    let more : (k : ℕ) → k < n + 1 → P k = below_more P n (λ k below d. c.loop-log.invariant k d below) here in
    λ k d below. more k below d
