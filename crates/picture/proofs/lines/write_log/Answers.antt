use Rattle.std.proofs.Common.{◌≡◌, ◌+◌, ◌<◌, ◌++◌, length, map, codes, arith, ap, ◌∙◌}
use Rattle.std.proofs.KnownBytes.{Appends-trans}
use Rattle.report_reader.specs.Form.{entry_text, job_text}
use Rattle.report.proofs.Prefixes.{in_first, in_second, appends_same, prefix_same, writes_same, writes_err, writes_after}
use Rattle.picture.specs.Tables.{row_text}
use Rattle.picture.specs.Picture.{entries_text, log_at}
use Rattle.picture.proofs.Places.{the_log, row_whole}
use Rattle.picture.proofs.lines.write_log.Goals as goal

pub returns-in_err-offer : goal.returns-in_err-offer
returns-in_err-offer g c =
    let report = c.args.report.now in
    let view = c.args.timeline.now in
    let i = c.args.number in
    let log = c.index-logs-number.result in
    let inside : i < length c.logs.result.now = omega (arith, ap length c.logs.ensures) in
    let row = row_text i log.name view.columns in
    let entries = entries_text report.jobs view.columns view.spans log.entries in
    let whole : row ++ entries ++ codes "</g>\n" ≡ log_at report view i =
    row_whole report view i log (the_log c.logs.result.now report.logs i log c.logs.ensures inside c.index-logs-number.is) in
    let head : c.as_bytes.result.now ≡ row = c.as_bytes.ensures ∙ c.row_line-head.ensures ∙ ap (λ n. row_text i n c.columns-columns.result) c.name.ensures
    ∙ ap (λ k. row_text i log.name k) c.columns-columns.ensures in
    writes_err _ _ _ _ _ _ c.from_residual.ensures.0
    (prefix_same _ _ _ _ whole (in_first _ _ (row ++ entries) (codes "</g>\n") (in_first _ _ row entries
    (prefix_same _ _ _ _ head c.in_err-offer.ensures.0)))) c.in_err-offer.ensures.1

pub returns-in_err-write_entries : goal.returns-in_err-write_entries
returns-in_err-write_entries g c =
    let report = c.args.report.now in
    let view = c.args.timeline.now in
    let i = c.args.number in
    let log = c.index-logs-number.result in
    let inside : i < length c.logs.result.now = omega (arith, ap length c.logs.ensures) in
    let row = row_text i log.name view.columns in
    let entries = entries_text report.jobs view.columns view.spans log.entries in
    let whole : row ++ entries ++ codes "</g>\n" ≡ log_at report view i =
    row_whole report view i log (the_log c.logs.result.now report.logs i log c.logs.ensures inside c.index-logs-number.is) in
    let head : c.as_bytes.result.now ≡ row = c.as_bytes.ensures ∙ c.row_line-head.ensures ∙ ap (λ n. row_text i n c.columns-columns.result) c.name.ensures
    ∙ ap (λ k. row_text i log.name k) c.columns-columns.ensures in
    let jobs = ap (λ j. entries_text j c.columns-columns.result c.spans.result.now (map entry_text c.entries.result.now)) c.jobs.ensures in
    let columns = ap (λ n. entries_text report.jobs n c.spans.result.now (map entry_text c.entries.result.now)) c.columns-columns.ensures in
    let spans = ap (λ s. entries_text report.jobs view.columns s (map entry_text c.entries.result.now)) c.spans.ensures in
    let drawn : entries_text (map job_text c.jobs.result.now) c.columns-columns.result c.spans.result.now (map entry_text c.entries.result.now) ≡ entries =
    jobs ∙ columns ∙ spans ∙ ap (λ e. entries_text report.jobs view.columns view.spans e) c.entries.ensures in
    writes_err _ _ _ _ _ _ c.from_residual-in_err-write_entries.ensures.0
    (prefix_same _ _ _ _ whole (in_first _ _ (row ++ entries) (codes "</g>\n")
    (in_second _ _ _ row entries (appends_same _ _ _ _ head c.in_ok-offer.ensures.0) (prefix_same _ _ _ _ drawn c.in_err-write_entries.ensures.0))))
    (c.in_err-write_entries.ensures.1 ∙ ap (λ n. n + 1) c.in_ok-offer.ensures.1)

pub returns : goal.returns
returns g c =
    let report = c.args.report.now in
    let view = c.args.timeline.now in
    let i = c.args.number in
    let log = c.index-logs-number.result in
    let inside : i < length c.logs.result.now = omega (arith, ap length c.logs.ensures) in
    let row = row_text i log.name view.columns in
    let entries = entries_text report.jobs view.columns view.spans log.entries in
    let whole : row ++ entries ++ codes "</g>\n" ≡ log_at report view i =
    row_whole report view i log (the_log c.logs.result.now report.logs i log c.logs.ensures inside c.index-logs-number.is) in
    let head : c.as_bytes.result.now ≡ row = c.as_bytes.ensures ∙ c.row_line-head.ensures ∙ ap (λ n. row_text i n c.columns-columns.result) c.name.ensures
    ∙ ap (λ k. row_text i log.name k) c.columns-columns.ensures in
    let jobs = ap (λ j. entries_text j c.columns-columns.result c.spans.result.now (map entry_text c.entries.result.now)) c.jobs.ensures in
    let columns = ap (λ n. entries_text report.jobs n c.spans.result.now (map entry_text c.entries.result.now)) c.columns-columns.ensures in
    let spans = ap (λ s. entries_text report.jobs view.columns s (map entry_text c.entries.result.now)) c.spans.ensures in
    let drawn : entries_text (map job_text c.jobs.result.now) c.columns-columns.result c.spans.result.now (map entry_text c.entries.result.now) ≡ entries =
    jobs ∙ columns ∙ spans ∙ ap (λ e. entries_text report.jobs view.columns view.spans e) c.entries.ensures in
    writes_same _ _ _ _ _ _ _ whole
    (writes_after _ _ _ _ _ _ (row ++ entries) (codes "</g>\n") _
    (Appends-trans _ _ _ row entries (appends_same _ _ _ _ head c.in_ok-offer.ensures.0) (appends_same _ _ _ _ drawn c.in_ok-write_entries.ensures.0))
    (c.in_ok-write_entries.ensures.1 ∙ c.in_ok-offer.ensures.1) c.offer-2.ensures)
