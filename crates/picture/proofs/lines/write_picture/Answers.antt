use Rattle.std.proofs.Common.{◌≡◌, ◌+◌, ◌++◌, length, sym, ap, ◌∙◌}
use Rattle.std.specs.List.{flat_map, range_with_len}
use Rattle.std.proofs.lemmas.List.{length-map}
use Rattle.std.proofs.KnownBytes.{Appends-trans}
use Rattle.report_reader.specs.Form.{job_text}
use Rattle.report.proofs.Prefixes.{in_first, in_second, appends_same, prefix_same, writes_same, writes_err, writes_after}
use Rattle.picture.specs.Tables.{head_text, end_text}
use Rattle.picture.specs.Picture.{log_at, job_at, picture_of}
use Rattle.picture.proofs.lines.write_picture.Goals as goal

pub returns-in_err-offer : goal.returns-in_err-offer
unfolding picture_of
returns-in_err-offer g c =
    let report = c.args.report.now in
    let view = c.args.timeline.now in
    let instruments = length report.logs in
    let jobs = length report.jobs in
    let logs_are : length c.logs-instruments.result.now ≡ instruments = ap length c.logs-instruments.ensures in
    let jobs_are : length c.jobs-jobs.result.now ≡ jobs = sym (length-map c.jobs-jobs.result.now job_text) ∙ ap length c.jobs-jobs.ensures in
    let first = head_text instruments jobs view.columns in
    let rows = flat_map (log_at report view) (range_with_len 0 instruments) in
    let table = flat_map (job_at report) (range_with_len 0 jobs) in
    let last = end_text instruments jobs report.is_finished in
    let head : c.as_bytes.result.now ≡ first =
    c.as_bytes.ensures ∙ c.head_line-head.ensures ∙ ap (λ n. head_text n (length c.jobs-jobs.result.now) c.columns.result) logs_are
    ∙ ap (λ n. head_text instruments n c.columns.result) jobs_are
    ∙ ap (λ k. head_text instruments jobs k) c.columns.ensures in
    writes_err _ _ _ _ _ _ c.from_residual.ensures.0
    (in_first _ _ (first ++ rows ++ table) last (in_first _ _ (first ++ rows) table (in_first _ _ first rows
    (prefix_same _ _ _ _ head c.in_err-offer.ensures.0)))) c.in_err-offer.ensures.1

pub returns-in_err-write_logs : goal.returns-in_err-write_logs
unfolding picture_of
returns-in_err-write_logs g c =
    let report = c.args.report.now in
    let view = c.args.timeline.now in
    let instruments = length report.logs in
    let jobs = length report.jobs in
    let logs_are : length c.logs-instruments.result.now ≡ instruments = ap length c.logs-instruments.ensures in
    let jobs_are : length c.jobs-jobs.result.now ≡ jobs = sym (length-map c.jobs-jobs.result.now job_text) ∙ ap length c.jobs-jobs.ensures in
    let first = head_text instruments jobs view.columns in
    let rows = flat_map (log_at report view) (range_with_len 0 instruments) in
    let table = flat_map (job_at report) (range_with_len 0 jobs) in
    let last = end_text instruments jobs report.is_finished in
    let head : c.as_bytes.result.now ≡ first =
    c.as_bytes.ensures ∙ c.head_line-head.ensures ∙ ap (λ n. head_text n (length c.jobs-jobs.result.now) c.columns.result) logs_are
    ∙ ap (λ n. head_text instruments n c.columns.result) jobs_are
    ∙ ap (λ k. head_text instruments jobs k) c.columns.ensures in
    writes_err _ _ _ _ _ _ c.from_residual-in_err-write_logs.ensures.0
    (in_first _ _ (first ++ rows ++ table) last (in_first _ _ (first ++ rows) table (in_second _ _ _ first rows
    (appends_same _ _ _ _ head c.in_ok-offer.ensures.0) c.in_err-write_logs.ensures.0)))
    (c.in_err-write_logs.ensures.1 ∙ ap (λ n. n + 1) c.in_ok-offer.ensures.1)

pub returns-in_err-write_jobs : goal.returns-in_err-write_jobs
unfolding picture_of
returns-in_err-write_jobs g c =
    let report = c.args.report.now in
    let view = c.args.timeline.now in
    let instruments = length report.logs in
    let jobs = length report.jobs in
    let logs_are : length c.logs-instruments.result.now ≡ instruments = ap length c.logs-instruments.ensures in
    let jobs_are : length c.jobs-jobs.result.now ≡ jobs = sym (length-map c.jobs-jobs.result.now job_text) ∙ ap length c.jobs-jobs.ensures in
    let first = head_text instruments jobs view.columns in
    let rows = flat_map (log_at report view) (range_with_len 0 instruments) in
    let table = flat_map (job_at report) (range_with_len 0 jobs) in
    let last = end_text instruments jobs report.is_finished in
    let head : c.as_bytes.result.now ≡ first =
    c.as_bytes.ensures ∙ c.head_line-head.ensures ∙ ap (λ n. head_text n (length c.jobs-jobs.result.now) c.columns.result) logs_are
    ∙ ap (λ n. head_text instruments n c.columns.result) jobs_are
    ∙ ap (λ k. head_text instruments jobs k) c.columns.ensures in
    writes_err _ _ _ _ _ _ c.from_residual-in_err-write_jobs.ensures.0
    (in_first _ _ (first ++ rows ++ table) last (in_second _ _ _ (first ++ rows) table
    (Appends-trans _ _ _ first rows (appends_same _ _ _ _ head c.in_ok-offer.ensures.0) c.in_ok-write_logs.ensures.0) c.in_err-write_jobs.ensures.0))
    (c.in_err-write_jobs.ensures.1 ∙ ap (λ n. n + 1) (c.in_ok-write_logs.ensures.1 ∙ c.in_ok-offer.ensures.1))

pub returns : goal.returns
unfolding picture_of
returns g c =
    let report = c.args.report.now in
    let view = c.args.timeline.now in
    let instruments = length report.logs in
    let jobs = length report.jobs in
    let logs_are : length c.logs-instruments.result.now ≡ instruments = ap length c.logs-instruments.ensures in
    let jobs_are : length c.jobs-jobs.result.now ≡ jobs = sym (length-map c.jobs-jobs.result.now job_text) ∙ ap length c.jobs-jobs.ensures in
    let first = head_text instruments jobs view.columns in
    let rows = flat_map (log_at report view) (range_with_len 0 instruments) in
    let table = flat_map (job_at report) (range_with_len 0 jobs) in
    let last = end_text instruments jobs report.is_finished in
    let head : c.as_bytes.result.now ≡ first =
    c.as_bytes.ensures ∙ c.head_line-head.ensures ∙ ap (λ n. head_text n (length c.jobs-jobs.result.now) c.columns.result) logs_are
    ∙ ap (λ n. head_text instruments n c.columns.result) jobs_are
    ∙ ap (λ k. head_text instruments jobs k) c.columns.ensures in
    let end : c.as_bytes-2.result.now ≡ last =
    c.as_bytes-2.ensures ∙ c.end_line-end.ensures ∙ ap (λ n. end_text n (length c.jobs-jobs.result.now) c.is_finished.result) logs_are
    ∙ ap (λ n. end_text instruments n c.is_finished.result) jobs_are
    ∙ ap (λ b. end_text instruments jobs b) c.is_finished.ensures in
    writes_after _ _ _ _ _ _ (first ++ rows ++ table) last _
    (Appends-trans _ _ _ (first ++ rows) table
    (Appends-trans _ _ _ first rows (appends_same _ _ _ _ head c.in_ok-offer.ensures.0) c.in_ok-write_logs.ensures.0) c.in_ok-write_jobs.ensures.0)
    (c.in_ok-write_jobs.ensures.1 ∙ c.in_ok-write_logs.ensures.1 ∙ c.in_ok-offer.ensures.1)
    (writes_same _ _ _ _ _ _ _ end c.offer-2.ensures)
