use Rattle.std.proofs.Common.{ℕ, ◌≡◌, ◌+◌, ◌<◌, ◌≤◌, List, length, arith, ap, sym, ◌∙◌}
use Rattle.std.specs.List.{flat_map, range_with_len}
use Rattle.std.proofs.lemmas.List.{length-map}
use Rattle.report_reader.specs.Form.{job_text}
use Rattle.report.proofs.Prefixes.{all_numbers, appends_same, each_goes, each_stops, number_at, number_inside, writes_err}
use Rattle.picture.specs.Picture.{job_at}
use Rattle.picture.proofs.lines.write_jobs.Goals as goal

pub returns-in_err-write_job : goal.returns-in_err-write_job
returns-in_err-write_job g c =
    let text : ℕ → List ℕ = job_at c.args.report.now in
    let n = length c.args.report.now.jobs in
    let k = c.loop-number.number in
    let same : length c.jobs-number-end.result.now ≡ n = sym (length-map c.jobs-number-end.result.now job_text) ∙ ap length c.jobs-number-end.ensures in
    let below : k < n = omega arith in
    writes_err _ _ _ _ _ _ c.from_residual.ensures.0
    (each_stops text (range_with_len 0 n) k 0 k _ _ _ (number_inside n k below) (number_at n k below) c.loop-number.invariant.0 c.in_err-write_job.ensures.0)
    (c.in_err-write_job.ensures.1 ∙ ap (λ m. m + 1) c.loop-number.invariant.1)

pub loop-number-preserved : goal.loop-number-preserved
loop-number-preserved g c =
    let text : ℕ → List ℕ = job_at c.args.report.now in
    let n = length c.args.report.now.jobs in
    let k = c.loop-number.number in
    let same : length c.jobs-number-end.result.now ≡ n = sym (length-map c.jobs-number-end.result.now job_text) ∙ ap length c.jobs-number-end.ensures in
    let below : k < n = omega arith in (
      each_goes text (range_with_len 0 n) k 0 k _ _ _ (number_inside n k below) (number_at n k below) c.loop-number.invariant.0 c.in_ok-write_job.ensures.0,
      c.in_ok-write_job.ensures.1 ∙ c.loop-number.invariant.1,
    )

pub returns : goal.returns
returns g c =
    let text : ℕ → List ℕ = job_at c.args.report.now in
    let n = length c.args.report.now.jobs in
    let same : length c.jobs-number-end.result.now ≡ n = sym (length-map c.jobs-number-end.result.now job_text) ∙ ap length c.jobs-number-end.ensures in
    let past : n ≤ c.loop-number.number = omega arith in
    (appends_same _ _ _ _ (ap (flat_map text) (all_numbers n c.loop-number.number past)) c.loop-number.invariant.0, c.loop-number.invariant.1)
