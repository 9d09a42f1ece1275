use Rattle.std.proofs.Common.{ℕ, ◌≡◌, ◌+◌, ◌<◌, ◌≤◌, List, length, arith, ap, ◌∙◌}
use Rattle.std.specs.List.{flat_map, range_with_len}
use Rattle.report.proofs.Prefixes.{all_numbers, appends_same, each_goes, each_stops, number_at, number_inside, writes_err}
use Rattle.picture.specs.Picture.{log_at}
use Rattle.picture.proofs.lines.write_logs.Goals as goal

pub returns-in_err-write_log : goal.returns-in_err-write_log
returns-in_err-write_log g c =
    let text : ℕ → List ℕ = log_at c.args.report.now c.args.timeline.now in
    let n = length c.args.report.now.logs in
    let k = c.loop-number.number in
    let same : length c.logs-number-end.result.now ≡ n = ap length c.logs-number-end.ensures in
    let below : k < n = omega arith in
    writes_err _ _ _ _ _ _ c.from_residual.ensures.0
    (each_stops text (range_with_len 0 n) k 0 k _ _ _ (number_inside n k below) (number_at n k below) c.loop-number.invariant.0 c.in_err-write_log.ensures.0)
    (c.in_err-write_log.ensures.1 ∙ ap (λ m. m + 1) c.loop-number.invariant.1)

pub loop-number-preserved : goal.loop-number-preserved
loop-number-preserved g c =
    let text : ℕ → List ℕ = log_at c.args.report.now c.args.timeline.now in
    let n = length c.args.report.now.logs in
    let k = c.loop-number.number in
    let same : length c.logs-number-end.result.now ≡ n = ap length c.logs-number-end.ensures in
    let below : k < n = omega arith in (
      each_goes text (range_with_len 0 n) k 0 k _ _ _ (number_inside n k below) (number_at n k below) c.loop-number.invariant.0 c.in_ok-write_log.ensures.0,
      c.in_ok-write_log.ensures.1 ∙ c.loop-number.invariant.1,
    )

pub returns : goal.returns
returns g c =
    let text : ℕ → List ℕ = log_at c.args.report.now c.args.timeline.now in
    let n = length c.args.report.now.logs in
    let same : length c.logs-number-end.result.now ≡ n = ap length c.logs-number-end.ensures in
    let past : n ≤ c.loop-number.number = omega arith in
    (appends_same _ _ _ _ (ap (flat_map text) (all_numbers n c.loop-number.number past)) c.loop-number.invariant.0, c.loop-number.invariant.1)
