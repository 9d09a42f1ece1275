use Rattle.std.proofs.Common.{◌+◌, ◌<◌, ◌≤◌, length, arith, ap, ◌∙◌}
use Rattle.std.specs.List.{flat_map, range_with_len}
use Rattle.report.specs.Report.{log_text}
use Rattle.report.proofs.Prefixes.{all_numbers, appends_same, each_goes, each_stops, number_at, number_inside, writes_err}
use Rattle.report.proofs.shown.write_logs.Goals as goal

pub returns-in_err-write_log : goal.returns-in_err-write_log
returns-in_err-write_log g c =
    let plan = g.R.Showing.plan c.args.run.now in
    let n = length plan.instruments in
    let i = c.loop-instrument.instrument in
    let below : i < n = omega (arith, ap (λ p. length p.instruments) c.plan.ensures) in
    writes_err _ _ _ _ _ _ c.from_residual.ensures.0
    (each_stops (log_text plan (g.R.Showing.shown c.args.run.now)) (range_with_len 0 n) i 0 i _ _ _ (number_inside n i below)
    (number_at n i below) c.loop-instrument.invariant.0 c.in_err-write_log.ensures.0)
    (c.in_err-write_log.ensures.1 ∙ ap (λ k. k + 1) c.loop-instrument.invariant.1)

pub loop-instrument-preserved : goal.loop-instrument-preserved
loop-instrument-preserved g c =
    let plan = g.R.Showing.plan c.args.run.now in
    let n = length plan.instruments in
    let i = c.loop-instrument.instrument in
    let below : i < n = omega (arith, ap (λ p. length p.instruments) c.plan.ensures) in (
      each_goes (log_text plan (g.R.Showing.shown c.args.run.now)) (range_with_len 0 n) i 0 i _ _ _ (number_inside n i below)
          (number_at n i below) c.loop-instrument.invariant.0 c.in_ok-write_log.ensures.0,
      c.in_ok-write_log.ensures.1 ∙ c.loop-instrument.invariant.1,
    )

pub returns : goal.returns
returns g c =
    let plan = g.R.Showing.plan c.args.run.now in
    let n = length plan.instruments in
    let past : n ≤ c.loop-instrument.instrument = omega (arith, ap (λ p. length p.instruments) c.plan.ensures) in (
      appends_same _ _ _ _ (ap (flat_map (log_text plan (g.R.Showing.shown c.args.run.now))) (all_numbers n c.loop-instrument.instrument past))
          c.loop-instrument.invariant.0,
      c.loop-instrument.invariant.1,
    )
