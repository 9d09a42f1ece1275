use Rattle.std.proofs.Common.{◌+◌, ◌<◌, ◌≤◌, length, arith, ap, ◌∙◌}
use Rattle.std.specs.List.{flat_map, range_with_len}
use Rattle.report.specs.Report.{tally_text}
use Rattle.report.proofs.Prefixes.{all_numbers, appends_same, each_goes, each_stops, number_at, number_inside, writes_err}
use Rattle.report.proofs.shown.write_tallies.Goals as goal

pub returns-in_err-write_tally : goal.returns-in_err-write_tally
returns-in_err-write_tally g c =
    let plan = g.R.Showing.plan c.args.run.now in
    let n = length plan.jobs in
    let i = c.loop-job.job in
    let below : i < n = omega (arith, ap (λ p. length p.jobs) c.plan.ensures) in
    writes_err _ _ _ _ _ _ c.from_residual.ensures.0
    (each_stops (tally_text plan (g.R.Showing.shown c.args.run.now)) (range_with_len 0 n) i 0 i _ _ _ (number_inside n i below)
    (number_at n i below) c.loop-job.invariant.0 c.in_err-write_tally.ensures.0)
    (c.in_err-write_tally.ensures.1 ∙ ap (λ k. k + 1) c.loop-job.invariant.1)

pub loop-job-preserved : goal.loop-job-preserved
loop-job-preserved g c =
    let plan = g.R.Showing.plan c.args.run.now in
    let n = length plan.jobs in
    let i = c.loop-job.job in
    let below : i < n = omega (arith, ap (λ p. length p.jobs) c.plan.ensures) in (
      each_goes (tally_text plan (g.R.Showing.shown c.args.run.now)) (range_with_len 0 n) i 0 i _ _ _ (number_inside n i below)
          (number_at n i below) c.loop-job.invariant.0 c.in_ok-write_tally.ensures.0,
      c.in_ok-write_tally.ensures.1 ∙ c.loop-job.invariant.1,
    )

pub returns : goal.returns
returns g c =
    let plan = g.R.Showing.plan c.args.run.now in
    let n = length plan.jobs in
    let past : n ≤ c.loop-job.job = omega (arith, ap (λ p. length p.jobs) c.plan.ensures) in (
      appends_same _ _ _ _ (ap (flat_map (tally_text plan (g.R.Showing.shown c.args.run.now))) (all_numbers n c.loop-job.job past)) c.loop-job.invariant.0,
      c.loop-job.invariant.1,
    )
