use Rattle.std.proofs.Common.{◌≡◌, ◌<◌, ◌≤◌, ℕ, Bool, true, false, length, arith, rules, tests, sym, ap, ◌∙◌}
use Rattle.std.specs.List.{list_all}
use Rattle.report.specs.Report.{is_retired}
use Rattle.report.proofs.Prefixes.{all_numbers, all_so_far, one_fails}
use Rattle.report.proofs.shown.all_retired.Goals as goal

pub returns-then-not-tally : goal.returns-then-not-tally
returns-then-not-tally g c =
    let plan = g.R.Showing.plan c.args.run.now in
    let shown = g.R.Showing.shown c.args.run.now in
    let test : ℕ → Bool = λ j. is_retired (shown.drinking j) in
    let inside : c.loop-job.job < length plan.jobs = omega (arith, ap (λ p. length p.jobs) c.plan.ensures) in
    let waits : c.tally.result.is_retired ≡ false = search (rules, tests) in
    sym (one_fails test (length plan.jobs) c.loop-job.job inside (ap (λ t. t.is_retired) (sym c.tally.ensures) ∙ waits))

pub loop-job-preserved : goal.loop-job-preserved
loop-job-preserved g c =
    let plan = g.R.Showing.plan c.args.run.now in
    let shown = g.R.Showing.shown c.args.run.now in
    let test : ℕ → Bool = λ j. is_retired (shown.drinking j) in
    let inside : c.loop-job.job < length plan.jobs = omega (arith, ap (λ p. length p.jobs) c.plan.ensures) in
    let ends : c.tally.result.is_retired ≡ true = search (rules, tests) in
    all_so_far test (length plan.jobs) c.loop-job.job inside c.loop-job.invariant (ap (λ t. t.is_retired) (sym c.tally.ensures) ∙ ends)

pub returns : goal.returns
returns g c =
    let plan = g.R.Showing.plan c.args.run.now in
    let shown = g.R.Showing.shown c.args.run.now in
    let test : ℕ → Bool = λ j. is_retired (shown.drinking j) in
    let past : length plan.jobs ≤ c.loop-job.job = omega (arith, ap (λ p. length p.jobs) c.plan.ensures) in
    sym c.loop-job.invariant ∙ ap (list_all test) (all_numbers (length plan.jobs) c.loop-job.job past)
