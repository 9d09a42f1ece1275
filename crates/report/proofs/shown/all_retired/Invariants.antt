-- the jobs so far are retired
use Rattle.std.proofs.Common.{◌≡◌, take, true}
use Rattle.std.specs.List.{list_all}
use Rattle.report.specs.Report.{is_retired, jobs}
use Rattle.report.proofs.shown.all_retired.Given as goal

abbrev pub invariant-loop-job : goal.invariant-loop-job
invariant-loop-job g l = list_all (λ j. is_retired ((g.R.Showing.shown l.run).drinking j)) (take l.job (jobs (g.R.Showing.plan l.run))) ≡ true
