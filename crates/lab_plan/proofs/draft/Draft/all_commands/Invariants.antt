use Rattle.std.proofs.Common.{◌≡◌, take}
use Rattle.lab_plan.proofs.Counted.{counted}
use Rattle.lab_plan.proofs.draft.Draft.all_commands.Given as goal

abbrev pub invariant-loop-job : goal.invariant-loop-job
invariant-loop-job g l = l.count ≡ counted (take l.job-index l.self.jobs)
