-- the jobs so far did
use Rattle.bench_calls.specs.Openings.{GiveUpNext}
use Rattle.bench_calls.proofs.giving_up.give_up_first.Given as goal

abbrev pub invariant-loop-job : goal.invariant-loop-job
invariant-loop-job l = GiveUpNext l.jobs l.job-index l.fn.lab l.lab
