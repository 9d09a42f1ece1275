-- the jobs so far went out, and nothing failed
use Rattle.std.proofs.Common.{◌≡◌, take}
use Rattle.std.specs.List.{flat_map}
use Rattle.std.specs.Io.KnownBytes.{Appends}
use Rattle.lab_plan.specs.Upgrade.{job_text}
use Rattle.report.proofs.script.write_jobs.Given as goal

abbrev pub invariant-loop-job : goal.invariant-loop-job
invariant-loop-job g l =
    Appends (g.W.Sink.taken l.fn.sink) (g.W.Sink.taken l.sink) (flat_map (job_text l.plan) (take l.job l.plan.jobs))
    × (g.W.Sink.failures l.sink ≡ g.W.Sink.failures l.fn.sink)
