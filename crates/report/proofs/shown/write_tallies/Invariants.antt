-- the jobs so far went out, and nothing failed
use Rattle.std.proofs.Common.{◌≡◌, take}
use Rattle.std.specs.List.{flat_map}
use Rattle.std.specs.Io.KnownBytes.{Appends}
use Rattle.report.specs.Report.{tally_text, jobs}
use Rattle.report.proofs.shown.write_tallies.Given as goal

abbrev pub invariant-loop-job : goal.invariant-loop-job
invariant-loop-job g l =
    let plan = g.R.Showing.plan l.run in
    let shown = g.R.Showing.shown l.run in
    Appends (g.W.Sink.taken l.fn.sink) (g.W.Sink.taken l.sink) (flat_map (tally_text plan shown) (take l.job (jobs plan)))
    × (g.W.Sink.failures l.sink ≡ g.W.Sink.failures l.fn.sink)
