-- the logs so far went out, and nothing failed
use Rattle.std.proofs.Common.{◌≡◌, take}
use Rattle.std.specs.List.{flat_map}
use Rattle.std.specs.Io.KnownBytes.{Appends}
use Rattle.report.specs.Report.{log_text, instruments}
use Rattle.report.proofs.shown.write_logs.Given as goal

abbrev pub invariant-loop-instrument : goal.invariant-loop-instrument
invariant-loop-instrument g l =
    let plan = g.R.Showing.plan l.run in
    let shown = g.R.Showing.shown l.run in
    Appends (g.W.Sink.taken l.fn.sink) (g.W.Sink.taken l.sink) (flat_map (log_text plan shown) (take l.instrument (instruments plan)))
    × (g.W.Sink.failures l.sink ≡ g.W.Sink.failures l.fn.sink)
