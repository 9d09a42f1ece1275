-- the entries so far went out, and nothing failed
use Rattle.std.proofs.Common.{◌≡◌, take}
use Rattle.std.specs.List.{flat_map}
use Rattle.std.specs.Io.KnownBytes.{Appends}
use Rattle.report.specs.Report.{entry_text}
use Rattle.report.proofs.shown.write_entries.Given as goal

abbrev pub invariant-loop-index : goal.invariant-loop-index
invariant-loop-index g l =
    let plan = g.R.Showing.plan l.run in
    let shown = g.R.Showing.shown l.run in
    Appends (g.W.Sink.taken l.fn.sink) (g.W.Sink.taken l.sink) (flat_map (entry_text plan) (take l.index (shown.log l.instrument)))
    × (g.W.Sink.failures l.sink ≡ g.W.Sink.failures l.fn.sink)
