-- the rows so far went out, and nothing failed
use Rattle.std.proofs.Common.{◌≡◌, length, take}
use Rattle.std.specs.List.{flat_map, range_with_len}
use Rattle.std.specs.Io.KnownBytes.{Appends}
use Rattle.picture.specs.Picture.{log_at}
use Rattle.picture.proofs.lines.write_logs.Given as goal

abbrev pub invariant-loop-number : goal.invariant-loop-number
invariant-loop-number g l =
    Appends (g.W.Sink.taken l.fn.sink) (g.W.Sink.taken l.sink) (flat_map (log_at l.report l.timeline) (take l.number (range_with_len 0 (length l.report.logs))))
    × (g.W.Sink.failures l.sink ≡ g.W.Sink.failures l.fn.sink)
