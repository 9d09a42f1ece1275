-- the entries so far went out, and nothing failed
use Rattle.std.proofs.Common.{◌≡◌, length, map, take}
use Rattle.std.specs.List.{flat_map, range_with_len}
use Rattle.std.specs.Io.KnownBytes.{Appends}
use Rattle.report_reader.specs.Form.{entry_text, job_text}
use Rattle.picture.specs.Picture.{entry_at}
use Rattle.picture.proofs.lines.write_entries.Given as goal

abbrev pub invariant-loop-place : goal.invariant-loop-place
invariant-loop-place g l =
    Appends (g.W.Sink.taken l.fn.sink) (g.W.Sink.taken l.sink) (flat_map (entry_at (map job_text l.jobs) l.columns l.spans (map entry_text l.entries)) (take l.place
    (range_with_len 0 (length l.entries))))
    × (g.W.Sink.failures l.sink ≡ g.W.Sink.failures l.fn.sink)
