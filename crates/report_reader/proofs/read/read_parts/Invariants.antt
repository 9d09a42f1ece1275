use Rattle.std.proofs.Common.{take}
use Rattle.std.specs.Prelude.{map}
use Rattle.report_reader.proofs.ReadingLoop.{IsReading}
use Rattle.report_reader.proofs.read.read_parts.Given as goal

abbrev pub invariant-loop-part : goal.invariant-loop-part
invariant-loop-part g l = IsReading (take l.part-index (map (λ part. part.now) l.parts)) l.number l.reader
