use Rattle.std.specs.Prelude.{map}
use Rattle.script_reader.specs.Script.{text_lines}
use Rattle.script_reader.proofs.ReaderLoop.{IsReading}
use Rattle.script_reader.proofs.plan.read_plan.Given as goal

abbrev pub invariant-loop-line : goal.invariant-loop-line
invariant-loop-line g l = IsReading (text_lines l.fn.text) (map (λ line. line.now) l.yielded) l.line-iterator l.number l.reader
