use Rattle.std.specs.Prelude.{map}
use Rattle.script_reader.proofs.FurtherLines.{IsReadingMore}
use Rattle.script_reader.proofs.more.read_sessions.Given as goal

abbrev pub invariant-loop-line : goal.invariant-loop-line
invariant-loop-line g l = IsReadingMore l.fn.plan l.fn.job l.fn.text (map (λ line. line.now) l.yielded) l.line-iterator l.number l.reader
