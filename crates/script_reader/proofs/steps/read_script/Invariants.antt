use Rattle.std.proofs.Common.{ℕ, List, length}
use Rattle.script_reader.specs.Script.{text_lines}
use Rattle.script_reader.proofs.ScriptPart.{IsAt}
use Rattle.script_reader.proofs.steps.read_script.Given as goal

abbrev pub invariant-loop-line : goal.invariant-loop-line
invariant-loop-line g l = (done : List (List ℕ)) × IsAt (text_lines l.fn.text) done l.lines l.number l.reader

abbrev pub decreases-loop-line : goal.decreases-loop-line
decreases-loop-line g l = length l.lines
