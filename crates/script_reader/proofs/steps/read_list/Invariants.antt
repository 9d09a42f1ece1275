use Rattle.std.specs.Prelude.{map}
use Rattle.script_reader.specs.Script.{text_lines}
use Rattle.script_reader.proofs.StepList.{IsListing}
use Rattle.script_reader.proofs.steps.read_list.Given as goal

abbrev pub invariant-loop-line : goal.invariant-loop-line
invariant-loop-line g l = IsListing l.plan l.fn.first (text_lines l.fn.text) (map (λ line. line.now) l.yielded) l.line-iterator l.number l.steps.items
