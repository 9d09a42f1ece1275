use Rattle.std.proofs.Common.{◌≡◌, ◌+◌, length}
use Rattle.script_reader.specs.Script.{text_lines}
use Rattle.journal_texts.specs.Additions.{additions_behind}
use Rattle.journal_texts.proofs.added.additions.Given as goal

abbrev pub invariant-loop-line : goal.invariant-loop-line
invariant-loop-line g l =
    (additions_behind 1 (text_lines l.fn.text) ≡ additions_behind l.number l.lines) × (l.number + length l.lines ≡ 1 + length (text_lines l.fn.text))

abbrev pub decreases-loop-line : goal.decreases-loop-line
decreases-loop-line g l = length l.lines
