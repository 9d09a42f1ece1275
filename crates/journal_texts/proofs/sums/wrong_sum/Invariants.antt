use Rattle.std.proofs.Common.{◌≡◌, ◌+◌, length}
use Rattle.script_reader.specs.Script.{text_lines}
use Rattle.journal_texts.specs.Sums.{wrong_behind}
use Rattle.journal_texts.proofs.sums.wrong_sum.Given as goal

abbrev pub invariant-loop-line : goal.invariant-loop-line
invariant-loop-line l =
    (wrong_behind 1 (text_lines l.fn.text) ≡ wrong_behind l.number l.lines) × (l.number + length l.lines ≡ 1 + length (text_lines l.fn.text))

abbrev pub decreases-loop-line : goal.decreases-loop-line
decreases-loop-line l = length l.lines
