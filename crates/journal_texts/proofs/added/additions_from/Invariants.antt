use Rattle.std.proofs.Common.{◌≡◌, ◌+◌, ◌++◌, length}
use Rattle.script_reader.specs.Script.{text_lines}
use Rattle.journal_texts.specs.Additions.{additions_from}
use Rattle.journal_texts.proofs.added.additions_from.Given as goal

-- those so far, and what is left to read
abbrev pub invariant-loop-line : goal.invariant-loop-line
invariant-loop-line g l =
    (additions_from l.fn.first (text_lines l.fn.text) ≡ l.all.items ++ additions_from l.number l.lines)
    × (l.number + length l.lines ≡ l.fn.first + length (text_lines l.fn.text))

abbrev pub decreases-loop-line : goal.decreases-loop-line
decreases-loop-line g l = length l.lines
