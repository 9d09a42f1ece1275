use Rattle.std.proofs.Common.{◌≡◌, ℕ, ◌+◌, List, [], length}
use Rattle.sha2.specs.Hashers.{Holds256}
use Rattle.script_reader.specs.Script.{text_lines}
use Rattle.journal_texts.specs.Sums.{wrong_from}
use Rattle.journal_texts.proofs.sums.wrong_from.Given as goal

-- what is left to look at gives the answer, and so many lines are left
abbrev pub invariant-loop-line : goal.invariant-loop-line
invariant-loop-line l =
    (text : List ℕ) × Holds256 l.hasher text × (wrong_from l.fn.first [] (text_lines l.fn.text) ≡ wrong_from l.number text l.line-iterator)
    × (l.number + length l.line-iterator ≡ l.fn.first + length (text_lines l.fn.text))
