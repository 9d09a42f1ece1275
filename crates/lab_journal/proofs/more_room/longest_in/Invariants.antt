-- those so far, and those that are left
use Rattle.std.proofs.Common.{◌≡◌, ◌+◌, ◌≤◌, length}
use Rattle.std.specs.Prelude.{max}
use Rattle.script_reader.specs.Script.{text_lines}
use Rattle.lab_journal.specs.Rooms.{longest_in, longest_from}
use Rattle.lab_journal.proofs.more_room.longest_in.Given as goal

abbrev pub invariant-loop-line : goal.invariant-loop-line
invariant-loop-line l =
    (longest_in l.fn.text ≡ max l.longest (longest_from l.lines l.line-iterator)) × (l.lines + length l.line-iterator ≤ length (text_lines l.fn.text))
