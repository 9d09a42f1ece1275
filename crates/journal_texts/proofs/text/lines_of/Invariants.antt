-- the lines so far
use Rattle.std.proofs.Common.{◌≡◌, take}
use Rattle.journal_texts.specs.Texts.{lines_text}
use Rattle.journal_texts.proofs.text.lines_of.Given as goal

abbrev pub invariant-loop-event : goal.invariant-loop-event
invariant-loop-event g l = l.out.items ≡ lines_text l.plan (take l.event-index l.events)
