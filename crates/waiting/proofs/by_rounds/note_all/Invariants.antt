use Rattle.std.proofs.Common.{◌≡◌, take}
use Rattle.waiting.specs.Watching.{logs_then}
use Rattle.waiting.proofs.by_rounds.note_all.Given as goal

-- so many desks were asked
abbrev pub invariant-loop-place : goal.invariant-loop-place
invariant-loop-place g l = l.logs ≡ logs_then l.round (take l.place l.desks) l.fn.logs
