use Rattle.std.proofs.Common.{◌≡◌, [], replicate}
use Rattle.blocking.proofs.tally.nobody.Given as goal

abbrev pub invariant-loop-session : goal.invariant-loop-session
invariant-loop-session g l = l.kept.items ≡ replicate l._session []
