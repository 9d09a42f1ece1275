use Rattle.std.proofs.Common.{length}
use Rattle.rounds.proofs.retired.+are_at_rest.Given as goal

abbrev pub decreases-are_at_rest : goal.decreases-are_at_rest
decreases-are_at_rest g l = length l.desks.now
