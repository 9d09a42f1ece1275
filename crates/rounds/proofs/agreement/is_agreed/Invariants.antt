-- the edges so far
use Rattle.std.proofs.Common.{IsTrue, ◌↔◌}
use Rattle.rounds.specs.Company.{IsAgreed}
use Rattle.rounds.proofs.agreement.is_agreed.Given as goal

abbrev pub invariant-loop-number : goal.invariant-loop-number
invariant-loop-number g l = IsTrue l.all ↔ IsAgreed l.desks l.bench.plan l.number
