use Rattle.std.proofs.Common.{◌<◌, ℕ}
use Rattle.legal_steps.specs.State.{Has}
use Rattle.legal_steps.specs.Legal.{MayGiveBottle}
use Rattle.interleaving.proofs.tables.Tables.may_give_all.Given as goal

abbrev pub invariant-loop-bottle : goal.invariant-loop-bottle
invariant-loop-bottle g l = (k : ℕ) → k < l.bottle → Has l.set k → MayGiveBottle l.self.plan l.self.state l.fn.job l.fn.edge k
