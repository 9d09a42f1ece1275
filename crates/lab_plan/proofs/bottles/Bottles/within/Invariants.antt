use Rattle.std.proofs.Common.{◌≡◌, true, slice_index_or}
use Rattle.lab_plan.specs.InstrumentSets.{holds}
use Rattle.lab_plan.proofs.Gathered.{Gathered}
use Rattle.lab_plan.proofs.bottles.Bottles.within.Given as goal

abbrev pub invariant-loop-bottle : goal.invariant-loop-bottle
invariant-loop-bottle g l = Gathered l.set l.bottle (λ k. holds l.instruments (slice_index_or l.self k 0) ≡ true)
