use Rattle.chains.specs.Chains.{IsBestBelow}
use Rattle.chains.proofs.chain.best_below.Given as goal

-- of the jobs so far
abbrev pub invariant-loop-place : goal.invariant-loop-place
invariant-loop-place g l = IsBestBelow l.plan l.chains l.job l.place l.best
