use Rattle.std.proofs.Common.{◌≡◌, length}
use Rattle.chains.specs.Chains.{AreLongest}
use Rattle.chains.proofs.chain.all_chains.Given as goal

-- of the jobs so far
abbrev pub invariant-loop-job : goal.invariant-loop-job
invariant-loop-job g l = AreLongest l.plan l.chains.items × (length l.chains.items ≡ l.job)
