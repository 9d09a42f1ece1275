use Rattle.std.proofs.Common.{ℕ, ◌<◌, ◌≤◌, length}
use Rattle.chains.specs.Chains.{chain_at}
use Rattle.chains.proofs.chain.longest_place.Given as goal

-- of the chains so far
abbrev pub invariant-loop-place : goal.invariant-loop-place
invariant-loop-place g l = (l.best < length l.chains) × ((k : ℕ) → k < l.place → length (chain_at l.chains k) ≤ length (chain_at l.chains l.best))
