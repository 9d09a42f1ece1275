use Rattle.std.proofs.Common.{◌<◌, ◌^◌, ◌↔◌, ℕ}
use Rattle.legal_steps.specs.State.{Has}
use Rattle.live_lab.specs.Kinds.{IsOf}
use Rattle.live_lab.proofs.kinds.all_of.Given as goal

abbrev pub invariant-loop-job : goal.invariant-loop-job
invariant-loop-job g l = (l.set < 2 ^ l.job) × ((k : ℕ) → k < l.job → Has l.set k ↔ IsOf l.kind l.waiting l.clocks l.world k)
