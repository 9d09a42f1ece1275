use Rattle.std.proofs.Common.{◌≡◌, ℕ, ◌<◌, ◌↔◌, true}
use Rattle.lab_plan.specs.InstrumentSets.{holds}
use Rattle.legal_steps.specs.Legal.{Needs}
use Rattle.live_lab.proofs.admission.in_use.Given as goal

abbrev pub invariant-loop-job : goal.invariant-loop-job
invariant-loop-job g l = (i : ℕ) → (holds l.used i ≡ true) ↔ ((k : ℕ) × (k < l.job) × Needs l.world.plan l.world.state k i)
