use Rattle.std.proofs.Common.{◌≡◌, ℕ, ◌<◌}
use Rattle.legal_steps.specs.declared.phase.Drinking.TheVariants.{Retired}
use Rattle.legal_steps.specs.State.{drinking}
use Rattle.round_trace.proofs.whole_trace.all_retired.Given as goal

abbrev pub invariant-loop-job : goal.invariant-loop-job
invariant-loop-job g l = (j : ℕ) → j < l.job → drinking l.world.state j ≡ Retired
