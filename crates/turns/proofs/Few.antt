-- The phases of a state that fits are within the bounds of their words.
use Rattle.std.proofs.Common.{ℕ, ◌<◌, length, arith}
use Rattle.lab_plan.specs.LabPlan.{LabPlan}
use Rattle.lab_plan.specs.IsPlan.{IsPlan}
use Rattle.legal_steps.specs.State.{State, phase}
use Rattle.legal_steps.specs.Fitting.{Fits}
use Rattle.legal_steps.proofs.FewCommands.{few_commands}
use Rattle.edge_word.specs.Phases.{FitsPhaseWord}

-- the phase of a job fits its word
pub phase_fits : (plan : LabPlan) (s : State) (j : ℕ) → IsPlan plan → Fits plan s → j < length plan.jobs → FitsPhaseWord (phase s j)
phase_fits plan s j is fit job =
    let x = (fit.seats_fit j job).phase_within in
    let a = x.session_there in let b = x.position_there in let c = is.draft.few_sessions j in let d = few_commands plan j (phase s j).session is in
    record { session_fits = omega arith; position_fits = omega arith }
