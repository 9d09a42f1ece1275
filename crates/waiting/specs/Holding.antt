-- For readers: what a job holds.
use Rattle.std.specs.Prelude.{ℕ, Bool, true, false, ◌&&◌}
use Rattle.lab_plan.specs.LabPlan.{LabPlan, session_names}
use Rattle.legal_steps.specs.declared.phase.Drinking.{Drinking}
use Rattle.legal_steps.specs.declared.phase.Drinking.TheVariants.{Drinking as Drinks, Reaching}
use Rattle.legal_steps.specs.declared.phase.JobState.{JobState}

-- it drinks, or reaches while it does
abbrev pub is_drinking : Drinking → Bool
is_drinking Drinks = true
is_drinking Reaching = true
is_drinking _ = false

-- a job in this phase holds the instrument: it drinks, and its session names it
abbrev pub holds_in : LabPlan → ℕ → JobState → ℕ → Bool
holds_in plan j phase i = is_drinking phase.drinking && session_names plan j phase.session i
