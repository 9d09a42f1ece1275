-- The names that texts of steps tell.
use Rattle.std.specs.Prelude.{ℕ, List}
use Rattle.lab_plan.specs.LabPlan.{LabPlan}
use Rattle.lab_plan.specs.Texts.{job_name, instrument_name}
use Rattle.legal_steps.specs.State.{neighbour}
use Rattle.legal_steps.specs.Legal.{instrument_of}

-- the job at the other end of an edge
abbrev pub other_name : LabPlan → ℕ → ℕ → List ℕ
other_name plan j e = job_name plan (neighbour plan j e)

-- the instrument of a bottle of an edge
abbrev pub bottle_name : LabPlan → ℕ → ℕ → List ℕ
bottle_name plan e k = instrument_name plan (instrument_of plan e k)
