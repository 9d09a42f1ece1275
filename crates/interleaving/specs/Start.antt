-- Worlds at their start.
use Rattle.std.specs.Prelude.{length, replicate, List, []}
use Rattle.lab_plan.specs.LabPlan.{LabPlan}
use Rattle.legal_steps.specs.declared.edge_state.EndChoice.{EndChoice}
use Rattle.legal_steps.specs.State.{State}
use Rattle.legal_steps.specs.Opening.{AreChoices, opening_of}
use Rattle.legal_steps.specs.Precedence.{IsAcyclic}
use Rattle.interleaving.specs.declared.refusal.StartRefusal.{StartRefusal}
use Rattle.interleaving.specs.declared.refusal.StartRefusal.TheVariants.{BadChoices, NoMemory, Cycle}
use Rattle.legal_steps.specs.Counting.{no_counts}
use Rattle.interleaving.specs.Kept.{no_kept}
use Rattle.interleaving.specs.World.{WorldView}

-- the world in a state, before its first event
abbrev pub at_start : LabPlan → State → WorldView
at_start plan s = record { plan = plan; state = s; counts = replicate (length plan.jobs) no_counts; opening = s; past = []; kept = no_kept }

-- why the choices start no world
abbrev pub IsStartRefused : LabPlan → List EndChoice → StartRefusal → Type 0
IsStartRefused plan choices BadChoices = ¬ AreChoices plan choices
IsStartRefused plan choices NoMemory = AreChoices plan choices
IsStartRefused plan choices Cycle = AreChoices plan choices × ¬ IsAcyclic plan (opening_of plan choices)
