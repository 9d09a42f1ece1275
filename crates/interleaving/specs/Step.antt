-- What a step needs of the logs.
use Rattle.std.specs.Prelude.{ℕ}
use Rattle.lab_plan.specs.LabPlan.{LabPlan}
use Rattle.instrument_log.specs.Entries.{IsWithinLimits}
use Rattle.instrument_log.specs.InstrumentLog.{MayAppend}
use Rattle.legal_steps.specs.declared.event.Event.{Event}
use Rattle.legal_steps.specs.declared.event.Event.TheVariants.{Act}
use Rattle.legal_steps.specs.State.{State}
use Rattle.legal_steps.specs.Legal.{May, next_command, next_entry}
use Rattle.legal_steps.specs.WholeLogs.{log_with_room}

-- the log of the next command's instrument takes the entry of the next command
pub record TakesNext (plan : LabPlan) (s : State) (j : ℕ) : Type 0 where
  pub may_append : MayAppend (log_with_room plan s (next_command plan s j).0) (next_entry plan s j)
  pub within_limits : IsWithinLimits (next_entry plan s j)

-- if the event is a legal Act, the log takes its entry
abbrev pub TakesEntry : LabPlan → State → Event → Type 0
TakesEntry plan s (Act j) = May plan s (Act j) → TakesNext plan s j
TakesEntry plan s _ = Unit {0}
