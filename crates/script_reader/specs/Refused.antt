-- A builder's refusal as the cause of a fault.
use Rattle.lab_plan.specs.declared.refusal.PlanRefusal.{PlanRefusal}
use Rattle.lab_plan.specs.declared.refusal.PlanRefusal.TheVariants as refusals
use Rattle.script_reader.specs.declared.fault.ScriptCause.{ScriptCause}
use Rattle.script_reader.specs.declared.fault.ScriptCause.TheVariants.{JobTwice, EmptySession, LimitPassed, TooManyInCommon, NoMemory}

abbrev pub cause_of : PlanRefusal → ScriptCause
cause_of refusals.LimitPassed = LimitPassed
cause_of refusals.SessionEmpty = EmptySession
cause_of refusals.JobTwice = JobTwice
cause_of refusals.TooManyInCommon = TooManyInCommon
cause_of refusals.NoMemory = NoMemory
