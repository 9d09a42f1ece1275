-- For readers: what holds of a run, that is of a list of events that is legal from the initial state of its plan.
use Rattle.std.specs.Prelude.{◌≡◌, ℕ, ◌≤◌, List, All, take, Some, slice_get}
use Rattle.lab_plan.specs.LabPlan.{LabPlan}
use Rattle.lab_plan.specs.IsPlan.{IsPlan}
use Rattle.instrument_log.specs.declared.entry.Entry.{Entry}
use Rattle.instrument_log.specs.Dial.{HasDialValues}
use Rattle.legal_steps.specs.declared.event.Event.{Event}
use Rattle.legal_steps.specs.declared.event.Event.TheVariants.{AskFork}
use Rattle.legal_steps.specs.State.{State, log}
use Rattle.legal_steps.specs.Run.{IsLegalFrom, after_all}
use Rattle.legal_steps.specs.Opening.{the_opening}
use Rattle.legal_steps.specs.Holding.{IsExclusive}
use Rattle.legal_steps.specs.Precedence.{IsAcyclic}
use Rattle.legal_steps.specs.WholeLogs.{IsWholeButEnd, IsSessionOf, IsAscending, BeginsWithParts, ended_sessions}
use Rattle.overtaking.specs.Overtaking.{overtaking}

-- the state after the first n events of a run, or after all if there are fewer
abbrev pub state_at : LabPlan → List Event → ℕ → State
state_at plan history n = after_all plan (the_opening plan) (take n history)

-- the log of an instrument then
abbrev pub log_at : LabPlan → List Event → ℕ → ℕ → List Entry
log_at plan history n i = log (state_at plan history n) i

-- the sessions (job, number) that ended in the first n events, in the order of their ends
abbrev pub ended_at : LabPlan → List Event → ℕ → List (ℕ × ℕ)
ended_at plan history n = ended_sessions plan (the_opening plan) (take n history)

pub record HoldsOf (plan : LabPlan) (history : List Event) : Type 0 where
  -- after each beginning of the run every log is whole sessions one after another, of which only the last may be unfinished
  pub logs_whole : (n i : ℕ) → IsWholeButEnd plan i (log_at plan history n i)
  -- the sessions that ended are the plan's, those of each job in ascending order, and every log has their parts, in the order of their ends, before anything
  -- else
  pub ended_are : (n : ℕ) → All (IsSessionOf plan) (ended_at plan history n)
  pub ended_ascend : (n : ℕ) → IsAscending (ended_at plan history n)
  pub ended_there : (n i : ℕ) → BeginsWithParts plan i (ended_at plan history n) (log_at plan history n i)
  -- the value of each entry is that of the dial after its command
  pub values_follow : (n i : ℕ) → HasDialValues (log_at plan history n i)
  -- no two jobs hold one instrument
  pub one_holder : (n : ℕ) → IsExclusive plan (state_at plan history n)
  -- precedence has no cycle
  pub no_cycle : (n : ℕ) → IsAcyclic plan (state_at plan history n)
  -- at each request for a fork: before the job that asked begins its next meal, or the run ends, the neighbour begins at most one
  pub overtaken_once : (place j e : ℕ) → slice_get history place ≡ Some (AskFork j e) → overtaking plan history place j e ≤ 1

-- the law: all of it holds of every run of a plan within its limits
abbrev pub HoldsOfEveryRun : Type 0
HoldsOfEveryRun = (plan : LabPlan) (history : List Event) → IsPlan plan → IsLegalFrom plan (the_opening plan) history → HoldsOf plan history
