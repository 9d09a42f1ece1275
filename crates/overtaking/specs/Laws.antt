-- For readers: the laws of waiting: over every list of events that is legal from an opening state, for every plan.
use Rattle.std.specs.Prelude.{◌≡◌, ℕ, ◌≤◌, List, take, Some, slice_get}
use Rattle.lab_plan.specs.LabPlan.{LabPlan}
use Rattle.legal_steps.specs.declared.event.Event.{Event}
use Rattle.legal_steps.specs.declared.event.Event.TheVariants.{AskFork}
use Rattle.legal_steps.specs.State.{State}
use Rattle.legal_steps.specs.Run.{IsLegalFrom, after_all}
use Rattle.legal_steps.specs.Precedence.{IsAcyclic}
use Rattle.legal_steps.specs.Opening.{IsOpening}
use Rattle.overtaking.specs.Overtaking.{overtaking}
use Rattle.overtaking.specs.Stuck.{IsStuck, IsQuiet, AllRetired}

-- at every request for a fork the overtaking is at most 1
abbrev pub IsOvertakenOnce : Type 0
IsOvertakenOnce = (plan : LabPlan) (opening : State) (events : List Event) (place j e : ℕ) → IsOpening plan opening → IsLegalFrom plan opening events
    → slice_get events place ≡ Some (AskFork j e) → overtaking plan events place j e ≤ 1

-- P holds of the state after each beginning of every list that is legal from an opening state without a cycle of precedence
abbrev pub FromAcyclic : (LabPlan → State → Type 0) → Type 0
FromAcyclic P = (plan : LabPlan) (opening : State) (events : List Event) (n : ℕ)
    → IsOpening plan opening → IsAcyclic plan opening → IsLegalFrom plan opening events
    → P plan (after_all plan opening (take n events))

-- only if all jobs are retired does no event but Withdraw change anything
abbrev pub IsNeverStuck : Type 0
IsNeverStuck = FromAcyclic (λ plan s. IsStuck plan s → AllRetired plan s)

-- in a quiet state all jobs are retired
abbrev pub QuietIsRetired : Type 0
QuietIsRetired = FromAcyclic (λ plan s. IsQuiet plan s → AllRetired plan s)
