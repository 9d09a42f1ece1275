-- For readers: a report that was printed has a timeline.
use Rattle.std.specs.Prelude.{◌≡◌, List}
use Rattle.lab_plan.specs.LabPlan.{LabPlan}
use Rattle.lab_plan.specs.IsPlan.{IsPlan}
use Rattle.legal_steps.specs.declared.event.Event.{Event}
use Rattle.legal_steps.specs.State.{State}
use Rattle.legal_steps.specs.Opening.{IsOpening}
use Rattle.legal_steps.specs.Run.{IsLegalFrom}
use Rattle.report.specs.Events.{shown_after}
use Rattle.timeline.specs.declared.fault.TimelineFault.{TimelineFault}
use Rattle.timeline.specs.declared.fault.TimelineFault.TheVariants.{NoMemory}
use Rattle.timeline.specs.Faults.{IsFaultOf}
use Rattle.timeline.specs.Timelines.{TimelineView, IsTimeline}
use Rattle.printed_reports.specs.Printed.{printed_report}

-- the law: some columns for its sessions agree with all of its logs and with each job's own order
abbrev pub HasTimeline : Type 0
HasTimeline = (plan : LabPlan) (opening : State) (events : List Event) → IsPlan plan → IsOpening plan opening → IsLegalFrom plan opening events
    → (view : TimelineView) × IsTimeline (printed_report plan (shown_after plan opening events)) view

-- the law: no fault that a timeline may have is one of it, except that memory runs out, of which nothing is said
abbrev pub HasNoOtherFault : Type 0
HasNoOtherFault = (plan : LabPlan) (opening : State) (events : List Event) → IsPlan plan → IsOpening plan opening → IsLegalFrom plan opening events
    → (fault : TimelineFault) → IsFaultOf (printed_report plan (shown_after plan opening events)) fault → fault ≡ NoMemory
