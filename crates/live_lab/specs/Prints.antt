-- For readers: the report of a lab, and that the headline holds of it.
use Rattle.std.specs.Prelude.{◌≡◌, ℕ, List}
use Rattle.lab_plan.specs.LabPlan.{LabPlan}
use Rattle.legal_steps.specs.declared.event.Event.{Event}
use Rattle.interleaving.specs.World.{WorldView}
use Rattle.report.specs.Report.{report_of, all_retired}
use Rattle.report.specs.Worlds.{shown_by}
use Rattle.lab_program.specs.declared.faults.Outcome.{Outcome}
use Rattle.lab_program.specs.Reports.{Reports, outcome_of}

-- the text is the report of the world, and the outcome says whether every job is retired there
abbrev pub IsPrint : WorldView → List ℕ → Outcome → Type 0
IsPrint w text outcome = (text ≡ report_of w.plan (shown_by w)) × (outcome ≡ outcome_of (all_retired w.plan (shown_by w)))

-- the text is the report of one list of events of the plan, each legal after the ones before it from the initial state on, and the headline holds of it
abbrev pub HasReport : LabPlan → List ℕ → Outcome → Type 0
HasReport plan text outcome = (history : List Event) × Reports plan history text outcome

-- of some plan
abbrev pub HasSomeReport : List ℕ → Outcome → Type 0
HasSomeReport text outcome = (plan : LabPlan) × HasReport plan text outcome
