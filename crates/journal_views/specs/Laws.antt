-- For readers: a replay of the steps that are written of a journal is the journal's own run.
use Rattle.std.specs.Prelude.{◌≡◌, ℕ, List}
use Rattle.legal_steps.specs.declared.event.Event.{Event}
use Rattle.legal_steps.specs.Opening.{the_opening}
use Rattle.lab_plan.specs.LabPlan.{LabPlan}
use Rattle.explaining.specs.Explanations.{events_from_opening}
use Rattle.report.specs.Events.{report_after, retired_after}
use Rattle.script_reader.specs.declared.fault.ScriptCause.{ScriptCause}
use Rattle.script_reader.specs.Steps.{StepsFault}
use Rattle.lab_program.specs.declared.faults.Outcome.{Outcome}
use Rattle.lab_program.specs.Reports.{outcome_of}
use Rattle.lab_runs.specs.Replays.{ReplaysScript, HasIllegalStep}
use Rattle.journal_views.specs.Journals.{WritesSteps, upgraded}

-- whatever a replay reports of the text is the report of these events by this plan, and neither the text nor a step of it is refused
pub record IsReplayedAs (text : List ℕ) (plan : LabPlan) (events : List Event) : Type 0 where
  pub reported : (report : List ℕ) (said : Outcome) → ReplaysScript text report said
      → (report ≡ report_after plan (the_opening plan) events) × (said ≡ outcome_of (retired_after plan (the_opening plan) events))
  pub all_legal : (line : ℕ) → ¬ HasIllegalStep text line
  pub no_fault : (number : ℕ) (cause : ScriptCause) → ¬ StepsFault text number cause

abbrev pub JournalIsReplayed : Type 0
JournalIsReplayed =
    (input text : List ℕ) (outcome : Outcome) (w : WritesSteps input text outcome)
    → IsReplayedAs text (upgraded w.plan) (events_from_opening w.plan w.steps)
