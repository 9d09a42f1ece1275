-- For readers: what `waits`, `blocks` and `gantt` tell is of the run that `labrun rounds N` reports, and a script and N have one picture.
use Rattle.std.specs.Prelude.{◌≡◌, ℕ, Bool, List, length}
use Rattle.lab_plan.specs.LabPlan.{LabPlan}
use Rattle.legal_steps.specs.declared.event.Event.{Event}
use Rattle.legal_steps.specs.Opening.{the_opening}
use Rattle.script_reader.specs.Script.{ScriptMeans}
use Rattle.report.specs.Events.{report_after, retired_after}
use Rattle.waiting.specs.Rounds.{joined, AreRoundsOf}
use Rattle.lab_program.specs.declared.faults.Outcome.{Outcome}
use Rattle.lab_program.specs.Reports.{outcome_of}
use Rattle.lab_runs.specs.Shared.{RunsInRounds}
use Rattle.lab_views.specs.Blocks.{TellsBlocks}
use Rattle.lab_views.specs.Gantts.{DrawsRun}

-- a run in rounds had as many rounds as these are, and its report is that of their events
pub record AreReported (plan : LabPlan) (rounds : List (List Event)) (number : ℕ) (report : List ℕ) (ended : Outcome) : Type 0 where
  pub number_is : length rounds ≡ number
  pub report_is : report ≡ report_after plan (the_opening plan) (joined rounds)
  pub ended_is : ended ≡ outcome_of (retired_after plan (the_opening plan) (joined rounds))

-- the rounds of which a view tells, and those of the run of the same input, with the same number
abbrev pub RoundsAreReported : Type 0
RoundsAreReported = (limit : ℕ) (input report : List ℕ) (ended : Outcome) (plan : LabPlan) (retired : Bool) (rounds : List (List Event))
    → ScriptMeans input plan → AreRoundsOf plan limit retired rounds
    → (r : RunsInRounds limit input report ended) → AreReported plan rounds r.number report ended

abbrev pub HasOnePicture : Type 0
HasOnePicture = (limit : ℕ) (input text text' : List ℕ) (outcome outcome' : Outcome)
    → DrawsRun limit input text outcome → DrawsRun limit input text' outcome' → text ≡ text'

-- that isn't so of `waits`, which may name any of several longest chains
abbrev pub HasOneListOfBlocks : Type 0
HasOneListOfBlocks = (limit : ℕ) (input text text' : List ℕ) (outcome outcome' : Outcome)
    → TellsBlocks limit input text outcome → TellsBlocks limit input text' outcome' → text ≡ text'
