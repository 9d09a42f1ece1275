-- Steps that a world takes, and what is answered of them.
use Rattle.std.specs.Prelude.{◌≡◌, ℕ, List, map, slice_get, Option, Some, Result, Ok, Err}
use Rattle.legal_steps.specs.declared.event.StepLine.{StepLine}
use Rattle.legal_steps.specs.Run.{StopsAt}
use Rattle.legal_steps.specs.Steps.{step_events}
use Rattle.interleaving.specs.World.{WorldView, LeadsTo}
use Rattle.lab_plan.specs.LabPlan.{LabPlan}
use Rattle.script_reader.specs.Steps.{StepsMean}
use Rattle.lab_program.specs.declared.faults.RunFault.{RunFault}
use Rattle.lab_program.specs.declared.faults.Outcome.{Outcome}
use Rattle.lab_program.specs.Answers.{AnswersFor}
use Rattle.lab_runs.specs.Replays.{ReplaysScript, ReplayRefuses}

-- done: all of them were legal, and lead from the one world to the other; else the line of the first that wasn't
abbrev pub TakesSteps : WorldView → List StepLine → Result (Unit {0}) ℕ → WorldView → Type 0
TakesSteps old steps (Ok done) new = LeadsTo old (step_events old.plan old.state (map (λ step. step.step) steps)) new
TakesSteps old steps (Err line) new =
    (place : ℕ) × StopsAt old.plan old.state (step_events old.plan old.state (map (λ step. step.step) steps)) place new.state
    × (slice_get (map (λ step. step.line) steps) place ≡ Some line)

-- whichever input means this plan and these steps, it is answered so
abbrev pub ReplaysSteps : LabPlan → List StepLine → Option (List ℕ) → Option (List ℕ) → Result Outcome RunFault → Type 0
ReplaysSteps plan steps old new result = (input : List ℕ) → StepsMean input plan steps → AnswersFor ReplaysScript ReplayRefuses input old new result
