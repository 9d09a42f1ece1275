-- For readers: what is said of a list of steps from the initial state: of the first that isn't legal when its turn comes, or else of the end.
use Rattle.std.specs.Prelude.{◌≡◌, ℕ, List, ◌++◌, length, map, codes, decimal, Option, None, Some, slice_get}
use Rattle.std.specs.List.{flat_map, range_with_len}
use Rattle.lab_plan.specs.LabPlan.{LabPlan}
use Rattle.legal_steps.specs.declared.event.Event.{Event}
use Rattle.legal_steps.specs.declared.event.Step.{Step}
use Rattle.legal_steps.specs.declared.event.StepLine.{StepLine}
use Rattle.legal_steps.specs.State.{State}
use Rattle.legal_steps.specs.Steps.{event_of, step_events}
use Rattle.legal_steps.specs.Opening.{the_opening}
use Rattle.legal_steps.specs.Run.{Runs, StopsAt}
use Rattle.refused_steps.specs.declared.cause.Cause.{Cause}
use Rattle.refused_steps.specs.Causes.{Fails}
use Rattle.legal_moves.specs.Moves.{AreLegalMoves}
use Rattle.step_texts.specs.StepTexts.{step_text}
use Rattle.explaining.specs.CauseTexts.{cause_text, job_of}
use Rattle.explaining.specs.StateTexts.{job_text}
use Rattle.explaining.specs.MoveTexts.{moves_text}

-- ---- the texts

-- ``line N: `STEP` is not legal: CAUSE``
unfoldable pub line_head : ℕ → List ℕ
line_head line = codes "line " ++ decimal line ++ codes ": `"

unfoldable pub refusal_line : LabPlan → ℕ → Step → Cause → List ℕ
refusal_line plan line step cause = line_head line ++ step_text plan step ++ codes "` is not legal: " ++ cause_text plan step cause ++ codes "\n"

-- of a step that isn't legal: why, how its job and its edges are, and what is legal
unfoldable pub refusal_text : LabPlan → State → ℕ → Step → Cause → List Step → List ℕ
refusal_text plan s line step cause moves = refusal_line plan line step cause ++ job_text plan s (job_of step) ++ moves_text plan moves

-- `legal steps: N, all`
unfoldable pub end_line : ℕ → List ℕ
end_line steps = codes "legal steps: " ++ decimal steps ++ codes ", all\n"

unfoldable pub jobs_text : LabPlan → State → List ℕ
jobs_text plan s = flat_map (job_text plan s) (range_with_len 0 (length plan.jobs))

-- of the end: how each job and its edges are, and what is legal
unfoldable pub end_text : LabPlan → State → ℕ → List Step → List ℕ
end_text plan s steps moves = end_line steps ++ jobs_text plan s ++ moves_text plan moves

-- ---- what is said

-- of a step that isn't legal in the state: a part of its guard that fails there, and exactly the moves that are legal there
pub record TellsStep (plan : LabPlan) (s : State) (line : StepLine) (text : List ℕ) : Type 0 where
  pub cause : Cause
  pub fails : Fails plan s (event_of s line.step) cause
  pub moves : List Step
  pub legal : AreLegalMoves plan s moves
  pub told : text ≡ refusal_text plan s line.line line.step cause moves

-- of a state after this many steps: exactly the moves that are legal there
pub record TellsEnd (plan : LabPlan) (s : State) (steps : ℕ) (text : List ℕ) : Type 0 where
  pub moves : List Step
  pub legal : AreLegalMoves plan s moves
  pub told : text ≡ end_text plan s steps moves

-- the events of the steps, from the initial state
abbrev pub events_from_opening : LabPlan → List StepLine → List Event
events_from_opening plan lines = step_events plan (the_opening plan) (map (λ line. line.step) lines)

-- the first step that isn't legal stands in this line, and is explained
pub record TellsRefusal (plan : LabPlan) (lines : List StepLine) (number : ℕ) (text : List ℕ) : Type 0 where
  pub place : ℕ
  pub state : State
  pub stops : StopsAt plan (the_opening plan) (events_from_opening plan lines) place state
  pub line : StepLine
  pub there : slice_get lines place ≡ Some line
  pub numbered : line.line ≡ number
  pub tells : TellsStep plan state line text

-- all steps are legal, and the state after them is described
pub record TellsAll (plan : LabPlan) (lines : List StepLine) (text : List ℕ) : Type 0 where
  pub state : State
  pub runs : Runs plan (the_opening plan) (events_from_opening plan lines) state
  pub tells : TellsEnd plan state (length lines) text

abbrev pub Tells : LabPlan → List StepLine → Option ℕ → List ℕ → Type 0
Tells plan lines None text = TellsAll plan lines text
Tells plan lines (Some number) text = TellsRefusal plan lines number text
