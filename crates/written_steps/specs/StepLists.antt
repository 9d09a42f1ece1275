-- For readers: a script with a list of steps behind it is read as its plan and these steps.
use Rattle.std.specs.Prelude.{◌≤◌, ◌+◌, ℕ, List, [], ◌∷◌, ◌++◌, codes, length, if◌then◌else◌}
use Rattle.std.specs.List.{AllByRecursion, flat_map}
use Rattle.std.specs.Io.BufRead.{ends_with_byte}
use Rattle.lab_plan.specs.LabPlan.{LabPlan}
use Rattle.lab_plan.specs.IsPlan.{IsPlan}
use Rattle.legal_steps.specs.declared.event.Step.{Step}
use Rattle.legal_steps.specs.declared.event.StepLine.{StepLine}
use Rattle.script_reader.specs.Script.{text_lines, ScriptMeans}
use Rattle.script_reader.specs.Steps.{StepsMean}
use Rattle.step_texts.specs.StepTexts.{step_text}
use Rattle.written_steps.specs.ReadBack.{IsNameable}

-- the line end that a last line doesn't have; after a carriage return, which belongs to the line, a space comes first
abbrev pub lacking_end : List ℕ → List ℕ
lacking_end script = if ends_with_byte 10 script then [] else (if ends_with_byte 13 script then codes " \n" else codes "\n")

-- the bytes of a script, its last line ended, and the line `steps`
unfoldable pub script_head : List ℕ → List ℕ
script_head script = script ++ lacking_end script ++ codes "steps\n"

-- a step, on a line of its own
unfoldable pub step_line : LabPlan → Step → List ℕ
step_line plan step = step_text plan step ++ codes "\n"

abbrev pub step_lines : LabPlan → List Step → List ℕ
step_lines plan steps = flat_map (step_line plan) steps

-- the steps, one a line from this line on
abbrev pub lines_from_here : ℕ → List Step → List StepLine
lines_from_here n [] = []
lines_from_here n (step ∷ steps) = record { line = n; step = step } ∷ lines_from_here (n + 1) steps

-- the steps behind the script, which has this many lines, and the line `steps`
abbrev pub steps_behind : List ℕ → List Step → List StepLine
steps_behind script steps = lines_from_here (length (text_lines script) + 2) steps

abbrev pub IsListReadBack : Type 0
IsListReadBack = (plan : LabPlan) (script : List ℕ) (steps : List Step) → IsPlan plan → ScriptMeans script plan
    → AllByRecursion (IsNameable plan) steps → length steps ≤ 1000000
    → StepsMean (script_head script ++ step_lines plan steps) plan (steps_behind script steps)
