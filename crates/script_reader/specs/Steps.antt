-- For readers: step lists: the lines behind a line `steps`, each one step of the script's plan.
use Rattle.std.specs.Prelude.{ℕ, ◌≡◌, ◌+◌, ◌^◌, ◌≤◌, Bool, true, false, ◌&&◌, not, nat_le, ◌==◌, min, max, List, [], ◌∷◌, ◌++◌, Option, None}
use Rattle.std.specs.Prelude.{Some, Result, Ok, Err, length, map, drop, slice_index, slice_index_or, codes, if◌then◌else◌, ◌⊎◌}
use Rattle.std.specs.List.{find, list_any, position, sum_by}
use Rattle.std.specs.Option.{option_map, option_and_then, is_some}
use Rattle.std.specs.Str.{bytes_eq}
use Rattle.lab_plan.specs.LabPlan.{JobPlan, LabPlan, edges, bottles}
use Rattle.legal_steps.specs.declared.event.Step.{Step}
use Rattle.legal_steps.specs.declared.event.Step.TheVariants.{Look, AskFork, GiveFork, Soil, AskBottles, GiveBottles, Thirst, Hunger}
use Rattle.legal_steps.specs.declared.event.Step.TheVariants.{Sit, Leave, Drink, Reach, Act, Quit, Retire, Glance, Withdraw}
use Rattle.legal_steps.specs.declared.event.StepLine.{StepLine}
use Rattle.script_reader.specs.declared.fault.ScriptFault.{ScriptFault}
use Rattle.script_reader.specs.declared.fault.ScriptCause.{ScriptCause}
use Rattle.script_reader.specs.declared.fault.ScriptCause.TheVariants.{BadStep, LimitPassed, NoMemory}
use Rattle.script_reader.specs.Fields.{fields}
use Rattle.script_reader.specs.Line.{form_of, is_steps}
use Rattle.script_reader.specs.Plan.{up_to_next}
use Rattle.script_reader.specs.Script.{has, numbered, text_lines, LinesMean, IsFaultOfLines, Refuses}

-- ---- what names stand for

-- the job with this name
abbrev pub job_named : LabPlan → List ℕ → Option ℕ
job_named plan name = position (λ (job : JobPlan). bytes_eq name job.name) plan.jobs

-- the edge of two jobs
abbrev pub edge_between : LabPlan → ℕ → ℕ → Option ℕ
edge_between plan a b = position (λ (pair : ℕ × ℕ). (pair.0 == min a b) && (pair.1 == max a b)) (edges plan)

-- a job by its name, and its edge to another
abbrev pub edge_named : LabPlan → List ℕ → List ℕ → Option (ℕ × ℕ)
edge_named plan name other =
    option_and_then (λ j. option_and_then (λ k. option_map (λ e. (j, e)) (edge_between plan j k)) (job_named plan other)) (job_named plan name)

-- the bottle of the edge whose instrument has this name
abbrev pub bottle_named : LabPlan → ℕ → List ℕ → Option ℕ
bottle_named plan e name = position (λ i. bytes_eq name (slice_index_or plan.instruments i [])) (bottles plan e)

-- all of them, if each is there
abbrev pub all_there : List (Option ℕ) → Option (List ℕ)
all_there [] = Some []
all_there (x ∷ xs) = option_and_then (λ k. option_map (λ ks. k ∷ ks) (all_there xs)) x

abbrev pub is_distinct : List ℕ → Bool
is_distinct [] = true
is_distinct (k ∷ ks) = not (list_any (λ other. other == k) ks) && is_distinct ks

-- the set with these members: bit k for bottle k
abbrev pub set_of : List ℕ → ℕ
set_of ks = sum_by (λ k. 2 ^ k) ks

-- the set of the bottles of an edge with these names, none twice
unfoldable pub bottle_set : LabPlan → ℕ → List (List ℕ) → Option ℕ
bottle_set plan e names = option_and_then (λ ks. if is_distinct ks then Some (set_of ks) else None) (all_there (map (bottle_named plan e) names))

-- ---- the words of steps

-- the event with this word
abbrev pub event_with : List ℕ → List (List ℕ × Step) → Option Step
event_with word events = option_map (λ (event : List ℕ × Step). event.1) (find (λ (event : List ℕ × Step). bytes_eq word event.0) events)

-- of a job alone
unfoldable pub job_event : List ℕ → ℕ → Option Step
job_event word j =
    event_with word (
    (codes "thirst", Thirst j) ∷ (codes "hunger", Hunger j) ∷ (codes "sit", Sit j) ∷ (codes "leave", Leave j) ∷ (codes "drink", Drink j)
    ∷ (codes "reach", Reach j) ∷ (codes "act", Act j) ∷ (codes "quit", Quit j) ∷ (codes "retire", Retire j) ∷ (codes "withdraw", Withdraw j) ∷ []
    )

-- of a job at one of its edges
unfoldable pub edge_event : List ℕ → ℕ → ℕ → Option Step
edge_event word j e =
    event_with word ((codes "look", Look j e) ∷ (codes "askfork", AskFork j e) ∷ (codes "givefork", GiveFork j e) ∷ (codes "soil", Soil j e) ∷ [])

-- of a job with bottles of one of its edges
unfoldable pub bottle_event : List ℕ → ℕ → ℕ → ℕ → Option Step
bottle_event word j e set = event_with word ((codes "askbottles", AskBottles j e set) ∷ (codes "givebottles", GiveBottles j e set) ∷ [])

-- of a job at another job
unfoldable pub glance_event : List ℕ → ℕ → ℕ → Option Step
glance_event word j k = event_with word ((codes "glance", Glance j k) ∷ [])

-- ---- the step of a line

abbrev pub job_step : LabPlan → List ℕ → List (List ℕ) → Option Step
job_step plan word (name ∷ []) = option_and_then (job_event word) (job_named plan name)
job_step plan word _ = None

abbrev pub edge_step : LabPlan → List ℕ → List (List ℕ) → Option Step
edge_step plan word (name ∷ other ∷ []) = option_and_then (λ p. edge_event word p.0 p.1) (edge_named plan name other)
edge_step plan word _ = None

abbrev pub bottle_step : LabPlan → List ℕ → List (List ℕ) → Option Step
bottle_step plan word (name ∷ other ∷ bottle ∷ more) =
    option_and_then (λ p. option_and_then (bottle_event word p.0 p.1) (bottle_set plan p.1 (bottle ∷ more))) (edge_named plan name other)
bottle_step plan word _ = None

abbrev pub glance_step : LabPlan → List ℕ → List (List ℕ) → Option Step
glance_step plan word (name ∷ other ∷ []) =
    option_and_then (λ j. option_and_then (λ k. if j == k then None else glance_event word j k) (job_named plan other)) (job_named plan name)
glance_step plan word _ = None

abbrev pub or_else : {A : Type 0} → Option A → Option A → Option A
or_else None other = other
or_else (Some x) other = Some x

-- the step with this word and these names, if there is one
unfoldable pub step_with : LabPlan → List ℕ → List (List ℕ) → Option Step
step_with plan word names =
    or_else (job_step plan word names) (or_else (edge_step plan word names) (or_else (bottle_step plan word names) (glance_step plan word names)))

-- a line of a step list, if it isn't skipped: its step, if it has one
abbrev pub step_among : LabPlan → List (List ℕ) → Option (Option Step)
step_among plan [] = None
step_among plan (first ∷ others) = if slice_index first 0 == 35 then None else Some (step_with plan first others)

abbrev pub step_in : LabPlan → List ℕ → Option (Option Step)
step_in plan line = step_among plan (fields line)

-- ---- step lists

-- the lines up to the first line `steps`, and those behind it
abbrev pub is_steps_line : List ℕ → Bool
is_steps_line line = has is_steps (form_of line)

abbrev pub script_part : List (List ℕ) → List (List ℕ)
script_part lines = up_to_next is_steps_line lines

abbrev pub steps_part : List (List ℕ) → List (List ℕ)
steps_part lines = drop (length (script_part lines) + 1) lines

-- the number of the line behind `steps`
abbrev pub first_step : List (List ℕ) → ℕ
first_step lines = length (script_part lines) + 2

-- the lines that aren't skipped, each with its number and its step, if it has one
abbrev pub list_of : LabPlan → ℕ → List (List ℕ) → List (ℕ × Option Step)
list_of plan first lines = numbered (step_in plan) first lines

abbrev pub placed : StepLine → ℕ × Option Step
placed step = (step.line, Some step.step)

-- the lines are these steps, and not too many
abbrev pub AreSteps : LabPlan → ℕ → List (List ℕ) → List StepLine → Type 0
AreSteps plan first lines steps = (list_of plan first lines ≡ map placed steps) × (length steps ≤ 1000000)

-- behind this many steps, the line meets the cause
abbrev pub meets_step : ℕ → Option Step → ScriptCause → Bool
meets_step count found BadStep = not (is_some found)
meets_step count found LimitPassed = nat_le 1000000 count
meets_step count found _ = false

abbrev pub step_cause : ℕ → Option Step → Option ScriptCause
step_cause count found = find (meets_step count found) (BadStep ∷ LimitPassed ∷ [])

-- the line with this number is the first that meets a cause, and this is its first
abbrev pub IsFaultInSteps : LabPlan → ℕ → List (List ℕ) → ℕ → ScriptCause → Type 0
IsFaultInSteps plan first lines number cause =
    (front : List StepLine) × (found : Option Step) × (back : List (ℕ × Option Step))
    × (list_of plan first lines ≡ map placed front ++ (number, found) ∷ back) × (length front ≤ 1000000) × (step_cause (length front) found ≡ Some cause)

-- no line up to this one meets a cause
abbrev pub AreCleanUpTo : LabPlan → ℕ → List (List ℕ) → ℕ → Type 0
AreCleanUpTo plan first lines number =
    (front : List StepLine) × (found : Option Step) × (back : List (ℕ × Option Step))
    × (list_of plan first lines ≡ map placed front ++ (number, found) ∷ back) × (length front ≤ 1000000) × (step_cause (length front) found ≡ None)

abbrev pub RefusesSteps : LabPlan → ℕ → List (List ℕ) → ScriptFault → Type 0
RefusesSteps plan first lines fault =
    ((fault.cause ≡ NoMemory) × AreCleanUpTo plan first lines fault.line) ⊎ IsFaultInSteps plan first lines fault.line fault.cause

-- what the reader answers at a line of a step list, and the steps that it has then
abbrev pub ReadsStep : List StepLine → ℕ → Option (Option Step) → Result (Unit {0}) ScriptCause → List StepLine → Type 0
ReadsStep old number None (Ok _) new = new ≡ old
ReadsStep old number None (Err cause) new = ⊥
ReadsStep old number (Some None) (Ok _) new = ⊥
ReadsStep old number (Some (Some step)) (Ok _) new = (step_cause (length old) (Some step) ≡ None) × (new ≡ old ++ record { line = number; step = step } ∷ [])
ReadsStep old number (Some found) (Err NoMemory) new = step_cause (length old) found ≡ None
ReadsStep old number (Some found) (Err cause) new = step_cause (length old) found ≡ Some cause

-- ---- texts

-- the text is a script of this plan and a list of these steps
abbrev pub StepsMean : List ℕ → LabPlan → List StepLine → Type 0
StepsMean text plan steps =
    let lines = text_lines text in
    LinesMean (script_part lines) plan × AreSteps plan (first_step lines) (steps_part lines) steps

-- the text is no script with a list of steps, and this is its fault: that of the script, or else of the steps
abbrev pub StepsFault : List ℕ → ℕ → ScriptCause → Type 0
StepsFault text number cause =
    let lines = text_lines text in
    IsFaultOfLines (script_part lines) number cause
    ⊎ ((plan : LabPlan) × LinesMean (script_part lines) plan × IsFaultInSteps plan (first_step lines) (steps_part lines) number cause)

-- why a text is refused: its fault, or that memory ran out before there was one
abbrev pub StepsRefuse : List ℕ → ScriptFault → Type 0
StepsRefuse text fault =
    let lines = text_lines text in
    Refuses (script_part lines) fault ⊎ ((plan : LabPlan) × LinesMean (script_part lines) plan × RefusesSteps plan (first_step lines) (steps_part lines) fault)
