-- For readers: what `trace N` writes for a script: the script with the steps of its run by rounds. A script that has steps goes on from there.
use Rattle.std.specs.Prelude.{◌≡◌, ◌≢◌, ◌≤◌, ◌⊎◌, ℕ, Bool, ◌&&◌, nat_le, List, ◌++◌, length, drop, Option, Result, map}
use Rattle.std.specs.List.{flat_map}
use Rattle.lab_plan.specs.LabPlan.{LabPlan}
use Rattle.legal_steps.specs.declared.event.Event.{Event}
use Rattle.legal_steps.specs.declared.event.StepLine.{StepLine}
use Rattle.legal_steps.specs.Steps.{step_events}
use Rattle.legal_steps.specs.Opening.{the_opening}
use Rattle.script_reader.specs.declared.fault.ScriptCause.{ScriptCause}
use Rattle.script_reader.specs.declared.fault.ScriptCause.TheVariants.{UnknownWord}
use Rattle.script_reader.specs.Script.{text_lines, ScriptMeans, Refuses}
use Rattle.script_reader.specs.Steps.{StepsMean, StepsFault, StepsRefuse}
use Rattle.written_steps.specs.StepLists.{script_head, lacking_end, step_line, steps_behind}
use Rattle.report.specs.Events.{report_after, retired_after}
use Rattle.round_trace.specs.StepsOf.{step_of}
use Rattle.round_trace.specs.Traces.{IsRunByRounds, GoesOnByRounds}
use Rattle.lab_program.specs.declared.faults.RunFault.{RunFault}
use Rattle.lab_program.specs.declared.faults.RunFault.TheVariants.{Script, Step}
use Rattle.lab_program.specs.declared.faults.Outcome.{Outcome}
use Rattle.lab_program.specs.Answers.{AnswersTo}
use Rattle.lab_program.specs.Reports.{outcome_of}
use Rattle.lab_runs.specs.Replays.{run_of, ReplaysScript, HasIllegalStep}
use Rattle.lab_runs.specs.Shared.{RunsInRounds}

-- the step of each event, on a line of its own
abbrev pub step_lines : LabPlan → List Event → List ℕ
step_lines plan events = flat_map (λ event. step_line plan (step_of event)) events

unfoldable pub trace_text : LabPlan → List ℕ → List Event → List ℕ
trace_text plan input events = script_head input ++ step_lines plan events

-- a replay reads so much: 1000000 steps, in 16777216 bytes
abbrev pub is_replayable : List Event → List ℕ → Bool
is_replayable history text = nat_le (length history) 1000000 && nat_le (length text) 16777216

-- The input is a script, the history is that of its run by at most this many rounds, and the text has the script and the steps of this history. If these
-- are at most 1000000, the text is read as the script's plan and exactly these steps; it is Finished if a replay reads it, otherwise Unfinished
pub record Traces (limit : ℕ) (input text : List ℕ) (outcome : Outcome) : Type 0 where
  pub plan : LabPlan
  pub means : ScriptMeans input plan
  pub history : List Event
  pub run : IsRunByRounds plan limit history
  pub written : text ≡ trace_text plan input history
  pub read_back : length history ≤ 1000000 → StepsMean text plan (steps_behind input (map step_of history))
  pub ends : outcome ≡ outcome_of (is_replayable history text)

-- ---- a script with steps goes on

-- the input, its last line ended, and further steps
unfoldable pub further_text : LabPlan → List ℕ → List Event → List ℕ
further_text plan input events = (input ++ lacking_end input) ++ step_lines plan events

-- the events behind those of the steps
abbrev pub events_behind : List StepLine → List Event → List Event
events_behind steps history = drop (length steps) history

-- The input is a script with a line `steps`, and all its steps are legal. The history is that of the steps, of the acts of the commands that are in hand
-- then, and of at most this many rounds. The text is the input with the steps of what came further; it is Finished if a replay reads so much, otherwise
-- Unfinished
pub record TracesFurther (limit : ℕ) (input text : List ℕ) (outcome : Outcome) : Type 0 where
  pub plan : LabPlan
  pub steps : List StepLine
  pub means : StepsMean input plan steps
  pub has_steps : (other : LabPlan) → ¬ ScriptMeans input other
  pub history : List Event
  pub run : GoesOnByRounds plan limit (map (λ line. line.step) steps) history
  pub begins : history ≡ run_of plan steps ++ events_behind steps history
  pub written : text ≡ further_text plan input (events_behind steps history)
  pub ends : outcome ≡ outcome_of (is_replayable history text)

-- a script alone is traced from the initial state on, one with steps from where they lead
abbrev pub WritesTrace : ℕ → List ℕ → List ℕ → Outcome → Type 0
WritesTrace limit input text outcome = Traces limit input text outcome ⊎ TracesFurther limit input text outcome

-- The fault is that of the script; or of its steps, if it has a line `steps`; or the step of this line is the first that isn't legal
abbrev pub TraceRefuses : List ℕ → RunFault → Type 0
TraceRefuses input (Script fault) = (Refuses (text_lines input) fault × (fault.cause ≢ UnknownWord)) ⊎ StepsRefuse input fault
TraceRefuses input (Step line) = HasIllegalStep input line
TraceRefuses input _ = ⊥

abbrev pub TraceAnswers : ℕ → Option (List ℕ) → Option (List ℕ) → Option (List ℕ) → Result Outcome RunFault → Type 0
TraceAnswers limit left old new result = AnswersTo (WritesTrace limit) TraceRefuses left old new result

-- ---- the trace's run is that of `labrun rounds N`

-- a trace and a run in rounds of the same input, with the same number: the report that is printed is that of the trace's history, and the events of
-- the trace's steps, taken one after another from the initial state, are this history
pub record ShowsRun (plan : LabPlan) (history : List Event) (report : List ℕ) (ended : Outcome) : Type 0 where
  pub report_is : report ≡ report_after plan (the_opening plan) history
  pub ended_is : ended ≡ outcome_of (retired_after plan (the_opening plan) history)
  pub replayed : step_events plan (the_opening plan) (map step_of history) ≡ history

abbrev pub TracesTheRun : Type 0
TracesTheRun = (limit : ℕ) (input text report : List ℕ) (outcome ended : Outcome) (t : Traces limit input text outcome) →
    RunsInRounds limit input report ended → ShowsRun t.plan t.history report ended

-- ---- a replay of a trace is the run by rounds

-- if the trace's steps aren't too many, whatever a replay reports of its text is what the run by rounds reports of the script, and no step is refused
pub record ReplaysAsRounds (text report : List ℕ) (ended : Outcome) : Type 0 where
  pub replayed : (again : List ℕ) (said : Outcome) → ReplaysScript text again said → (again ≡ report) × (said ≡ ended)
  pub all_legal : (line : ℕ) → ¬ HasIllegalStep text line
  pub no_fault : (number : ℕ) (cause : ScriptCause) → ¬ StepsFault text number cause

abbrev pub TraceIsReplayed : Type 0
TraceIsReplayed = (limit : ℕ) (input text report : List ℕ) (outcome ended : Outcome) (t : Traces limit input text outcome) → length t.history ≤ 1000000
    → RunsInRounds limit input report ended → ReplaysAsRounds text report ended
