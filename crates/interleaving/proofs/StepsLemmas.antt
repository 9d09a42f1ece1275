-- The events of steps, one after another.
use Rattle.std.proofs.Common.{◌≡◌, ℕ, zero, suc, ◌<◌, List, [], ◌∷◌, length, map, take, slice_index_or, arith, refl, sym, ap, ◌∙◌}
use Rattle.std.proofs.lemmas.List.{length-map}
use Rattle.lab_plan.specs.LabPlan.{LabPlan}
use Rattle.legal_steps.specs.declared.event.Event.{Event}
use Rattle.legal_steps.specs.declared.event.Step.{Step}
use Rattle.legal_steps.specs.declared.event.StepLine.{StepLine}
use Rattle.legal_steps.specs.State.{State}
use Rattle.legal_steps.specs.Legal.{after}
use Rattle.legal_steps.specs.Run.{after_all}
use Rattle.legal_steps.specs.Steps.{event_of, step_events}

pub events_length : (plan : LabPlan) (s : State) (steps : List Step) → length (step_events plan s steps) ≡ length steps
events_length plan s [] = refl
events_length plan s (step ∷ steps) = omega (arith, events_length plan (after plan s (event_of s step)) steps)

-- the event of the step at place n, in the state that the events before it lead to
pub events_at : (plan : LabPlan) (s : State) (steps : List Step) (n : ℕ) (d : Event) (step : Step) → n < length steps
    → slice_index_or (step_events plan s steps) n d ≡ event_of (after_all plan s (take n (step_events plan s steps))) (slice_index_or steps n step)
events_at plan s [] n d step inside = absurd (omega (arith, inside))
events_at plan s (step ∷ steps) zero d other inside = refl
events_at plan s (step ∷ steps) (suc n) d other inside = events_at plan (after plan s (event_of s step)) steps n d other (omega (arith, inside))

-- the steps of some lines
abbrev pub steps_of : List StepLine → List Step
steps_of lines = map (λ (line : StepLine). line.step) lines

step_at : (lines : List StepLine) (n : ℕ) (line : StepLine) → slice_index_or (steps_of lines) n line.step ≡ (slice_index_or lines n line).step
step_at [] n line = refl
step_at (x ∷ lines) zero line = refl
step_at (x ∷ lines) (suc n) line = step_at lines n line

pub step_events_length : (plan : LabPlan) (s : State) (lines : List StepLine) → length (step_events plan s (steps_of lines)) ≡ length lines
step_events_length plan s lines = events_length plan s (steps_of lines) ∙ length-map lines (λ (line : StepLine). line.step)

-- the event of the line at place n
pub event_here : (plan : LabPlan) (s : State) (lines : List StepLine) (n : ℕ) (line : StepLine) (now : State) (event : Event)
    → n < length lines → line ≡ slice_index_or lines n line
    → now ≡ after_all plan s (take n (step_events plan s (steps_of lines)))
    → event ≡ event_of now line.step → event ≡ slice_index_or (step_events plan s (steps_of lines)) n event
event_here plan s lines n line now event inside is led here =
    let steps = steps_of lines in
    let there : n < length steps = omega (arith, inside, length-map lines (λ (line : StepLine). line.step)) in
    here ∙ (ap (λ r. event_of r line.step) led
    ∙ (ap (λ (x : StepLine). event_of (after_all plan s (take n (step_events plan s steps))) x.step) is
    ∙ (ap (event_of (after_all plan s (take n (step_events plan s steps)))) (sym (step_at lines n line))
    ∙ sym (events_at plan s steps n event line.step there))))
