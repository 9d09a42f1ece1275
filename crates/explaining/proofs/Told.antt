-- What is told of a replay from the initial state.
use Rattle.std.proofs.Common.{◌≡◌, ℕ, ◌<◌, List, length, take, slice_index_or, arith, refl, sym, ap, ◌∙◌, subst}
use Rattle.std.specs.Prelude.{slice_get, Some}
use Rattle.std.specs.List.{All}
use Rattle.std.proofs.lemmas.Option.{slice_get_read}
use Rattle.lab_plan.specs.LabPlan.{LabPlan}
use Rattle.legal_steps.specs.declared.event.StepLine.{StepLine}
use Rattle.legal_steps.specs.Legal.{May}
use Rattle.legal_steps.specs.Steps.{IsStepOf, event_of, step_events}
use Rattle.legal_steps.specs.Opening.{the_opening}
use Rattle.legal_steps.specs.Run.{StopsAt}
use Rattle.interleaving.specs.World.{WorldView, LeadsTo}
use Rattle.interleaving.specs.Start.{at_start}
use Rattle.interleaving.proofs.StepsLemmas.{steps_of, step_events_length, event_here}
use Rattle.explaining.specs.Explanations.{TellsStep, TellsEnd, TellsRefusal, TellsAll}

pub told_all : (plan : LabPlan) (lines : List StepLine) (old new : WorldView) (count : ℕ) (text : List ℕ) → old ≡ at_start plan (the_opening plan)
    → count ≡ length (step_events old.plan old.state (steps_of lines)) → LeadsTo old (step_events old.plan old.state (steps_of lines)) new
    → TellsEnd new.plan new.state count text → TellsAll plan lines text
told_all plan lines old new count text start counted led tells =
    let led' : LeadsTo (at_start plan (the_opening plan)) (step_events plan (the_opening plan) (steps_of lines)) new =
    subst (λ (w : WorldView). LeadsTo w (step_events w.plan w.state (steps_of lines)) new) start led in
    let all : count ≡ length lines = counted ∙ step_events_length old.plan old.state lines in
    record {
      state = new.state;
      runs = led'.run;
      tells = subst (λ p. TellsEnd p new.state (length lines) text) led'.same_plan (subst (λ n. TellsEnd new.plan new.state n text) all tells);
    }

pub told_refusal : (plan : LabPlan) (lines : List StepLine) (old new : WorldView) (place : ℕ) (line : StepLine) (text : List ℕ)
    → old ≡ at_start plan (the_opening plan)
    → StopsAt old.plan old.state (step_events old.plan old.state (steps_of lines)) place new.state
    → LeadsTo old (take place (step_events old.plan old.state (steps_of lines))) new
    → place < length lines → line ≡ slice_index_or lines place line → TellsStep new.plan new.state line text → TellsRefusal plan lines line.line text
told_refusal plan lines old new place line text start stops led inside is tells =
    let same : new.plan ≡ plan = led.same_plan ∙ ap (λ (w : WorldView). w.plan) start in
    record {
      place = place;
      state = new.state;
      stops = subst (λ (w : WorldView). StopsAt w.plan w.state (step_events w.plan w.state (steps_of lines)) place new.state) start stops;
      line = line;
      there = slice_get_read lines (length lines) place line refl inside is;
      numbered = refl;
      tells = subst (λ p. TellsStep p new.state line text) same tells;
    }

-- the step there isn't legal
pub not_legal : (lines : List StepLine) (old new : WorldView) (place : ℕ) (line : StepLine)
    → StopsAt old.plan old.state (step_events old.plan old.state (steps_of lines)) place new.state
    → LeadsTo old (take place (step_events old.plan old.state (steps_of lines))) new
    → place < length lines → line ≡ slice_index_or lines place line → ¬ May new.plan new.state (event_of new.state line.step)
not_legal lines old new place line stops led inside is may =
    let events = step_events old.plan old.state (steps_of lines) in
    let event = event_of new.state line.step in
    let here = event_here old.plan old.state lines place line new.state event inside is stops.before.leads refl in
    let there : slice_get events place ≡ Some event =
    slice_get_read events (length events) place event refl (omega (arith, inside, step_events_length old.plan old.state lines)) here in
    stops.not_legal event there (subst (λ p. May p new.state event) led.same_plan may)

-- it is a step of the plan
pub step_there : (plan : LabPlan) (lines : List StepLine) (old new : WorldView) (place : ℕ) (line : StepLine) → old ≡ at_start plan (the_opening plan)
    → new.plan ≡ old.plan
    → All (λ (x : StepLine). IsStepOf plan x.step) lines → place < length lines → line ≡ slice_index_or lines place line → IsStepOf new.plan line.step
step_there plan lines old new place line start same all inside is =
    let here : IsStepOf plan line.step = subst (λ (x : StepLine). IsStepOf plan x.step) (sym is) (all place line inside) in
    subst (λ p. IsStepOf p line.step) (sym (same ∙ ap (λ (w : WorldView). w.plan) start)) here
