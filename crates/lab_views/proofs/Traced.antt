-- What is written for an input whose run was traced, and what run that is.
use Rattle.std.proofs.Common.{◌≡◌, ℕ, suc, ◌+◌, ◌<◌, ◌≤◌, slice_index_or, List, [], ◌∷◌, ◌++◌, length, map, drop, refl, sym, ap, ◌∙◌, subst, inl, inr, arith}
use Rattle.std.specs.Prelude.{Some}
use Rattle.std.specs.List.{AllByRecursion}
use Rattle.std.proofs.lemmas.List.Folds.{flat_map-map}
use Rattle.std.proofs.lemmas.List.{length-map}
use Rattle.lab_plan.specs.LabPlan.{LabPlan}
use Rattle.legal_steps.specs.declared.event.Event.{Event}
use Rattle.legal_steps.specs.Opening.{the_opening}
use Rattle.script_reader.specs.declared.fault.ScriptFault.{ScriptFault}
use Rattle.script_reader.specs.declared.fault.ScriptCause.TheVariants.{UnknownWord, NoMemory}
use Rattle.script_reader.specs.Script.{text_lines, ScriptMeans, Refuses}
use Rattle.script_reader.specs.Laws.{HasOnePlan, HasPlanOrFault}
use Rattle.report.specs.Events.{report_after}
use Rattle.rounds.specs.OneRun.{RanRounds, OneRun}
use Rattle.rounds.specs.FromOpening.{fresh_players}
use Rattle.round_trace.specs.StepsOf.{StepsGiveEvents}
use Rattle.round_trace.specs.Traces.{IsRunByRounds, GoesOnByRounds}
use Rattle.lab_plan.specs.IsPlan.{IsPlan}
use Rattle.legal_steps.specs.declared.event.Step.{Step}
use Rattle.legal_steps.specs.declared.event.Event.TheVariants.{Look, AskFork, GiveFork, Soil, AskBottles, GiveBottles, Thirst, Hunger, Sit, Leave, Drink, Reach, Act, Quit, Retire, Glance, Withdraw}
use Rattle.legal_steps.specs.declared.event.StepLine.{StepLine}
use Rattle.legal_steps.specs.State.{State}
use Rattle.legal_steps.specs.Legal.{May, after}
use Rattle.legal_steps.specs.Steps.{step_events, event_of}
use Rattle.legal_steps.specs.Run.{IsLegalFrom, StopsAt, after_all}
use Rattle.script_reader.specs.Laws.{HasOneList, HasListOrFault}
use Rattle.script_reader.specs.Steps.{StepsMean}
use Rattle.round_trace.specs.StepsOf.{step_of}
use Rattle.report.specs.Events.{retired_after}
use Rattle.lab_program.specs.declared.faults.Outcome.{Outcome}
use Rattle.lab_program.specs.Reports.{outcome_of}
use Rattle.lab_runs.specs.Replays.{run_of, HasIllegalStep}
use Rattle.lab_runs.proofs.Replayed.{line_at}
use Rattle.written_steps.specs.ReadBack.{IsNameable}
use Rattle.written_steps.specs.StepLists.{script_head, step_line, steps_behind, lines_from_here}
use Rattle.written_steps.proofs.ListsBack.{list_read_back}
use Rattle.round_trace.proofs.InHand.{never_stops}
use Rattle.round_trace.proofs.Taken.{begins_with, as_many, legal_behind}
use Rattle.lab_views.specs.Traces.{trace_text, further_text, events_behind, is_replayable, Traces, TracesFurther, TracesTheRun, TraceIsReplayed}

-- ---- the text is read back

nameable : (plan : LabPlan) (s : State) (event : Event) → May plan s event → IsNameable plan (step_of event)
nameable plan s (Look j e seen) may = may.0
nameable plan s (AskFork j e) may = may.0
nameable plan s (GiveFork j e) may = may.0
nameable plan s (Soil j e) may = may.0
nameable plan s (AskBottles j e set) may = (may.0, may.2)
nameable plan s (GiveBottles j e set) may = (may.0, may.1)
nameable plan s (Thirst j) may = may.0
nameable plan s (Hunger j) may = may.0
nameable plan s (Sit j) may = may.0
nameable plan s (Leave j) may = may.0
nameable plan s (Drink j) may = may.0
nameable plan s (Reach j) may = may.0
nameable plan s (Act j) may = may.0
nameable plan s (Quit j) may = may.0
nameable plan s (Retire j) may = may.0
nameable plan s (Glance j other seen) may = (may.0, may.1, may.2)
nameable plan s (Withdraw j) may = may.0

all_nameable : (plan : LabPlan) (s : State) (events : List Event) → IsLegalFrom plan s events → AllByRecursion (IsNameable plan) (map step_of events)
all_nameable plan s [] legal = tt
all_nameable plan s (event ∷ events) legal = (nameable plan s event legal.0, all_nameable plan (after plan s event) events legal.1)

back : (plan : LabPlan) (input : List ℕ) (events : List Event) → IsPlan plan → ScriptMeans input plan → IsLegalFrom plan (the_opening plan) events
    → length events ≤ 1000000 → StepsMean (trace_text plan input events) plan (steps_behind input (map step_of events))
unfolding trace_text
back plan input events is means legal few =
    let steps = map step_of events in
    let size = length-map events step_of in
    subst (λ l. StepsMean (script_head input ++ l) plan (steps_behind input steps)) (flat_map-map (step_line plan) step_of events)
    (list_read_back plan input steps is means (all_nameable plan (the_opening plan) events legal) (omega (arith, few, size)))

pub traced : (limit : ℕ) (input : List ℕ) (plan : LabPlan) (seen events : List Event) (sent text : List ℕ) → seen ≡ events → sent ≡ text → IsPlan plan →
    ScriptMeans input plan → IsRunByRounds plan limit events → text ≡ trace_text plan input seen → Traces limit input sent (outcome_of (is_replayable events sent))
traced limit input plan seen events sent text same whole is means run written =
    let is_text : sent ≡ trace_text plan input events = whole ∙ (written ∙ ap (trace_text plan input) same) in
    record {
      plan = plan;
      means = means;
      history = events;
      run = run;
      written = is_text;
      read_back = λ few. subst (λ l. StepsMean l plan (steps_behind input (map step_of events))) (sym is_text) (back plan input events is means run.rounds.legal few);
      ends = refl;
    }

-- the same, with the outcome that was reckoned
pub traced_as : (limit : ℕ) (input : List ℕ) (plan : LabPlan) (seen events : List Event) (sent text : List ℕ) → seen ≡ events → sent ≡ text → IsPlan plan →
    ScriptMeans input plan → IsRunByRounds plan limit events → text ≡ trace_text plan input seen → (judged : List Event) (weighed : List ℕ) (outcome : Outcome)
    → judged ≡ events → weighed ≡ text → outcome ≡ outcome_of (is_replayable judged weighed) → Traces limit input sent outcome
traced_as limit input plan seen events sent text same whole is means run written judged weighed outcome j w reckoned =
    subst (Traces limit input sent) (sym (reckoned ∙ (λ i. outcome_of (is_replayable (j i) ((w ∙ sym whole) i)))))
    (traced limit input plan seen events sent text same whole is means run written)

pub traces_the_run : HasOnePlan → OneRun → StepsGiveEvents → TracesTheRun
traces_the_run one_plan one gives limit input text report outcome ended t r =
    let p : LabPlan = r.by_turns.plan in let q : LabPlan = t.plan in let h : List Event = r.by_turns.history in
    let same_plan : p ≡ q = one_plan input p q r.by_turns.means t.means in
    let moved : RanRounds q limit (fresh_players (length q.jobs)) [] r.ended r.number h = subst (λ (z : LabPlan). RanRounds z limit (fresh_players
    (length z.jobs)) [] r.ended r.number h) same_plan r.rounds in
    let same : h ≡ t.history = (one q limit (fresh_players (length q.jobs)) [] r.ended t.run.ended r.number t.run.number h t.history moved t.run.rounds).2 in
    record {
      report_is = r.by_turns.reported.report ∙ (λ i. report_after (same_plan i) (the_opening (same_plan i)) (same i));
      ended_is = r.by_turns.reported.ends ∙ (λ i. outcome_of (retired_after (same_plan i) (the_opening (same_plan i)) (same i)));
      replayed = gives q (the_opening q) t.history t.run.rounds.legal;
    }

-- ---- a replay of it

steps_here : (n : ℕ) (steps : List Step) → map (λ (line : StepLine). line.step) (lines_from_here n steps) ≡ steps
steps_here n [] = refl
steps_here n (step ∷ steps) = ap (λ l. step ∷ l) (steps_here (n + 1) steps)

pub trace_is_replayed : HasOneList → HasListOrFault → TracesTheRun → TraceIsReplayed
trace_is_replayed one_list either shows limit input text report outcome ended t few r =
    let run = shows limit input text report outcome ended t r in
    let q = t.plan in
    let h = t.history in
    let steps = steps_behind input (map step_of h) in
    let means = t.read_back few in
    let events : run_of q steps ≡ h = ap (step_events q (the_opening q)) (steps_here _ (map step_of h)) ∙ run.replayed in
    record {
      replayed = λ again said z.
          let same = one_list text z.plan q z.steps steps z.means means in
          let whole : run_of z.plan z.steps ≡ h = (λ i. run_of (same.0 i) (same.1 i)) ∙ events in (
            z.reported.report ∙ (λ i. report_after (same.0 i) (the_opening (same.0 i)) (whole i)) ∙ sym run.report_is,
            z.reported.ends ∙ (λ i. outcome_of (retired_after (same.0 i) (the_opening (same.0 i)) (whole i))) ∙ sym run.ended_is,
          );
      all_legal = λ line bad.
          let same = one_list text bad.plan q bad.steps steps bad.means means in
          let whole : run_of bad.plan bad.steps ≡ h = (λ i. run_of (same.0 i) (same.1 i)) ∙ events in
          never_stops q (the_opening q) bad.stops.state h bad.stops.place t.run.rounds.legal
          (subst (λ (p : LabPlan × List Event). StopsAt p.0 (the_opening p.0) p.1 bad.stops.place bad.stops.state) (λ i. (same.0 i, whole i)) bad.stops.stops);
      no_fault = λ number cause. either text q steps number cause means;
    }

-- ---- a step that isn't legal

run_length : (plan : LabPlan) (s : State) (lines : List StepLine)
    → length (step_events plan s (map (λ (line : StepLine). line.step) lines)) ≡ length lines
run_length plan s [] = refl
run_length plan s (line ∷ lines) = ap suc (run_length plan (after plan s (event_of s line.step)) lines)

pub inside : (plan : LabPlan) (steps : List StepLine) (place : ℕ) (s : State) → StopsAt plan (the_opening plan) (run_of plan steps) place s
    → place < length steps
inside plan steps place s stops = let n = run_length plan (the_opening plan) steps in omega (arith, stops.inside, n)

pub not_legal_at : (input : List ℕ) (plan : LabPlan) (steps : List StepLine) (place at : ℕ) (s : State) (x : StepLine)
    → StepsMean input plan steps → StopsAt plan (the_opening plan) (run_of plan steps) place s → x ≡ slice_index_or steps at x → at ≡ place
    → HasIllegalStep input x.line
not_legal_at input plan steps place at s x means stops is same = record {
  plan = plan;
  steps = steps;
  means = means;
  stops = record {
    place = place;
    state = s;
    stops = stops;
    at_line = line_at steps place x (inside plan steps place s stops)
        ∙ ap (λ (z : StepLine). Some z.line) (sym (is ∙ ap (λ n. slice_index_or steps n x) same));
  };
}

-- ---- an input that is no script alone

pub not_alone : HasPlanOrFault → (input : List ℕ) (fault : ScriptFault) → Refuses (text_lines input) fault → fault.cause ≡ UnknownWord
    → (other : LabPlan) → ¬ ScriptMeans input other
not_alone either input fault (inl none) word other means = let both : NoMemory ≡ UnknownWord = sym none.0 ∙ word in cc
not_alone either input fault (inr is) word other means = either input other fault.line fault.cause means is

-- ---- what is written behind steps

module _ (plan : LabPlan) (limit : ℕ) (steps : List StepLine) (history : List Event)
    (run : GoesOnByRounds plan limit (map (λ (line : StepLine). line.step) steps) history) where
  count : length (map (λ (line : StepLine). line.step) steps) ≡ length steps
  count = length-map steps (λ (line : StepLine). line.step)

  pub begins : history ≡ run_of plan steps ++ events_behind steps history
  begins = subst (λ n. history ≡ run_of plan steps ++ drop n history) count
      (begins_with plan limit (map (λ (line : StepLine). line.step) steps) history run)

  pub fits : length steps ≤ length history
  fits = let n = as_many plan limit (map (λ (line : StepLine). line.step) steps) history run in omega (arith, n, count)

  -- what came further is legal behind them
  pub legal_further : IsLegalFrom plan (after_all plan (the_opening plan) (run_of plan steps)) (events_behind steps history)
  legal_further = subst (λ n. IsLegalFrom plan (after_all plan (the_opening plan) (run_of plan steps)) (drop n history)) count
      (legal_behind plan limit (map (λ (line : StepLine). line.step) steps) history run)

  pub further : (input : List ℕ) (seen : List Event) (sent text : List ℕ) (judged : List Event) (weighed : List ℕ) (outcome : Outcome)
      → StepsMean input plan steps → ((other : LabPlan) → ¬ ScriptMeans input other) → seen ≡ events_behind steps history → sent ≡ text
      → text ≡ further_text plan input seen → judged ≡ history → weighed ≡ text → outcome ≡ outcome_of (is_replayable judged weighed)
      → TracesFurther limit input sent outcome
  further input seen sent text judged weighed outcome means has_steps behind whole written j w reckoned = record {
    plan = plan;
    steps = steps;
    means = means;
    has_steps = has_steps;
    history = history;
    run = run;
    begins = begins;
    written = whole ∙ (written ∙ ap (further_text plan input) behind);
    ends = reckoned ∙ (λ i. outcome_of (is_replayable (j i) ((w ∙ sym whole) i)));
  }

-- the events behind them, as they were seen
pub seen_behind : (steps seen given : List StepLine) (history events further : List Event) → further ≡ events_behind seen events → seen ≡ given
    → steps ≡ given → events ≡ history → further ≡ events_behind steps history
seen_behind steps seen given history events further is a b same = is ∙ (λ i. events_behind ((a ∙ sym b) i) (same i))
