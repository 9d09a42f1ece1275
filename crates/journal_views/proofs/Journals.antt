-- The text of a journal's steps is read back as these steps.
use Rattle.std.proofs.Common.{◌≡◌, ℕ, ◌+◌, ◌≤◌, List, [], ◌∷◌, ◌++◌, length, map, refl, sym, ap, ◌∙◌, subst, arith}
use Rattle.std.specs.Prelude.{codes}
use Rattle.std.specs.List.{AllByRecursion}
use Rattle.std.proofs.lemmas.List.{length-map}
use Rattle.lab_plan.specs.LabPlan.{LabPlan}
use Rattle.lab_plan.specs.IsPlan.{IsPlan}
use Rattle.lab_plan.specs.Upgrade.{script_text}
use Rattle.legal_steps.specs.declared.event.Step.{Step}
use Rattle.legal_steps.specs.declared.event.Step.TheVariants.{Look, AskFork, GiveFork, Soil, AskBottles, GiveBottles, Thirst, Hunger, Sit, Leave, Drink, Reach, Act, Quit, Retire, Glance, Withdraw}
use Rattle.legal_steps.specs.declared.event.StepLine.{StepLine}
use Rattle.legal_steps.specs.State.{State}
use Rattle.legal_steps.specs.Legal.{after}
use Rattle.legal_steps.specs.Opening.{the_opening}
use Rattle.legal_steps.specs.Run.{IsLegalFrom}
use Rattle.legal_steps.specs.Steps.{event_of, step_events}
use Rattle.round_trace.specs.StepsOf.{step_of}
use Rattle.script_reader.specs.Script.{text_lines}
use Rattle.script_reader.specs.Steps.{StepsMean}
use Rattle.script_reader.specs.UpgradeLaw.{UpgradeMeansPlan}
use Rattle.explaining.specs.Explanations.{events_from_opening}
use Rattle.written_steps.specs.ReadBack.{IsNameable}
use Rattle.written_steps.specs.StepLists.{script_head, step_lines, lines_from_here, IsListReadBack}
use Rattle.journal_texts.proofs.Read.{all_nameable}
use Rattle.lab_program.specs.declared.faults.Outcome.TheVariants.{Finished}
use Rattle.journal_views.specs.Journals.{IsJournal, WritesSteps, upgraded, bare, steps_text, steps_there}
use Rattle.journal_views.proofs.Upgraded.{opens_alike, legal_too, same_events, is_plan}
use Rattle.journal_views.proofs.Texts.{head_is, same_lines}

step_back : (s : State) (step : Step) → step_of (event_of s step) ≡ step
step_back s (Look j e) = refl
step_back s (AskFork j e) = refl
step_back s (GiveFork j e) = refl
step_back s (Soil j e) = refl
step_back s (AskBottles j e set) = refl
step_back s (GiveBottles j e set) = refl
step_back s (Thirst j) = refl
step_back s (Hunger j) = refl
step_back s (Sit j) = refl
step_back s (Leave j) = refl
step_back s (Drink j) = refl
step_back s (Reach j) = refl
step_back s (Act j) = refl
step_back s (Quit j) = refl
step_back s (Retire j) = refl
step_back s (Glance j other) = refl
step_back s (Withdraw j) = refl

steps_back : (plan : LabPlan) (s : State) (steps : List Step) → map step_of (step_events plan s steps) ≡ steps
steps_back plan s [] = refl
steps_back plan s (step ∷ steps) = λ i. step_back s step i ∷ steps_back plan (after plan s (event_of s step)) steps i

bare_there : (n : ℕ) (steps : List Step) → bare (lines_from_here n steps) ≡ steps
bare_there n [] = refl
bare_there n (step ∷ steps) = ap (λ l. step ∷ l) (bare_there (n + 1) steps)

steps_written : UpgradeMeansPlan → IsListReadBack → (input : List ℕ) (plan : LabPlan) (steps : List StepLine) → IsPlan plan → IsJournal input plan steps
    → WritesSteps input (steps_text plan steps) Finished
steps_written means back input plan steps is journal =
    let script = script_text plan in
    let events = events_from_opening plan steps in
    let there = steps_there plan steps in
    let opening : State = the_opening plan in
    let legal : IsLegalFrom (upgraded plan) (the_opening (upgraded plan)) events =
    subst (λ s. IsLegalFrom (upgraded plan) s events) (sym (opens_alike plan)) (legal_too plan opening events journal.legal) in
    let nameable : AllByRecursion (IsNameable (upgraded plan)) (bare steps) =
    subst (AllByRecursion (IsNameable (upgraded plan))) (steps_back plan opening (bare steps)) (all_nameable (upgraded plan) (the_opening (upgraded plan)) events legal) in
    let few : length (bare steps) ≤ 1000000 =
    (let most = journal.means.means.1.1 in let size = length-map steps (λ (line : StepLine). line.step) in omega (arith, most, size)) in
    let text : script_head script ++ step_lines (upgraded plan) (bare steps) ≡ steps_text plan steps =
    λ i. head_is plan i ++ same_lines plan (bare steps) i in
    record {
      plan = plan;
      steps = steps;
      journal = journal;
      written = refl;
      means = subst (λ l. StepsMean l (upgraded plan) there) text (back (upgraded plan) script (bare steps) (is_plan plan is) (means plan is) nameable few);
      same_events = (λ i. step_events (upgraded plan) (opens_alike plan i) (bare_there (length (text_lines script) + 2) (bare steps) i)) ∙ same_events plan opening (bare steps);
      legal = legal;
      ends = refl;
    }

-- the same of what was sent
pub sent_steps : UpgradeMeansPlan → IsListReadBack → (input : List ℕ) (plan p q : LabPlan) (steps seen : List StepLine) (sent lines : List ℕ)
    → p ≡ plan → q ≡ plan → seen ≡ steps → sent ≡ lines → lines ≡ step_lines p (bare seen) → IsPlan plan → IsJournal input plan steps
    → WritesSteps input (script_text q ++ codes "steps\n" ++ sent) Finished
sent_steps means back input plan p q steps seen sent lines at_p at_q same whole of is journal =
    let told : sent ≡ step_lines plan (bare steps) = whole ∙ (of ∙ (λ i. step_lines (at_p i) (bare (same i)))) in
    subst (λ l. WritesSteps input l Finished) (λ i. script_text (sym at_q i) ++ codes "steps\n" ++ sym told i)
    (steps_written means back input plan steps is journal)
