-- The script of a plan ends with a line's end, and steps are written alike by the plan in either version.
use Rattle.std.proofs.Common.{◌≡◌, ℕ, List, [], ◌∷◌, ◌++◌, true, refl, sym, ap, ◌∙◌, append_assoc, append-nil, arith, if◌then◌else◌}
use Rattle.std.specs.Prelude.{codes, decimal}
use Rattle.std.specs.List.{flat_map}
use Rattle.std.specs.Io.BufRead.{ends_with_byte}
use Rattle.lab_plan.specs.LabPlan.{LabPlan, SessionPlan, JobPlan, edges, common}
use Rattle.lab_plan.specs.Texts.{header_line}
use Rattle.lab_plan.specs.Upgrade.{script_text, job_text, session_text, session_line, commands_text, name_line}
use Rattle.legal_steps.specs.declared.event.Step.{Step}
use Rattle.legal_steps.specs.declared.event.Step.TheVariants.{Look, AskFork, GiveFork, Soil, AskBottles, GiveBottles, Thirst, Hunger, Sit, Leave, Drink, Reach, Act, Quit, Retire, Glance, Withdraw}
use Rattle.step_texts.specs.StepTexts.{step_text}
use Rattle.written_steps.specs.StepLists.{script_head, step_line, step_lines}
use Rattle.written_steps.proofs.TextLines.{ends_behind}
use Rattle.journal_views.specs.Journals.{upgraded}

-- ---- line ends

-- the text ends with a line feed
abbrev IsEnded : List ℕ → Type 0
IsEnded text = ends_with_byte 10 text ≡ true

ended : (front : List ℕ) → IsEnded (front ++ codes "\n")
ended front = ends_behind 10 front (codes "\n") (omega arith)

-- behind a text that is ended, others of which each is
ended_all : {A : Type 0} (write : A → List ℕ) → ((front : List ℕ) (x : A) → IsEnded (front ++ write x)) → (front : List ℕ) (xs : List A) → IsEnded front
    → IsEnded (front ++ flat_map write xs)
ended_all write each front [] h = ap (ends_with_byte 10) (append-nil front) ∙ h
ended_all write each front (x ∷ xs) h =
    ap (ends_with_byte 10) (sym (append_assoc front (write x) (flat_map write xs))) ∙ ended_all write each (front ++ write x) xs (each front x)

session_ended : (plan : LabPlan) (front : List ℕ) (session : SessionPlan) → IsEnded (front ++ session_text plan session)
session_ended plan front session =
    let begun = session_line session.patience ++ commands_text plan session.commands in
    ap (ends_with_byte 10) (sym (append_assoc front begun (codes "end\n"))) ∙ ended_end (front ++ begun)
  where
    ended_end : (before : List ℕ) → IsEnded (before ++ codes "end\n")
    ended_end before = ends_behind 10 before (codes "end\n") (omega arith)

job_ended : (plan : LabPlan) (front : List ℕ) (job : JobPlan) → IsEnded (front ++ job_text plan job)
job_ended plan front job =
    ap (ends_with_byte 10) (sym (append_assoc front (name_line job.name) (flat_map (session_text plan) job.sessions)))
    ∙ ended_all (session_text plan) (session_ended plan) (front ++ name_line job.name) job.sessions
    (ap (ends_with_byte 10) (sym (append_assoc front (codes "job " ++ job.name) (codes "\n"))) ∙ ended (front ++ (codes "job " ++ job.name)))

script_ended : (plan : LabPlan) → IsEnded (script_text plan)
script_ended plan = ended_all (job_text plan) (job_ended plan) (header_line 2) plan.jobs (ended (codes "lab " ++ decimal 2))

pub head_is : (plan : LabPlan) → script_head (script_text plan) ≡ script_text plan ++ codes "steps\n"
unfolding script_head
head_is plan =
    let text = script_text plan in
    ap (λ t. (text ++ (if t then [] else (if ends_with_byte 13 text then codes " \n" else codes "\n"))) ++ codes "steps\n") (script_ended plan)
    ∙ ap (λ l. l ++ codes "steps\n") (append-nil text)

-- ---- steps

same_text : (plan : LabPlan) (step : Step) → step_text (upgraded plan) step ≡ step_text plan step
unfolding step_text edges common
same_text plan (Look j e) = refl
same_text plan (AskFork j e) = refl
same_text plan (GiveFork j e) = refl
same_text plan (Soil j e) = refl
same_text plan (AskBottles j e set) = refl
same_text plan (GiveBottles j e set) = refl
same_text plan (Thirst j) = refl
same_text plan (Hunger j) = refl
same_text plan (Sit j) = refl
same_text plan (Leave j) = refl
same_text plan (Drink j) = refl
same_text plan (Reach j) = refl
same_text plan (Act j) = refl
same_text plan (Quit j) = refl
same_text plan (Retire j) = refl
same_text plan (Glance j other) = refl
same_text plan (Withdraw j) = refl

pub same_lines : (plan : LabPlan) (steps : List Step) → step_lines (upgraded plan) steps ≡ step_lines plan steps
unfolding step_line
same_lines plan [] = refl
same_lines plan (step ∷ steps) = λ i. (same_text plan step i ++ codes "\n") ++ same_lines plan steps i
