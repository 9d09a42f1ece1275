-- A script with its steps behind it is read as the plan and these steps.
use Rattle.std.proofs.Common.{◌≡◌, ℕ, suc, ◌+◌, ◌<◌, ◌≤◌, Bool, true, false, if◌then◌else◌, ◌&&◌, ◌||◌, List, [], ◌∷◌, ◌++◌, length, map, drop, refl, sym, ap, ◌∙◌, subst, ⊎_elim, arith, append_assoc, append-nil, length-append}
use Rattle.std.specs.Prelude.{Option, None, Some, reverse, codes}
use Rattle.std.specs.List.{AllByRecursion, list_all, list_any, cons_option}
use Rattle.std.specs.Option.{option_map}
use Rattle.std.specs.Io.BufRead.{ends_with_byte}
use Rattle.std.proofs.lemmas.Bool.{cases_Bool}
use Rattle.std.proofs.lemmas.List.{map-append, reverse-append}
use Rattle.std.proofs.lemmas.List.Folds.{list_all-append, list_any-append}
use Rattle.lab_plan.specs.LabPlan.{LabPlan}
use Rattle.lab_plan.specs.IsPlan.{IsPlan}
use Rattle.lab_plan.specs.Texts.{job_name}
use Rattle.legal_steps.specs.declared.event.Step.{Step}
use Rattle.legal_steps.specs.declared.event.StepLine.{StepLine}
use Rattle.legal_steps.specs.declared.event.Step.TheVariants.{Look, AskFork, GiveFork, Soil, AskBottles, GiveBottles, Thirst, Hunger, Sit, Leave, Drink, Reach, Act, Quit, Retire, Glance, Withdraw}
use Rattle.legal_steps.specs.State.{IsOwn}
use Rattle.legal_steps.specs.Legal.{IsJob}
use Rattle.script_reader.specs.Line.{Line, Header, Job, Session, PatientSession, Command, End, Steps, Unknown, form_of, line_in, line_with, is_steps}
use Rattle.script_reader.specs.Script.{text_lines, numbered, script_of, backwards, has, cause_at, cause_at_end, AreSound, LinesMean, ScriptMeans}
use Rattle.script_reader.specs.Plan.{plan_of}
use Rattle.script_reader.specs.Steps.{is_steps_line, script_part, steps_part, list_of, placed, StepsMean}
use Rattle.script_reader.proofs.ReaderLoop.{numbered-append}
use Rattle.script_reader.proofs.UpgradeText.{is_shown, dark_shown, fields_one, one_more_line, no_text}
use Rattle.script_reader.proofs.UpgradeForms.{shown_behind}
use Rattle.step_texts.specs.Names.{other_name}
use Rattle.step_texts.specs.StepTexts.{step_text, alone_text, pair_text, bottles_text, set_text}
use Rattle.written_steps.specs.ReadBack.{IsNameable}
use Rattle.written_steps.specs.StepLists.{script_head, step_line, step_lines, lines_from_here, IsListReadBack}
use Rattle.written_steps.proofs.NamesBack.{own_is_job}
use Rattle.written_steps.proofs.DarkNames.{dark_job, dark_other, dark_members}
use Rattle.written_steps.proofs.SetsBack.{member_names, set_written}
use Rattle.written_steps.proofs.StepTexts.{read_back}
use Rattle.written_steps.proofs.WrittenLines.{IsDark, spaced}
use Rattle.written_steps.proofs.TextLines.{IsOneLine, is_inside, closed, read_line, closed_lines, closed-append, closed_ends, ends_behind, not_ended, open_line, read_plain, cut, space_behind}

-- ---- the lines of the steps

-- the text of a step has no line end in it
shown_spaced : (names : List (List ℕ)) → AllByRecursion IsDark names → list_all is_shown (spaced names) ≡ true
shown_spaced [] all = refl
shown_spaced (name ∷ names) all = shown_behind name (spaced names) (dark_shown name all.0.1) (shown_spaced names all.1)

shown_alone : (plan : LabPlan) (word : List ℕ) (j : ℕ) → IsPlan plan → list_all is_shown word ≡ true → IsJob plan j
    → list_all is_shown (alone_text plan word j) ≡ true
shown_alone plan word j is shown job =
    shown_behind (word ++ codes " ") (job_name plan j) (shown_behind word (codes " ") shown refl) (dark_shown (job_name plan j) (dark_job plan j is job).1)

shown_pair : (plan : LabPlan) (word : List ℕ) (j e : ℕ) → IsPlan plan → list_all is_shown word ≡ true → IsOwn plan j e
    → list_all is_shown (pair_text plan word j e) ≡ true
shown_pair plan word j e is shown own =
    shown_behind (alone_text plan word j ++ codes " ") (other_name plan j e)
    (shown_behind (alone_text plan word j) (codes " ") (shown_alone plan word j is shown (own_is_job plan j e own)) refl)
    (dark_shown (other_name plan j e) (dark_other plan j e is own).1)

shown_set : (plan : LabPlan) (word : List ℕ) (j e set : ℕ) → IsPlan plan → list_all is_shown word ≡ true → IsOwn plan j e
    → list_all is_shown (bottles_text plan word j e set) ≡ true
shown_set plan word j e set is shown own =
    shown_behind (pair_text plan word j e) (set_text plan e set) (shown_pair plan word j e is shown own)
    (ap (list_all is_shown) (set_written plan e set) ∙ shown_spaced (member_names plan e set) (dark_members plan e set is))

pub step_shown : (plan : LabPlan) (step : Step) → IsPlan plan → IsNameable plan step → list_all is_shown (step_text plan step) ≡ true
unfolding step_text
step_shown plan (Look j e) is h = shown_pair plan (codes "look") j e is refl h
step_shown plan (AskFork j e) is h = shown_pair plan (codes "askfork") j e is refl h
step_shown plan (GiveFork j e) is h = shown_pair plan (codes "givefork") j e is refl h
step_shown plan (Soil j e) is h = shown_pair plan (codes "soil") j e is refl h
step_shown plan (AskBottles j e set) is h = shown_set plan (codes "askbottles") j e set is refl h.0
step_shown plan (GiveBottles j e set) is h = shown_set plan (codes "givebottles") j e set is refl h.0
step_shown plan (Thirst j) is h = shown_alone plan (codes "thirst") j is refl h
step_shown plan (Hunger j) is h = shown_alone plan (codes "hunger") j is refl h
step_shown plan (Sit j) is h = shown_alone plan (codes "sit") j is refl h
step_shown plan (Leave j) is h = shown_alone plan (codes "leave") j is refl h
step_shown plan (Drink j) is h = shown_alone plan (codes "drink") j is refl h
step_shown plan (Reach j) is h = shown_alone plan (codes "reach") j is refl h
step_shown plan (Act j) is h = shown_alone plan (codes "act") j is refl h
step_shown plan (Quit j) is h = shown_alone plan (codes "quit") j is refl h
step_shown plan (Retire j) is h = shown_alone plan (codes "retire") j is refl h
step_shown plan (Glance j other) is h =
    shown_behind (alone_text plan (codes "glance") j ++ codes " ") (job_name plan other)
    (shown_behind (alone_text plan (codes "glance") j) (codes " ") (shown_alone plan (codes "glance") j is refl h.0) refl)
    (dark_shown (job_name plan other) (dark_job plan other is h.1).1)
step_shown plan (Withdraw j) is h = shown_alone plan (codes "withdraw") j is refl h

lines_of_steps : (plan : LabPlan) (steps : List Step) → IsPlan plan → AllByRecursion (IsNameable plan) steps
    → text_lines (step_lines plan steps) ≡ map (step_text plan) steps
unfolding step_line
lines_of_steps plan [] is all = no_text
lines_of_steps plan (step ∷ steps) is all =
    ap text_lines (append_assoc (step_text plan step) (codes "\n") (step_lines plan steps))
    ∙ one_more_line (step_text plan step) (step_lines plan steps) (step_shown plan step is all.0)
    ∙ ap (λ l. step_text plan step ∷ l) (lines_of_steps plan steps is all.1)

-- each of them is read back, in its line
pub list_back : (plan : LabPlan) (n : ℕ) (steps : List Step) → IsPlan plan → AllByRecursion (IsNameable plan) steps
    → list_of plan n (map (step_text plan) steps) ≡ map placed (lines_from_here n steps)
list_back plan n [] is all = refl
list_back plan n (step ∷ steps) is all =
    ap (λ found. cons_option (option_map (λ it. (n, it)) found) (list_of plan (n + 1) (map (step_text plan) steps))) (read_back plan step is all.0)
    ∙ ap (λ l. (n, Some step) ∷ l) (list_back plan (n + 1) steps is all.1)

pub length_here : (n : ℕ) (steps : List Step) → length (lines_from_here n steps) ≡ length steps
length_here n [] = refl
length_here n (step ∷ steps) = ap suc (length_here (n + 1) steps)

-- ---- no line of a script is a line `steps`

steps_fault : (before : List Line) → cause_at before Steps ≡ None → ⊥
steps_fault [] h = cc
steps_fault (x ∷ before) h = cc

none_sound : (before : List Line) → AreSound before → list_any is_steps before ≡ false
none_sound [] sound = refl
none_sound (Steps ∷ before) sound = absurd (steps_fault before sound.0)
none_sound (Header version ∷ before) sound = none_sound before sound.1
none_sound (Job name ∷ before) sound = none_sound before sound.1
none_sound (Session ∷ before) sound = none_sound before sound.1
none_sound (PatientSession number ∷ before) sound = none_sound before sound.1
none_sound (Command name verb ∷ before) sound = none_sound before sound.1
none_sound (End ∷ before) sound = none_sound before sound.1
none_sound (Unknown ∷ before) sound = none_sound before sound.1

any_turned : (xs : List Line) → list_any is_steps (reverse xs) ≡ false → list_any is_steps xs ≡ false
any_turned [] h = refl
any_turned (x ∷ xs) h =
    let parts = or_parts _ _ (sym (list_any-append is_steps (reverse xs) (x ∷ [])) ∙ ap (list_any is_steps) (sym (reverse-append (x ∷ []) xs)) ∙ h) in
    (λ i. last (is_steps x) parts.1 i || any_turned xs parts.0 i)
  where
    last : (t : Bool) → (t || false) ≡ false → t ≡ false
    last true e = cc
    last false e = refl

    or_parts : (a b : Bool) → (a || b) ≡ false → (a ≡ false) × (b ≡ false)
    or_parts true b e = cc
    or_parts false b e = (refl, e)

any_form : (n : ℕ) (lines : List (List ℕ)) → list_any is_steps (map (λ (p : ℕ × Line). p.1) (numbered form_of n lines)) ≡ list_any is_steps_line lines
any_form n [] = refl
any_form n (line ∷ lines) = one (form_of line) (any_form (n + 1) lines)
  where
    one : (o : Option Line) → list_any is_steps (map (λ (p : ℕ × Line). p.1) (numbered form_of (n + 1) lines)) ≡ list_any is_steps_line lines
        → list_any is_steps (map (λ (p : ℕ × Line). p.1) (cons_option (option_map (λ (found : Line). (n, found)) o) (numbered form_of (n + 1) lines)))
        ≡ (has is_steps o || list_any is_steps_line lines)
    one None more = more
    one (Some x) more = ap (λ t. is_steps x || t) more

pub no_steps_line : (lines : List (List ℕ)) (plan : LabPlan) → LinesMean lines plan → list_any is_steps_line lines ≡ false
no_steps_line lines plan means =
    sym (any_form 1 lines) ∙ any_turned (map (λ (p : ℕ × Line). p.1) (script_of lines)) (none_sound (backwards (script_of lines)) means.0)

-- ---- the two parts of the text

part_before : (lines : List (List ℕ)) (line : List ℕ) (rest : List (List ℕ)) → list_any is_steps_line lines ≡ false → is_steps_line line ≡ true
    → script_part (lines ++ line ∷ rest) ≡ lines
part_before [] line rest none is = rw is refl
part_before (x ∷ lines) line rest none is =
    let parts = neither (is_steps_line x) (list_any is_steps_line lines) none in
    rw parts.0 (ap (λ l. x ∷ l) (part_before lines line rest parts.1 is))
  where
    neither : (a b : Bool) → (a || b) ≡ false → (a ≡ false) × (b ≡ false)
    neither true b e = cc
    neither false b e = (refl, e)

behind : (lines : List (List ℕ)) (line : List ℕ) (rest : List (List ℕ)) → drop (length lines + 1) (lines ++ line ∷ rest) ≡ rest
behind [] line rest = refl
behind (x ∷ lines) line rest = let next : length (x ∷ lines) + 1 ≡ suc (length lines + 1) = omega arith in rw next (behind lines line rest)

pub steps_form : form_of (codes "steps") ≡ Some Steps
unfolding line_with
steps_form = ap line_in (fields_one (codes "steps") refl (omega arith))

-- lines that mean a plan, a line `steps`, and lines that are steps
pub joined : (plan : LabPlan) (lines rest : List (List ℕ)) (steps : List StepLine) → LinesMean lines plan
    → list_of plan (length lines + 2) rest ≡ map placed steps → length steps ≤ 1000000 → (text : List ℕ) → text_lines text ≡ lines ++ codes "steps" ∷ rest
    → StepsMean text plan steps
joined plan lines rest steps means are few text cut =
    let line = codes "steps" in
    let part : script_part (text_lines text) ≡ lines = ap script_part cut ∙ part_before lines line rest (no_steps_line lines plan means) (ap (has is_steps) steps_form) in
    let later : steps_part (text_lines text) ≡ rest = (λ i. drop (length (part i) + 1) (cut i)) ∙ behind lines line rest in
    (subst (λ l. LinesMean l plan) (sym part) means, ((λ i. list_of plan (length (part i) + 2) (later i)) ∙ are, few))

-- ---- the lines of the head

-- lines that have the same forms mean the same
same_forms : (front : List (List ℕ)) (line other : List ℕ) (plan : LabPlan) → form_of other ≡ form_of line
    → LinesMean (front ++ line ∷ []) plan → LinesMean (front ++ other ∷ []) plan
same_forms front line other plan same means =
    subst (λ (script : List (ℕ × Line)). AreSound (backwards script) × (cause_at_end (backwards script) ≡ None) × (plan ≡ plan_of (reverse (backwards script))))
    (scripts line ∙ ap (λ o. numbered form_of 1 front ++ cons_option (option_map (λ found. (1 + length front, found)) o) []) (sym same) ∙ sym (scripts other))
    means
  where
    scripts : (last : List ℕ) → script_of (front ++ last ∷ [])
        ≡ numbered form_of 1 front ++ cons_option (option_map (λ (found : Line). (1 + length front, found)) (form_of last)) []
    scripts last = numbered-append form_of 1 front (last ∷ [])

-- what is behind lines that have their ends, the last of them with an end of its own
behind_closed : (lines : List (List ℕ)) (tail : List ℕ) → AllByRecursion IsOneLine lines
    → text_lines (closed lines ++ (codes "steps\n" ++ tail)) ≡ map read_line lines ++ codes "steps" ∷ text_lines tail
behind_closed lines tail one =
    closed_lines lines (codes "steps\n" ++ tail) one ∙ ap (λ l. map read_line lines ++ l) (one_more_line (codes "steps") tail refl)

all_and : (P : List ℕ → Type 0) (xs : List (List ℕ)) (x : List ℕ) → AllByRecursion P xs → P x → AllByRecursion P (xs ++ x ∷ [])
all_and P [] x all own = (own, tt)
all_and P (y ∷ xs) x all own = (all.0, all_and P xs x all.1 own)

no_script : (plan : LabPlan) → LinesMean [] plan → ⊥
no_script plan means = let end = means.1 in cc

-- the lines of a script that is closed by `steps`, whatever comes behind: lines that mean its plan, as many as it has, and a line `steps`
pub record IsHead (plan : LabPlan) (script head : List ℕ) : Type 0 where
  pub front : List (List ℕ)
  pub means : LinesMean front plan
  pub as_many : length front ≡ length (text_lines script)
  pub cut : (tail : List ℕ) → text_lines (head ++ tail) ≡ front ++ codes "steps" ∷ text_lines tail

-- the script ends with a line's end
whole_head : (plan : LabPlan) (lines : List (List ℕ)) → AllByRecursion IsOneLine lines → ScriptMeans (closed lines) plan
    → IsHead plan (closed lines) (script_head (closed lines))
unfolding script_head
whole_head plan [] one means = absurd (no_script plan (subst (λ l. LinesMean l plan) no_text means))
whole_head plan (line ∷ lines) one means =
    let bytes = closed (line ∷ lines) in
    let read : text_lines bytes ≡ map read_line (line ∷ lines) =
    ap text_lines (sym (append-nil bytes)) ∙ closed_lines (line ∷ lines) [] one ∙ ap (λ l. map read_line (line ∷ lines) ++ l) no_text ∙ append-nil _ in
    let head : (tail : List ℕ) → script_head bytes ++ tail ≡ bytes ++ (codes "steps\n" ++ tail) = λ tail.
    ap (λ t. (bytes ++ (if t then [] else (if ends_with_byte 13 bytes then codes " \n" else codes "\n")) ++ codes "steps\n") ++ tail) (closed_ends line lines)
    ∙ ap (λ l. (l ++ codes "steps\n") ++ tail) (append-nil bytes) ∙ append_assoc bytes (codes "steps\n") tail in record {
      front = text_lines bytes;
      means = means;
      as_many = refl;
      cut = λ tail. ap text_lines (head tail) ∙ behind_closed (line ∷ lines) tail one ∙ ap (λ l. l ++ codes "steps" ∷ text_lines tail) (sym read);
    }

-- ---- the script ends in the middle of a line

-- the lines of such a script
open_lines : (lines : List (List ℕ)) (last : List ℕ) → AllByRecursion IsOneLine lines → IsOneLine last → 0 < length last
    → text_lines (closed lines ++ last) ≡ map read_line lines ++ last ∷ []
open_lines lines last one own some = closed_lines lines last one ∙ ap (λ l. map read_line lines ++ l) (open_line last own some)

-- the lines that have their ends, and one more with its end
one_more : (lines : List (List ℕ)) (last : List ℕ) → (closed lines ++ last) ++ codes "\n" ≡ closed (lines ++ last ∷ [])
one_more lines last = append_assoc (closed lines) last (codes "\n") ∙ sym (closed-append lines (last ∷ []))

-- with this line in place of the last
ended_lines : (lines : List (List ℕ)) (last tail : List ℕ) → AllByRecursion IsOneLine lines → IsOneLine last → ends_with_byte 13 last ≡ false
    → text_lines (((closed lines ++ last) ++ codes "\n") ++ (codes "steps\n" ++ tail)) ≡ (map read_line lines ++ last ∷ []) ++ codes "steps" ∷ text_lines tail
ended_lines lines last tail one own plain =
    ap (λ l. text_lines (l ++ (codes "steps\n" ++ tail))) (one_more lines last)
    ∙ behind_closed (lines ++ last ∷ []) tail (all_and IsOneLine lines last one own)
    ∙ ap (λ l. l ++ codes "steps" ∷ text_lines tail) (map-append read_line lines (last ∷ []) ∙ ap (λ l. map read_line lines ++ l ∷ []) (read_plain last plain))

-- what a last line gets that ends with no carriage return, and with one
plain_head : (plan : LabPlan) (lines : List (List ℕ)) (last : List ℕ) → AllByRecursion IsOneLine lines → IsOneLine last → 0 < length last
    → ends_with_byte 13 last ≡ false → ScriptMeans (closed lines ++ last) plan
    → IsHead plan (closed lines ++ last) (((closed lines ++ last) ++ codes "\n") ++ codes "steps\n")
plain_head plan lines last one own some plain means =
    let bytes = closed lines ++ last in record {
      front = text_lines bytes;
      means = means;
      as_many = refl;
      cut = λ tail. ap text_lines (append_assoc (bytes ++ codes "\n") (codes "steps\n") tail) ∙ ended_lines lines last tail one own plain
          ∙ ap (λ l. l ++ codes "steps" ∷ text_lines tail) (sym (open_lines lines last one own some));
    }

spaced_head : (plan : LabPlan) (lines : List (List ℕ)) (last : List ℕ) → AllByRecursion IsOneLine lines → IsOneLine last → 0 < length last
    → ScriptMeans (closed lines ++ last) plan
    → IsHead plan (closed lines ++ last) (((closed lines ++ last) ++ codes " \n") ++ codes "steps\n")
spaced_head plan lines last one own some means =
    let bytes = closed lines ++ last in
    let other = last ++ codes " " in
    let front = map read_line lines in
    let read = open_lines lines last one own some in
    let same : form_of other ≡ form_of last = ap line_in (space_behind last) in
    let inside : IsOneLine other = list_all-append is_inside last (codes " ") ∙ (λ i. own i && true) in
    let cut : ((closed lines ++ last) ++ codes " \n") ≡ (closed lines ++ other) ++ codes "\n" =
    append_assoc (closed lines) last (codes " \n") ∙ ap (λ l. closed lines ++ l) (sym (append_assoc last (codes " ") (codes "\n")))
    ∙ sym (append_assoc (closed lines) other (codes "\n")) in record {
      front = front ++ other ∷ [];
      means = same_forms front last other plan same (subst (λ l. LinesMean l plan) read means);
      as_many = length-append front (other ∷ []) ∙ sym (length-append front (last ∷ [])) ∙ ap length (sym read);
      cut = λ tail. ap text_lines (append_assoc (bytes ++ codes " \n") (codes "steps\n") tail)
          ∙ (ap (λ l. text_lines (l ++ (codes "steps\n" ++ tail))) cut
          ∙ ended_lines lines other tail one inside (ends_behind 13 last (codes " ") (omega arith)));
    }

open_head : (plan : LabPlan) (lines : List (List ℕ)) (last : List ℕ) → AllByRecursion IsOneLine lines → IsOneLine last → 0 < length last
    → ScriptMeans (closed lines ++ last) plan → IsHead plan (closed lines ++ last) (script_head (closed lines ++ last))
unfolding script_head
open_head plan lines last one own some means =
    let bytes = closed lines ++ last in
    let Wanted : List ℕ → Type 0 = λ ending. IsHead plan bytes ((bytes ++ ending) ++ codes "steps\n") in
    let no_feed : ends_with_byte 10 bytes ≡ false = ends_behind 10 (closed lines) last some ∙ not_ended last own some in
    let at_end = ends_behind 13 (closed lines) last some in
    ⊎_elim
    (λ return. subst Wanted (sym ((λ i. lacking (no_feed i) ((at_end ∙ return) i)))) (spaced_head plan lines last one own some means))
    (λ plain. subst Wanted (sym ((λ i. lacking (no_feed i) ((at_end ∙ plain) i)))) (plain_head plan lines last one own some plain means))
    (cases_Bool (ends_with_byte 13 last))
  where
    lacking : Bool → Bool → List ℕ
    lacking feed return = if feed then [] else (if return then codes " \n" else codes "\n")

pub script_head_is : (plan : LabPlan) (script : List ℕ) → ScriptMeans script plan → IsHead plan script (script_head script)
script_head_is plan script means =
    let parts = cut script in
    subst (λ l. IsHead plan l (script_head l)) (sym parts.is.whole)
    (ended parts.lines parts.last parts.is.lines_one parts.is.last_one (subst (λ l. ScriptMeans l plan) parts.is.whole means))
  where
    ended : (lines : List (List ℕ)) (last : List ℕ) → AllByRecursion IsOneLine lines → IsOneLine last → ScriptMeans (closed lines ++ last) plan
        → IsHead plan (closed lines ++ last) (script_head (closed lines ++ last))
    ended lines [] one own means =
        let same : closed lines ++ [] ≡ closed lines = append-nil (closed lines) in
        subst (λ l. IsHead plan l (script_head l)) (sym same) (whole_head plan lines one (subst (λ l. ScriptMeans l plan) same means))
    ended lines (b ∷ last) one own means = open_head plan lines (b ∷ last) one own (omega arith) means

pub list_read_back : IsListReadBack
list_read_back plan script steps is means all few =
    let h = script_head_is plan script means in
    let first = length (text_lines script) + 2 in
    let size = length_here first steps in
    joined plan h.front (map (step_text plan) steps) (lines_from_here first steps) h.means
    (ap (λ n. list_of plan (n + 2) (map (step_text plan) steps)) h.as_many ∙ list_back plan first steps is all) (omega (arith, few, size))
    (script_head script ++ step_lines plan steps) (h.cut (step_lines plan steps) ∙ ap (λ l. h.front ++ codes "steps" ∷ l) (lines_of_steps plan steps is all))
