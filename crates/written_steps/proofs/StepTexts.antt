-- The text of each kind of step is read back.
use Rattle.std.proofs.Common.{◌≡◌, ◌≢◌, ℕ, false, if◌then◌else◌, List, [], ◌∷◌, ◌++◌, refl, sym, ap, ◌∙◌, arith, append_assoc}
use Rattle.std.specs.Prelude.{Option, None, Some, ◌==◌, codes, slice_index}
use Rattle.std.specs.Option.{option_and_then}
use Rattle.std.proofs.lemmas.Bool.{false_from_ne_true}
use Rattle.std.proofs.lemmas.Bool.Decides.{Decides-eqb}
use Rattle.lab_plan.specs.LabPlan.{LabPlan}
use Rattle.lab_plan.specs.IsPlan.{IsPlan}
use Rattle.lab_plan.specs.Texts.{job_name}
use Rattle.legal_steps.specs.declared.event.Step.{Step}
use Rattle.legal_steps.specs.declared.event.Step.TheVariants.{Look, AskFork, GiveFork, Soil, AskBottles, GiveBottles, Thirst, Hunger, Sit, Leave, Drink, Reach, Act, Quit, Retire, Glance, Withdraw}
use Rattle.legal_steps.specs.State.{State, IsOwn}
use Rattle.legal_steps.specs.Legal.{May, IsJob, IsBottleSet}
use Rattle.legal_steps.specs.Steps.{event_of}
use Rattle.script_reader.specs.Fields.{fields}
use Rattle.script_reader.specs.Steps.{or_else, edge_named, bottle_set, job_event, edge_event, bottle_event, glance_event, glance_step, step_among, step_in, step_with}
use Rattle.step_texts.specs.Names.{other_name}
use Rattle.step_texts.specs.StepTexts.{step_text, alone_text, pair_text, bottles_text, glance_text}
use Rattle.written_steps.specs.ReadBack.{IsNameable, IsReadBack, AreLegalReadBack}
use Rattle.written_steps.proofs.NamesBack.{job_back, own_is_job, edge_back}
use Rattle.written_steps.proofs.DarkNames.{dark_job, dark_other, dark_members}
use Rattle.written_steps.proofs.SetsBack.{member_names, set_written, bottles_back, some_names}
use Rattle.written_steps.proofs.WrittenLines.{IsDark, spaced, fields_back, one_name, two_names, names_behind}

-- ---- the fields of each form

alone_is : (word name : List ℕ) → (word ++ codes " ") ++ name ≡ word ++ 32 ∷ name
alone_is word name = append_assoc word (codes " ") name

pair_is : (word name other : List ℕ) → (((word ++ codes " ") ++ name) ++ codes " ") ++ other ≡ (word ++ 32 ∷ name) ++ 32 ∷ other
pair_is word name other = append_assoc ((word ++ codes " ") ++ name) (codes " ") other ∙ ap (λ l. l ++ 32 ∷ other) (alone_is word name)

alone_fields : (plan : LabPlan) (word : List ℕ) (j : ℕ) → IsPlan plan → IsDark word → IsJob plan j
    → fields (alone_text plan word j) ≡ word ∷ job_name plan j ∷ []
alone_fields plan word j is dark job =
    ap fields (alone_is word (job_name plan j) ∙ one_name word (job_name plan j)) ∙ fields_back word (job_name plan j ∷ []) dark (dark_job plan j is job, tt)

pair_fields : (plan : LabPlan) (word : List ℕ) (j e : ℕ) → IsPlan plan → IsDark word → IsOwn plan j e
    → fields (pair_text plan word j e) ≡ word ∷ job_name plan j ∷ other_name plan j e ∷ []
pair_fields plan word j e is dark own =
    ap fields (pair_is word (job_name plan j) (other_name plan j e) ∙ two_names word (job_name plan j) (other_name plan j e))
    ∙ fields_back word (job_name plan j ∷ other_name plan j e ∷ []) dark (dark_job plan j is (own_is_job plan j e own), (dark_other plan j e is own, tt))

set_fields : (plan : LabPlan) (word : List ℕ) (j e set : ℕ) → IsPlan plan → IsDark word → IsOwn plan j e
    → fields (bottles_text plan word j e set) ≡ word ∷ job_name plan j ∷ other_name plan j e ∷ member_names plan e set
set_fields plan word j e set is dark own =
    ap (λ l. fields (pair_text plan word j e ++ l)) (set_written plan e set)
    ∙ ap (λ l. fields (l ++ spaced (member_names plan e set))) (pair_is word (job_name plan j) (other_name plan j e))
    ∙ ap fields (names_behind word (job_name plan j) (other_name plan j e) (spaced (member_names plan e set)))
    ∙ fields_back word (job_name plan j ∷ other_name plan j e ∷ member_names plan e set) dark
    (dark_job plan j is (own_is_job plan j e own), (dark_other plan j e is own, dark_members plan e set is))

-- ---- the step of each form

-- a word of bytes that isn't a comment's, with names behind it
with_names : (plan : LabPlan) (line word : List ℕ) (names : List (List ℕ)) (step : Step) → (slice_index word 0 == 35) ≡ false
    → fields line ≡ word ∷ names → step_with plan word names ≡ Some step → step_in plan line ≡ Some (Some step)
with_names plan line word names step plain cut found =
    ap (step_among plan) cut ∙ (λ i. if plain i then None else Some (found i))

alone_back : (plan : LabPlan) (word : List ℕ) (j : ℕ) (step : Step) → IsPlan plan → IsDark word → IsJob plan j → (slice_index word 0 == 35) ≡ false
    → job_event word j ≡ Some step → step_in plan (alone_text plan word j) ≡ Some (Some step)
unfolding step_with
alone_back plan word j step is dark job plain known =
    with_names plan (alone_text plan word j) word (job_name plan j ∷ []) step plain (alone_fields plan word j is dark job)
    (rw (job_back plan j is job) (rw known refl))

pair_back : (plan : LabPlan) (word : List ℕ) (j e : ℕ) (step : Step) → IsPlan plan → IsDark word → IsOwn plan j e → (slice_index word 0 == 35) ≡ false
    → edge_event word j e ≡ Some step → step_in plan (pair_text plan word j e) ≡ Some (Some step)
unfolding step_with
pair_back plan word j e step is dark own plain known =
    with_names plan (pair_text plan word j e) word (job_name plan j ∷ other_name plan j e ∷ []) step plain (pair_fields plan word j e is dark own)
    (ap (λ o. or_else (option_and_then (λ p. edge_event word p.0 p.1) o) (glance_step plan word (job_name plan j ∷ other_name plan j e ∷ [])))
    (edge_back plan j e is own) ∙ rw known refl)

set_back : (plan : LabPlan) (word : List ℕ) (j e set : ℕ) (step : Step) → IsPlan plan → IsDark word → IsOwn plan j e → IsBottleSet plan e set
    → (slice_index word 0 == 35) ≡ false → bottle_event word j e set ≡ Some step → step_in plan (bottles_text plan word j e set) ≡ Some (Some step)
unfolding step_with
set_back plan word j e set step is dark own of plain known =
    let some = some_names plan e set of in
    let names = job_name plan j ∷ other_name plan j e ∷ member_names plan e set in
    with_names plan (bottles_text plan word j e set) word names step plain (set_fields plan word j e set is dark own)
    (found some.0 some.1 some.2)
  where
    found : (name : List ℕ) (names : List (List ℕ)) → member_names plan e set ≡ name ∷ names
        → step_with plan word (job_name plan j ∷ other_name plan j e ∷ member_names plan e set) ≡ Some step
    found name names same =
        ap (λ l. step_with plan word (job_name plan j ∷ other_name plan j e ∷ l)) same
        ∙ ap (λ o. or_else (option_and_then (λ p. option_and_then (bottle_event word p.0 p.1) (bottle_set plan p.1 (name ∷ names))) o) None)
        (edge_back plan j e is own)
        ∙ ap (λ l. or_else (option_and_then (bottle_event word j e) (bottle_set plan e l)) None) (sym same)
        ∙ ap (λ o. or_else (option_and_then (bottle_event word j e) o) None) (bottles_back plan e set is of)
        ∙ rw known refl

glance_back : (plan : LabPlan) (j other : ℕ) → IsPlan plan → IsJob plan j → IsJob plan other → other ≢ j
    → step_in plan (glance_text plan j other) ≡ Some (Some (Glance j other))
unfolding step_with glance_event edge_event
glance_back plan j other is job there differ =
    let word = codes "glance" in
    let names = job_name plan j ∷ job_name plan other ∷ [] in
    with_names plan (glance_text plan j other) word names (Glance j other) refl
    (ap fields (pair_is word (job_name plan j) (job_name plan other) ∙ two_names word (job_name plan j) (job_name plan other))
    ∙ fields_back word names (omega arith, refl) (dark_job plan j is job, (dark_job plan other is there, tt)))
    (no_edge (edge_named plan (job_name plan j) (job_name plan other)) (glance_step plan word names) ∙ found)
  where
    no_edge : (o : Option (ℕ × ℕ)) (rest : Option Step) → or_else (option_and_then (λ p. edge_event (codes "glance") p.0 p.1) o) rest ≡ rest
    no_edge None rest = refl
    no_edge (Some p) rest = refl

    found : glance_step plan (codes "glance") (job_name plan j ∷ job_name plan other ∷ []) ≡ Some (Glance j other)
    found = rw (job_back plan j is job) (rw (job_back plan other is there)
        (rw (false_from_ne_true (j == other) (λ t. differ (sym ((Decides-eqb j other).0 t)))) refl))

pub read_back : IsReadBack
unfolding step_text job_event edge_event bottle_event
read_back plan (Look j e) is h = pair_back plan (codes "look") j e (Look j e) is (omega arith, refl) h refl refl
read_back plan (AskFork j e) is h = pair_back plan (codes "askfork") j e (AskFork j e) is (omega arith, refl) h refl refl
read_back plan (GiveFork j e) is h = pair_back plan (codes "givefork") j e (GiveFork j e) is (omega arith, refl) h refl refl
read_back plan (Soil j e) is h = pair_back plan (codes "soil") j e (Soil j e) is (omega arith, refl) h refl refl
read_back plan (AskBottles j e set) is h = set_back plan (codes "askbottles") j e set (AskBottles j e set) is (omega arith, refl) h.0 h.1 refl refl
read_back plan (GiveBottles j e set) is h = set_back plan (codes "givebottles") j e set (GiveBottles j e set) is (omega arith, refl) h.0 h.1 refl refl
read_back plan (Thirst j) is h = alone_back plan (codes "thirst") j (Thirst j) is (omega arith, refl) h refl refl
read_back plan (Hunger j) is h = alone_back plan (codes "hunger") j (Hunger j) is (omega arith, refl) h refl refl
read_back plan (Sit j) is h = alone_back plan (codes "sit") j (Sit j) is (omega arith, refl) h refl refl
read_back plan (Leave j) is h = alone_back plan (codes "leave") j (Leave j) is (omega arith, refl) h refl refl
read_back plan (Drink j) is h = alone_back plan (codes "drink") j (Drink j) is (omega arith, refl) h refl refl
read_back plan (Reach j) is h = alone_back plan (codes "reach") j (Reach j) is (omega arith, refl) h refl refl
read_back plan (Act j) is h = alone_back plan (codes "act") j (Act j) is (omega arith, refl) h refl refl
read_back plan (Quit j) is h = alone_back plan (codes "quit") j (Quit j) is (omega arith, refl) h refl refl
read_back plan (Retire j) is h = alone_back plan (codes "retire") j (Retire j) is (omega arith, refl) h refl refl
read_back plan (Withdraw j) is h = alone_back plan (codes "withdraw") j (Withdraw j) is (omega arith, refl) h refl refl
read_back plan (Glance j other) is h = glance_back plan j other is h.0 h.1 h.2

nameable : (plan : LabPlan) (s : State) (step : Step) → May plan s (event_of s step) → IsNameable plan step
nameable plan s (Look j e) may = may.0
nameable plan s (AskFork j e) may = may.0
nameable plan s (GiveFork j e) may = may.0
nameable plan s (Soil j e) may = may.0
nameable plan s (AskBottles j e set) may = (may.0, may.2)
nameable plan s (GiveBottles j e set) may = (may.0, may.1)
nameable plan s (Thirst j) may = may.0
nameable plan s (Hunger j) may = may.0
nameable plan s (Sit j) may = may.0
nameable plan s (Leave j) may = may.0
nameable plan s (Drink j) may = may.0
nameable plan s (Reach j) may = may.0
nameable plan s (Act j) may = may.0
nameable plan s (Quit j) may = may.0
nameable plan s (Retire j) may = may.0
nameable plan s (Withdraw j) may = may.0
nameable plan s (Glance j other) may = (may.0, may.1, may.2)

pub legal_read_back : AreLegalReadBack
legal_read_back plan s step is may = read_back plan step is (nameable plan s step may)
