-- Each step of a step list is a step of the plan: its jobs and its edge are the plan's.
use Rattle.std.proofs.Common.{◌≡◌, ℕ, ◌+◌, ◌<◌, List, [], ◌∷◌, length, refl, ⊎_elim, subst}
use Rattle.std.specs.Prelude.{Option, None, Some, IfSome, map, min, max, slice_index, codes, ◌==◌, ◌&&◌}
use Rattle.std.specs.List.{All, AllByRecursion, cons_option}
use Rattle.std.specs.Option.{option_map, option_and_then}
use Rattle.std.specs.Str.{bytes_eq}
use Rattle.std.proofs.lemmas.Bool.{cases_Bool}
use Rattle.std.proofs.lemmas.List.Elements.{All-from_recursion}
use Rattle.std.proofs.lemmas.List.Quantifiers.{position-Some}
use Rattle.lab_plan.specs.LabPlan.{JobPlan, LabPlan, edges, no_job}
use Rattle.legal_steps.specs.declared.event.Step.{Step}
use Rattle.legal_steps.specs.declared.event.Step.TheVariants.{Look, AskFork, GiveFork, Soil, AskBottles, GiveBottles, Thirst, Hunger, Sit, Leave, Drink, Reach, Act, Quit, Retire, Glance, Withdraw}
use Rattle.legal_steps.specs.declared.event.StepLine.{StepLine}
use Rattle.legal_steps.specs.Steps.{IsStepOf}
use Rattle.script_reader.specs.Steps.{job_named, edge_between, edge_named, bottle_set, event_with, job_event, edge_event, bottle_event, glance_event, job_step, edge_step, bottle_step, glance_step, or_else, step_with, step_among, step_in, list_of, placed}
use Rattle.script_reader.specs.Fields.{fields}

-- ---- what an option has, if it has something

known : {A : Type 0} (P : A → Type 0) (o : Option A) → ((x : A) → o ≡ Some x → P x) → IfSome o P
known P None h = tt
known P (Some x) h = h x refl

then_has : {A B : Type 0} (P : A → Type 0) (Q : B → Type 0) (f : A → Option B) (o : Option A)
    → IfSome o P → ((x : A) → P x → IfSome (f x) Q) → IfSome (option_and_then f o) Q
then_has P Q f None h k = tt
then_has P Q f (Some x) h k = k x h

mapped_has : {A B : Type 0} (P : A → Type 0) (Q : B → Type 0) (f : A → B) (o : Option A) → IfSome o P → ((x : A) → P x → Q (f x)) → IfSome (option_map f o) Q
mapped_has P Q f None h k = tt
mapped_has P Q f (Some x) h k = k x h

either_has : {A : Type 0} (P : A → Type 0) (a b : Option A) → IfSome a P → IfSome b P → IfSome (or_else a b) P
either_has P None b h k = k
either_has P (Some x) b h k = h

-- ---- names

abbrev IsJobOf : LabPlan → ℕ → Type 0
IsJobOf plan j = j < length plan.jobs

abbrev IsAtEdgeOf : LabPlan → ℕ × ℕ → Type 0
IsAtEdgeOf plan p = (p.0 < length plan.jobs) × (p.1 < length (edges plan))

own_job : (plan : LabPlan) (name : List ℕ) → IfSome (job_named plan name) (IsJobOf plan)
own_job plan name = known (IsJobOf plan) (job_named plan name) (λ j is. (position-Some (λ (job : JobPlan). bytes_eq name job.name) plan.jobs j no_job is).0)

own_edge : (plan : LabPlan) (a b : ℕ) → IfSome (edge_between plan a b) (λ e. e < length (edges plan))
own_edge plan a b = known (λ e. e < length (edges plan)) (edge_between plan a b)
    (λ e is. (position-Some (λ (pair : ℕ × ℕ). (pair.0 == min a b) && (pair.1 == max a b)) (edges plan) e (0, 0) is).0)

own_end : (plan : LabPlan) (name other : List ℕ) → IfSome (edge_named plan name other) (IsAtEdgeOf plan)
own_end plan name other =
    then_has (IsJobOf plan) (IsAtEdgeOf plan) _ (job_named plan name) (own_job plan name)
    (λ j own. then_has (IsJobOf plan) (IsAtEdgeOf plan) _ (job_named plan other) (own_job plan other)
    (λ k _. mapped_has (λ e. e < length (edges plan)) (IsAtEdgeOf plan) _ (edge_between plan j k) (own_edge plan j k) (λ e inside. (own, inside))))

-- ---- words

event_has : (P : Step → Type 0) (word : List ℕ) (events : List (List ℕ × Step))
    → AllByRecursion (λ (event : List ℕ × Step). P event.1) events → IfSome (event_with word events) P
event_has P word [] h = tt
event_has P word (event ∷ events) h = ⊎_elim (λ is. rw is h.0) (λ is. rw is (event_has P word events h.1)) (cases_Bool (bytes_eq word event.0))

own_job_event : (plan : LabPlan) (word : List ℕ) (j : ℕ) → IsJobOf plan j → IfSome (job_event word j) (IsStepOf plan)
unfolding job_event
own_job_event plan word j own =
    event_has (IsStepOf plan) word (
    (codes "thirst", Thirst j) ∷ (codes "hunger", Hunger j) ∷ (codes "sit", Sit j) ∷ (codes "leave", Leave j) ∷ (codes "drink", Drink j)
    ∷ (codes "reach", Reach j) ∷ (codes "act", Act j) ∷ (codes "quit", Quit j) ∷ (codes "retire", Retire j) ∷ (codes "withdraw", Withdraw j) ∷ []
    ) (own, (own, (own, (own, (own, (own, (own, (own, (own, (own, tt))))))))))

own_edge_event : (plan : LabPlan) (word : List ℕ) (j e : ℕ) → IsAtEdgeOf plan (j, e) → IfSome (edge_event word j e) (IsStepOf plan)
unfolding edge_event
own_edge_event plan word j e own =
    event_has (IsStepOf plan)
    word ((codes "look", Look j e) ∷ (codes "askfork", AskFork j e) ∷ (codes "givefork", GiveFork j e) ∷ (codes "soil", Soil j e) ∷ [])
    (own, (own, (own, (own, tt))))

own_bottle_event : (plan : LabPlan) (word : List ℕ) (j e set : ℕ) → IsAtEdgeOf plan (j, e) → IfSome (bottle_event word j e set) (IsStepOf plan)
unfolding bottle_event
own_bottle_event plan word j e set own =
    event_has (IsStepOf plan) word ((codes "askbottles", AskBottles j e set) ∷ (codes "givebottles", GiveBottles j e set) ∷ []) (own, (own, tt))

own_glance_event : (plan : LabPlan) (word : List ℕ) (j k : ℕ) → IsJobOf plan j → IsJobOf plan k → IfSome (glance_event word j k) (IsStepOf plan)
unfolding glance_event
own_glance_event plan word j k own there = event_has (IsStepOf plan) word ((codes "glance", Glance j k) ∷ []) ((own, there), tt)

-- ---- the step of a line

own_job_step : (plan : LabPlan) (word : List ℕ) (names : List (List ℕ)) → IfSome (job_step plan word names) (IsStepOf plan)
own_job_step plan word [] = tt
own_job_step plan word (name ∷ []) =
    then_has (IsJobOf plan) (IsStepOf plan) (job_event word) (job_named plan name) (own_job plan name) (own_job_event plan word)
own_job_step plan word (name ∷ other ∷ more) = tt

own_edge_step : (plan : LabPlan) (word : List ℕ) (names : List (List ℕ)) → IfSome (edge_step plan word names) (IsStepOf plan)
own_edge_step plan word [] = tt
own_edge_step plan word (name ∷ []) = tt
own_edge_step plan word (name ∷ other ∷ []) =
    then_has (IsAtEdgeOf plan) (IsStepOf plan) _ (edge_named plan name other) (own_end plan name other) (λ p own. own_edge_event plan word p.0 p.1 own)
own_edge_step plan word (name ∷ other ∷ bottle ∷ more) = tt

own_bottle_step : (plan : LabPlan) (word : List ℕ) (names : List (List ℕ)) → IfSome (bottle_step plan word names) (IsStepOf plan)
own_bottle_step plan word [] = tt
own_bottle_step plan word (name ∷ []) = tt
own_bottle_step plan word (name ∷ other ∷ []) = tt
own_bottle_step plan word (name ∷ other ∷ bottle ∷ more) =
    then_has (IsAtEdgeOf plan) (IsStepOf plan) _ (edge_named plan name other) (own_end plan name other)
    (λ p own. then_has (λ _. Unit {0}) (IsStepOf plan) (bottle_event word p.0 p.1) (bottle_set plan p.1 (bottle ∷ more))
    (known (λ _. Unit {0}) _ (λ _ _. tt)) (λ set _. own_bottle_event plan word p.0 p.1 set own))

own_glance_step : (plan : LabPlan) (word : List ℕ) (names : List (List ℕ)) → IfSome (glance_step plan word names) (IsStepOf plan)
own_glance_step plan word [] = tt
own_glance_step plan word (name ∷ []) = tt
own_glance_step plan word (name ∷ other ∷ []) =
    then_has (IsJobOf plan) (IsStepOf plan) _ (job_named plan name) (own_job plan name)
    (λ j own. then_has (IsJobOf plan) (IsStepOf plan) _ (job_named plan other) (own_job plan other)
    (λ k there. ⊎_elim (λ is. rw is tt) (λ is. rw is (own_glance_event plan word j k own there)) (cases_Bool (j == k))))
own_glance_step plan word (name ∷ other ∷ bottle ∷ more) = tt

own_step : (plan : LabPlan) (word : List ℕ) (names : List (List ℕ)) → IfSome (step_with plan word names) (IsStepOf plan)
unfolding step_with
own_step plan word names =
    either_has (IsStepOf plan) (job_step plan word names) _ (own_job_step plan word names)
    (either_has (IsStepOf plan) (edge_step plan word names) _ (own_edge_step plan word names)
    (either_has (IsStepOf plan) (bottle_step plan word names) (glance_step plan word names)
    (own_bottle_step plan word names) (own_glance_step plan word names)))

abbrev IsOwn : LabPlan → Option Step → Type 0
IsOwn plan found = IfSome found (IsStepOf plan)

own_among : (plan : LabPlan) (names : List (List ℕ)) → IfSome (step_among plan names) (IsOwn plan)
own_among plan [] = tt
own_among plan (first ∷ others) = ⊎_elim (λ is. rw is tt) (λ is. rw is (own_step plan first others)) (cases_Bool (slice_index first 0 == 35))

-- ---- the steps of a list

abbrev AreOwn : LabPlan → List (ℕ × Option Step) → Type 0
AreOwn plan list = AllByRecursion (λ (line : ℕ × Option Step). IsOwn plan line.1) list

one_more : (plan : LabPlan) (n : ℕ) (form : Option (Option Step)) (list : List (ℕ × Option Step))
    → IfSome form (IsOwn plan) → AreOwn plan list → AreOwn plan (cons_option (option_map (λ found. (n, found)) form) list)
one_more plan n None list h k = k
one_more plan n (Some found) list h k = (h, k)

own_list : (plan : LabPlan) (first : ℕ) (lines : List (List ℕ)) → AreOwn plan (list_of plan first lines)
own_list plan first [] = tt
own_list plan first (line ∷ lines) =
    one_more plan first (step_in plan line) (list_of plan (first + 1) lines) (own_among plan (fields line)) (own_list plan (first + 1) lines)

own_placed : (plan : LabPlan) (steps : List StepLine) → AreOwn plan (map placed steps) → AllByRecursion (λ (line : StepLine). IsStepOf plan line.step) steps
own_placed plan [] h = tt
own_placed plan (step ∷ steps) h = (h.0, own_placed plan steps h.1)

pub own_steps : (plan : LabPlan) (first : ℕ) (lines : List (List ℕ)) (steps : List StepLine)
    → list_of plan first lines ≡ map placed steps → All (λ (line : StepLine). IsStepOf plan line.step) steps
own_steps plan first lines steps is =
    All-from_recursion (λ (line : StepLine). IsStepOf plan line.step) steps (own_placed plan steps (subst (AreOwn plan) is (own_list plan first lines)))
