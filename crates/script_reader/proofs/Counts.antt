-- Counts of lines and names among lines, as the plan has them.
use Rattle.std.proofs.Common.{◌≡◌, ℕ, Bool, true, false, ◌||◌, List, [], ◌∷◌, ◌++◌, length, refl, sym, ap, ◌∙◌, ⊎_elim, arith, suc, length-append}
use Rattle.std.specs.Prelude.{Option, nat_lt, reverse}
use Rattle.std.specs.List.{filter, filter_map, list_any}
use Rattle.std.specs.Str.{bytes_eq}
use Rattle.std.proofs.lemmas.Bool.{cases_Bool}
use Rattle.std.proofs.lemmas.Bool.Decides.{Decides-ltb}
use Rattle.std.proofs.lemmas.List.{reverse-append}
use Rattle.std.proofs.lemmas.List.Folds.{list_any-append}
use Rattle.std.proofs.lemmas.List.Elements.{filter_map-append, filter-append}
use Rattle.lab_plan.specs.LabPlan.{JobPlan}
use Rattle.script_reader.specs.Line.{Line, Header, Job, Session, PatientSession, Command, End, Steps, Unknown, is_job_line, job_name, instrument}
use Rattle.script_reader.specs.Plan.{jobs_of, job_of, instruments_of, each_with_its_lines}
use Rattle.script_reader.specs.Script.{count, is_job_there, is_instrument_there}
use Rattle.script_reader.proofs.Namings.{any_namings}

pub reversed : {A : Type 0} (x : A) (xs : List A) → reverse (x ∷ xs) ≡ reverse xs ++ x ∷ []
reversed x xs = reverse-append (x ∷ []) xs

or_comm : (a b : Bool) → (a || b) ≡ (b || a)
or_comm true true = refl
or_comm true false = refl
or_comm false true = refl
or_comm false false = refl

pub or_false : (a : Bool) → (a || false) ≡ a
or_false true = refl
or_false false = refl

any_given_reverse : {A B : Type 0} (p : B → Bool) (h : A → Option B) (xs : List A) → list_any p (filter_map h (reverse xs)) ≡ list_any p (filter_map h xs)
any_given_reverse p h [] = refl
any_given_reverse p h (x ∷ xs) =
    ap (λ l. list_any p (filter_map h l)) (reversed x xs) ∙ ap (list_any p) (filter_map-append h (reverse xs) (x ∷ []))
    ∙ list_any-append p (filter_map h (reverse xs)) (filter_map h (x ∷ []))
    ∙ or_comm (list_any p (filter_map h (reverse xs))) (list_any p (filter_map h (x ∷ [])))
    ∙ ap (λ b. list_any p (filter_map h (x ∷ [])) || b) (any_given_reverse p h xs)
    ∙ sym (list_any-append p (filter_map h (x ∷ [])) (filter_map h xs)) ∙ ap (list_any p) (sym (filter_map-append h (x ∷ []) xs))

count_reverse : {A : Type 0} (p : A → Bool) (xs : List A) → length (filter p (reverse xs)) ≡ length (filter p xs)
count_reverse p [] = refl
count_reverse p (x ∷ xs) =
    let one = ap length (sym (filter-append p (x ∷ []) xs)) in
    ap (λ l. length (filter p l)) (reversed x xs) ∙ ap length (filter-append p (reverse xs) (x ∷ []))
    ∙ (let more = count_reverse p xs in
    omega (arith, more, one, length-append (filter p (reverse xs)) (filter p (x ∷ [])), length-append (filter p (x ∷ [])) (filter p xs)))

-- a job has the name
abbrev pub has_job : List ℕ → List JobPlan → Bool
has_job name jobs = list_any (λ job. bytes_eq name job.name) jobs

names_are : (names : List (List ℕ)) (lines : List Line) (name : List ℕ)
    → list_any (bytes_eq name) (filter_map job_name lines) ≡ has_job name (jobs_of names lines)
names_are names [] name = refl
names_are names (Job other ∷ lines) name = ap (λ b. bytes_eq name other || b) (names_are names lines name)
names_are names (Header version ∷ lines) name = names_are names lines name
names_are names (Session ∷ lines) name = names_are names lines name
names_are names (PatientSession number ∷ lines) name = names_are names lines name
names_are names (Command on verb ∷ lines) name = names_are names lines name
names_are names (End ∷ lines) name = names_are names lines name
names_are names (Steps ∷ lines) name = names_are names lines name
names_are names (Unknown ∷ lines) name = names_are names lines name

pub job_there : (names : List (List ℕ)) (before : List Line) (name : List ℕ) → is_job_there before name ≡ has_job name (jobs_of names (reverse before))
job_there names before name = sym (any_given_reverse (bytes_eq name) job_name before) ∙ names_are names (reverse before) name

-- each entry is a line of the kind
entries : {B : Type 0} (kind : Line → Bool) (make : Line → List Line → B) (lines : List Line)
    → length (filter kind lines) ≡ length (each_with_its_lines kind make lines)
entries kind make [] = refl
entries kind make (x ∷ lines) = ⊎_elim (λ is. rw is (ap suc (entries kind make lines))) (λ is. rw is (entries kind make lines)) (cases_Bool (kind x))

pub job_count : (names : List (List ℕ)) (before : List Line) → count is_job_line before ≡ length (jobs_of names (reverse before))
job_count names before = sym (count_reverse is_job_line before) ∙ entries is_job_line (job_of names) (reverse before)

some_count : {A : Type 0} (p : A → Bool) (xs : List A) → list_any p xs ≡ nat_lt 0 (length (filter p xs))
some_count p [] = refl
some_count p (x ∷ xs) =
    ⊎_elim (λ is. rw is (sym ((Decides-ltb 0 (suc (length (filter p xs)))).1 (omega arith)))) (λ is. rw is (some_count p xs)) (cases_Bool (p x))

pub any_job : (names : List (List ℕ)) (before : List Line) → list_any is_job_line before ≡ nat_lt 0 (length (jobs_of names (reverse before)))
any_job names before = some_count is_job_line before ∙ ap (nat_lt 0) (job_count names before)

pub instrument_there : (before : List Line) (name : List ℕ) → is_instrument_there before name ≡ list_any (bytes_eq name) (instruments_of (reverse before))
instrument_there before name = sym (any_given_reverse (bytes_eq name) instrument before) ∙ sym (any_namings (filter_map instrument (reverse before)) name)

pub any_reverse : {A : Type 0} (p : A → Bool) (xs : List A) → list_any p (reverse xs) ≡ list_any p xs
any_reverse p [] = refl
any_reverse p (x ∷ xs) =
    ap (list_any p) (reversed x xs) ∙ list_any-append p (reverse xs) (x ∷ []) ∙ ap (λ b. list_any p (reverse xs) || b) (or_false (p x))
    ∙ or_comm (list_any p (reverse xs)) (p x) ∙ ap (λ b. p x || b) (any_reverse p xs)
