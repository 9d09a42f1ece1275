-- The numbers of instruments: a new name changes none that is there.
use Rattle.std.proofs.Common.{◌≡◌, ℕ, ◌+◌, Bool, true, false, if◌then◌else◌, not, ◌||◌, List, [], ◌∷◌, ◌++◌, refl, sym, ap, ◌∙◌, ⊎_elim, append-nil}
use Rattle.std.specs.Prelude.{Option, None, Some}
use Rattle.std.specs.List.{filter, filter_map, list_any, position_or_len, AllByRecursion, cons_option}
use Rattle.std.specs.Str.{bytes_eq}
use Rattle.std.proofs.lemmas.Bool.{cases_Bool, false_from_ne_true, true≢false}
use Rattle.std.proofs.lemmas.List.Elements.{filter-append}
use Rattle.std.proofs.lemmas.Slice.Eq.{bytes_eq-Decides}
use Rattle.script_reader.specs.Line.{Line, Header, Job, Session, PatientSession, Command, End, Steps, Unknown, instrument, is_job_line, is_session}
use Rattle.script_reader.specs.Plan.{up_to_next, each_with_its_lines, jobs_of, job_of, session_of, command_of, verb_of, first_namings, instruments_of}

-- ---- the first of each name

same_bytes : (a b : List ℕ) → bytes_eq a b ≡ true → a ≡ b
same_bytes a b = (bytes_eq-Decides a b).0

-- a filter that keeps what is looked for
any_kept : (name : List ℕ) (p : List ℕ → Bool) (names : List (List ℕ)) → ((x : List ℕ) → bytes_eq name x ≡ true → p x ≡ true)
    → list_any (bytes_eq name) (filter p names) ≡ list_any (bytes_eq name) names
any_kept name p [] keeps = refl
any_kept name p (x ∷ names) keeps =
    ⊎_elim
    (λ is. rw is (ap (λ b. bytes_eq name x || b) (any_kept name p names keeps)))
    (λ is. let differs : bytes_eq name x
    ≡ false = false_from_ne_true _ (λ e. true≢false (sym (keeps x e) ∙ is)) in rw (is, differs) (any_kept name p names keeps))
    (cases_Bool (p x))

-- other isn't what is looked for, so what is looked for isn't other
keeps_others : (name other : List ℕ) → bytes_eq name other ≡ false → (x : List ℕ) → bytes_eq name x ≡ true → not (bytes_eq other x) ≡ true
keeps_others name other differs x is =
    ⊎_elim
    (λ e. absurd (true≢false (sym ((bytes_eq-Decides name other).1 (same_bytes name x is ∙ sym (same_bytes other x e))) ∙ differs)))
    (λ e. ap not e)
    (cases_Bool (bytes_eq other x))

any_first : (name other : List ℕ) (names : List (List ℕ))
    → (bytes_eq name other || list_any (bytes_eq name) (filter (λ x. not (bytes_eq other x)) names)) ≡ (bytes_eq name other || list_any (bytes_eq name) names)
any_first name other names =
    ⊎_elim
    (λ is. rw is refl)
    (λ is. rw is (any_kept name (λ x. not (bytes_eq other x)) names (keeps_others name other is)))
    (cases_Bool (bytes_eq name other))

pub any_namings : (names : List (List ℕ)) (name : List ℕ) → list_any (bytes_eq name) (first_namings names) ≡ list_any (bytes_eq name) names
any_namings [] name = refl
any_namings (x ∷ names) name = any_first name x (first_namings names) ∙ ap (λ b. bytes_eq name x || b) (any_namings names name)

drops : (p : List ℕ → Bool) (names : List (List ℕ)) (x : List ℕ) → p x ≡ true → filter p (names ++ x ∷ []) ≡ filter p names ++ x ∷ []
drops p names x is = filter-append p names (x ∷ []) ∙ rw is refl

gone : (p : List ℕ → Bool) (names : List (List ℕ)) (x : List ℕ) → p x ≡ false → filter p (names ++ x ∷ []) ≡ filter p names
gone p names x is = filter-append p names (x ∷ []) ∙ rw is (append-nil _)

-- one more name
abbrev pub and_name : List ℕ → List (List ℕ) → List (List ℕ)
and_name name names = if list_any (bytes_eq name) names then names else names ++ name ∷ []

pub namings-more : (names : List (List ℕ)) (name : List ℕ) → first_namings (names ++ name ∷ []) ≡ and_name name (first_namings names)
namings-more [] name = refl
namings-more (x ∷ names) name =
    let p : List ℕ → Bool = λ y. not (bytes_eq x y) in
    let more = ap (λ l. x ∷ filter p l) (namings-more names name) in
    more ∙ ⊎_elim
    (λ is.
    let out : p name ≡ false = ap not ((bytes_eq-Decides x name).1 (sym (same_bytes name x is))) in
    rw is (⊎_elim (λ there. rw there refl) (λ there. rw there (ap (λ l. x ∷ l) (gone p (first_namings names) name out)))
    (cases_Bool (list_any (bytes_eq name) (first_namings names)))))
    (λ is.
    let kept = any_kept name p (first_namings names) (keeps_others name x is) in
    let inside : p name ≡ true = keeps_others name x is name ((bytes_eq-Decides name name).1 refl) in
    rw (is, kept) (⊎_elim (λ there. rw there refl) (λ there. rw there (ap (λ l. x ∷ l) (drops p (first_namings names) name inside)))
    (cases_Bool (list_any (bytes_eq name) (first_namings names)))))
    (cases_Bool (bytes_eq name x))

-- ---- the place of a name

-- a name that is there, or is the new one, keeps its place
place_kept : (p : List ℕ → Bool) (names : List (List ℕ)) (y : List ℕ)
    → (list_any p names || p y) ≡ true → position_or_len p (names ++ y ∷ []) ≡ position_or_len p names
place_kept p [] y is = rw is refl
place_kept p (x ∷ names) y is =
    ⊎_elim
    (λ here. rw here refl)
    (λ here. let later : (list_any p names || p y) ≡ true = rw here at is in rw here (ap (λ n. 1 + n) (place_kept p names y later)))
    (cases_Bool (p x))

or_left : (a b : Bool) → a ≡ true → (a || b) ≡ true
or_left true b e = refl
or_left false b e = cc

or_right : (a b : Bool) → b ≡ true → (a || b) ≡ true
or_right true b e = refl
or_right false b e = e

pub new_place : (name : List ℕ) (names : List (List ℕ)) → position_or_len (bytes_eq name) (and_name name names) ≡ position_or_len (bytes_eq name) names
new_place name names =
    ⊎_elim
    (λ there. rw there refl)
    (λ there. rw there (place_kept (bytes_eq name) names name (or_right (list_any (bytes_eq name) names) _ ((bytes_eq-Decides name name).1 refl))))
    (cases_Bool (list_any (bytes_eq name) names))

-- ---- the jobs, when a name comes

-- the line's instrument is there
IsIn : List (List ℕ) → Option (List ℕ) → Type 0
IsIn names None = Unit {0}
IsIn names (Some name) = list_any (bytes_eq name) names ≡ true

same_command : (names : List (List ℕ)) (y : List ℕ) (line : Line) → IsIn names (instrument line) → command_of (names ++ y ∷ []) line ≡ command_of names line
unfolding IsIn
same_command names y (Command name verb) there = ap (λ n. Some (n, verb_of verb)) (place_kept (bytes_eq name) names y (or_left _ (bytes_eq name y) there))
same_command names y (Header version) there = refl
same_command names y (Job name) there = refl
same_command names y Session there = refl
same_command names y (PatientSession number) there = refl
same_command names y End there = refl
same_command names y Steps there = refl
same_command names y Unknown there = refl

AreIn : List (List ℕ) → List Line → Type 0
AreIn names lines = AllByRecursion (λ line. IsIn names (instrument line)) lines

same_commands : (names : List (List ℕ)) (y : List ℕ) (lines : List Line) → AreIn names lines
    → filter_map (command_of (names ++ y ∷ [])) lines ≡ filter_map (command_of names) lines
unfolding AreIn
same_commands names y [] all = refl
same_commands names y (x ∷ lines) all = λ i. cons_option (same_command names y x all.0 i) (same_commands names y lines all.1 i)

up_to_in : (names : List (List ℕ)) (kind : Line → Bool) (lines : List Line) → AreIn names lines → AreIn names (up_to_next kind lines)
unfolding AreIn
up_to_in names kind [] all = all
up_to_in names kind (x ∷ lines) all = ⊎_elim (λ is. rw is tt) (λ is. rw is (all.0, up_to_in names kind lines all.1)) (cases_Bool (kind x))

same_each : {B : Type 0} (names : List (List ℕ)) (kind : Line → Bool) (f g : Line → List Line → B)
    → ((x : Line) (lines : List Line) → AreIn names lines → f x lines ≡ g x lines)
    → (lines : List Line) → AreIn names lines → each_with_its_lines kind f lines ≡ each_with_its_lines kind g lines
unfolding AreIn
same_each names kind f g same [] all = refl
same_each names kind f g same (x ∷ lines) all =
    let more = same_each names kind f g same lines all.1 in
    ⊎_elim (λ is. rw is (λ i. same x (up_to_next kind lines) (up_to_in names kind lines all.1) i ∷ more i)) (λ is. rw is more) (cases_Bool (kind x))

same_session : (names : List (List ℕ)) (y : List ℕ) (x : Line) (lines : List Line)
    → AreIn names lines → session_of (names ++ y ∷ []) x lines ≡ session_of names x lines
same_session names y x lines all = ap (λ commands. record (session_of names x lines) { commands = commands }) (same_commands names y lines all)

same_job : (names : List (List ℕ)) (y : List ℕ) (x : Line) (lines : List Line) → AreIn names lines → job_of (names ++ y ∷ []) x lines ≡ job_of names x lines
same_job names y x lines all =
    ap (λ sessions. record (job_of names x lines) { sessions = sessions })
    (same_each names is_session (session_of (names ++ y ∷ [])) (session_of names) (same_session names y) lines all)

same_jobs : (names : List (List ℕ)) (y : List ℕ) (lines : List Line) → AreIn names lines → jobs_of (names ++ y ∷ []) lines ≡ jobs_of names lines
same_jobs names y lines all = same_each names is_job_line (job_of (names ++ y ∷ [])) (job_of names) (same_job names y) lines all

-- the instruments of the lines are those of the plan
push_in : (names : List (List ℕ)) (o : Option (List ℕ)) (x : Option (List ℕ)) → IsIn names x → IsIn (cons_option o names) x
unfolding IsIn
push_in names None x there = there
push_in names (Some other) None there = tt
push_in names (Some other) (Some name) there = or_right (bytes_eq name other) _ there

push_all : (names : List (List ℕ)) (o : Option (List ℕ)) (lines : List Line) → AreIn names lines → AreIn (cons_option o names) lines
unfolding AreIn
push_all names o [] all = tt
push_all names o (x ∷ lines) all = (push_in names o (instrument x) all.0, push_all names o lines all.1)

first_in : (names : List (List ℕ)) (o : Option (List ℕ)) → IsIn (cons_option o names) o
unfolding IsIn
first_in names None = tt
first_in names (Some name) = or_left (bytes_eq name name) _ ((bytes_eq-Decides name name).1 refl)

named_in : (lines : List Line) → AreIn (filter_map instrument lines) lines
unfolding AreIn
named_in [] = tt
named_in (x ∷ lines) = (first_in (filter_map instrument lines) (instrument x), push_all (filter_map instrument lines) (instrument x) lines (named_in lines))

is_naming : (names : List (List ℕ)) (o : Option (List ℕ)) → IsIn names o → IsIn (first_namings names) o
unfolding IsIn
is_naming names None there = tt
is_naming names (Some name) there = any_namings names name ∙ there

are_namings : (names : List (List ℕ)) (lines : List Line) → AreIn names lines → AreIn (first_namings names) lines
unfolding AreIn
are_namings names [] all = tt
are_namings names (x ∷ lines) all = (is_naming names (instrument x) all.0, are_namings names lines all.1)

pub jobs_kept : (name : List ℕ) (lines : List Line) → jobs_of (and_name name (instruments_of lines)) lines ≡ jobs_of (instruments_of lines) lines
jobs_kept name lines =
    let names = instruments_of lines in
    ⊎_elim
    (λ there. rw there refl)
    (λ there. rw there (same_jobs names name lines (are_namings (filter_map instrument lines) lines (named_in lines))))
    (cases_Bool (list_any (bytes_eq name) names))
