-- What one more line does to the jobs of some lines, their names as they are.
use Rattle.std.proofs.Common.{◌≡◌, ℕ, Bool, true, false, List, [], ◌∷◌, ◌++◌, refl, ap, ◌∙◌, append-nil, ◌⊎◌, ⊎_elim, inl, inr}
use Rattle.std.specs.Prelude.{None}
use Rattle.std.specs.List.{position_or_len}
use Rattle.std.specs.Str.{bytes_eq}
use Rattle.std.proofs.lemmas.List.Elements.{filter_map-append}
use Rattle.std.proofs.lemmas.Bool.{cases_Bool}
use Rattle.lab_plan.specs.Building.{on_last, and_session, in_last_session, and_command}
use Rattle.script_reader.specs.Line.{Line, Command, is_job_line, is_session, VerbText}
use Rattle.script_reader.specs.Plan.{up_to_next, each_with_its_lines, jobs_of, job_of, session_of, command_of, patience_of, verb_of}

module _ {B : Type 0} (kind : Line → Bool) (make : Line → List Line → B) (line : Line) where
  up_to_kept : kind line ≡ true → (lines : List Line) → up_to_next kind (lines ++ line ∷ []) ≡ up_to_next kind lines
  up_to_kept of_kind [] = rw of_kind refl
  up_to_kept of_kind (x ∷ lines) =
      ⊎_elim (λ is. rw is refl) (λ is. rw is (ap (λ l. x ∷ l) (up_to_kept of_kind lines))) (cases_Bool (kind x))

  -- a line of the kind begins an entry of its own
  pub begins : kind line ≡ true → (lines : List Line)
      → each_with_its_lines kind make (lines ++ line ∷ []) ≡ each_with_its_lines kind make lines ++ make line [] ∷ []
  begins of_kind [] = rw of_kind refl
  begins of_kind (x ∷ lines) =
      ⊎_elim
      (λ is. rw is (ap (λ l. make x l ∷ each_with_its_lines kind make (lines ++ line ∷ [])) (up_to_kept of_kind lines)
      ∙ ap (λ l. make x (up_to_next kind lines) ∷ l) (begins of_kind lines)))
      (λ is. rw is (begins of_kind lines))
      (cases_Bool (kind x))

  -- another line belongs to the last entry, if there is one
  ends_so : List Line → Type 0
  ends_so lines = (up_to_next kind (lines ++ line ∷ []) ≡ up_to_next kind lines ++ line ∷ []) × (each_with_its_lines kind make lines ≡ [])

  ends_else : List Line → Type 0
  ends_else lines = (up_to_next kind (lines ++ line ∷ []) ≡ up_to_next kind lines) × ((b : B) × (bs : List B) × (each_with_its_lines kind make lines ≡ b ∷ bs))

  ends : kind line ≡ false → (lines : List Line) → ends_so lines ⊎ ends_else lines
  unfolding ends_so ends_else
  ends no_kind [] = inl (rw no_kind refl, refl)
  ends no_kind (x ∷ lines) =
      ⊎_elim
      (λ is. inr (rw is refl, (make x (up_to_next kind lines), each_with_its_lines kind make lines, rw is refl)))
      (λ is. ⊎_elim (λ h. inl (rw is (ap (λ l. x ∷ l) h.0), rw is h.1))
      (λ h. inr (rw is (ap (λ l. x ∷ l) h.0), (h.1.0, h.1.1, rw is h.1.2))) (ends no_kind lines))
      (cases_Bool (kind x))

  pub goes_on : (change : B → B) → kind line ≡ false → ((x : Line) (lines : List Line) → make x (lines ++ line ∷ []) ≡ change (make x lines))
      → (lines : List Line) → each_with_its_lines kind make (lines ++ line ∷ []) ≡ on_last change (each_with_its_lines kind make lines)
  unfolding ends_so ends_else
  goes_on change no_kind grows [] = rw no_kind refl
  goes_on change no_kind grows (x ∷ lines) =
      let more = goes_on change no_kind grows lines in
      ⊎_elim
      (λ is. rw is
      (⊎_elim
      (λ h. rw (h.1, h.0) (rw (more ∙ ap (on_last change) h.1) (ap (λ b. b ∷ []) (grows x (up_to_next kind lines)))))
      (λ h. rw (h.0, more) (rw h.1.2 refl))
      (ends no_kind lines)))
      (λ is. rw is more)
      (cases_Bool (kind x))

-- a session line: the last job has one more session
pub jobs-session : (names : List (List ℕ)) (line : Line) → is_job_line line ≡ false → is_session line ≡ true
    → (lines : List Line) → jobs_of names (lines ++ line ∷ []) ≡ on_last (and_session (patience_of line)) (jobs_of names lines)
jobs-session names line no_job of_kind lines =
    goes_on is_job_line (job_of names) line (and_session (patience_of line)) no_job
    (λ x ls. ap (λ sessions. record (job_of names x ls) { sessions = sessions }) (begins is_session (session_of names) line of_kind ls)) lines

-- a command line: the last session of the last job has one more command
pub jobs-command : (names : List (List ℕ)) (name : List ℕ) (verb : VerbText) (lines : List Line)
    → jobs_of names (lines ++ Command name verb ∷ []) ≡ on_last (in_last_session (position_or_len (bytes_eq name) names) (verb_of verb)) (jobs_of names lines)
jobs-command names name verb lines =
    let i = position_or_len (bytes_eq name) names in
    goes_on is_job_line (job_of names) (Command name verb) (in_last_session i (verb_of verb)) refl
    (λ x ls. ap (λ sessions. record (job_of names x ls) { sessions = sessions })
    (goes_on is_session (session_of names) (Command name verb) (and_command i (verb_of verb)) refl
    (λ y ms. ap (λ commands. record (session_of names y ms) { commands = commands }) (filter_map-append (command_of names) ms (Command name verb ∷ []))) ls))
    lines

-- nothing else changes the jobs
same : {A : Type 0} (xs : List A) → on_last (λ x. x) xs ≡ xs
same [] = refl
same (x ∷ []) = refl
same (x ∷ y ∷ xs) = ap (λ l. x ∷ l) (same (y ∷ xs))

pub jobs-other : (names : List (List ℕ)) (line : Line) → is_job_line line ≡ false → is_session line ≡ false
    → command_of names line ≡ None → (lines : List Line) → jobs_of names (lines ++ line ∷ []) ≡ jobs_of names lines
jobs-other names line no_job no_session no_command lines =
    goes_on is_job_line (job_of names) line (λ job. job) no_job
    (λ x ls. ap (λ sessions. record (job_of names x ls) { sessions = sessions })
    (goes_on is_session (session_of names) line (λ session. session) no_session
    (λ y ms. ap (λ commands. record (session_of names y ms) { commands = commands })
    (filter_map-append (command_of names) ms (line ∷ []) ∙ rw no_command (append-nil _))) ls ∙ same _)) lines ∙ same _
