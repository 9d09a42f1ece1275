-- A plan as far as its upgraded script is read: some jobs, and the instruments that are named so far.
use Rattle.std.proofs.Common.{◌≡◌, ◌≢◌, ℕ, ◌+◌, ◌<◌, ◌≤◌, Bool, true, false, if◌then◌else◌, not, ◌&&◌, ◌||◌, List, [], ◌∷◌, ◌++◌, length, get_or, take, refl, sym, ap, ◌∙◌, ⊎_elim, inl, inr, arith, suc, length-append}
use Rattle.std.specs.Prelude.{Option, max, nat_le, nat_lt, All, AllPairs}
use Rattle.std.specs.List.{list_any, position_or_len, flat_map}
use Rattle.std.specs.Str.{bytes_eq}
use Rattle.std.proofs.lemmas.Bool.{cases_Bool, cases_lt, false_from_ne_true}
use Rattle.std.proofs.lemmas.Bool.Decides.{nat_tests}
use Rattle.std.proofs.lemmas.Slice.Eq.{bytes_eq-Decides}
use Rattle.std.proofs.lemmas.Grind.{flat_map-append}
use Rattle.std.proofs.lemmas.List.{length-take-le, get_or-take, take_more}
use Rattle.std.proofs.lemmas.List.Sums.{position_or_len_is}
use Rattle.lab_plan.specs.declared.verb.Verb.{Verb}
use Rattle.lab_plan.specs.Names.{IsName}
use Rattle.lab_plan.specs.LabPlan.{SessionPlan, JobPlan, LabPlan, all_commands}
use Rattle.lab_plan.specs.Building.{on_last, and_session, and_command, in_last_session, instrument_number, is_instrument, with_session, with_command, is_past_limit}

pub not_at_most : (a b : ℕ) → b < a → nat_le a b ≡ false
not_at_most a b h = grind (arith, nat_tests)

pub less : (a b : ℕ) → a < b → nat_lt a b ≡ true
less a b h = grind (arith, nat_tests)

pub not_less : (a b : ℕ) → b ≤ a → nat_lt a b ≡ false
not_less a b h = grind (arith, nat_tests)

-- the names of a plan's instruments
pub record AreInstruments (names : List (List ℕ)) : Type 0 where
  pub few : length names ≤ 56
  pub each : All IsName names
  pub distinct : AllPairs (λ a b. a ≢ b) names

-- so many instruments are named, and these are the jobs
abbrev pub draft : List (List ℕ) → ℕ → List JobPlan → LabPlan
draft names known jobs = record { version = 2; jobs = jobs; instruments = take known names }

abbrev pub job_with : List ℕ → List SessionPlan → JobPlan
job_with name sessions = record { name = name; sessions = sessions }

-- some jobs, and another whose last session is this one
abbrev pub inside : List JobPlan → List ℕ → List SessionPlan → SessionPlan → List JobPlan
inside front name sessions session = front ++ job_with name (sessions ++ session ∷ []) ∷ []

pub on_last-push : {A : Type 0} (change : A → A) (xs : List A) (x : A) → on_last change (xs ++ x ∷ []) ≡ xs ++ change x ∷ []
on_last-push change [] x = refl
on_last-push change (y ∷ []) x = refl
on_last-push change (y ∷ z ∷ xs) x = ap (λ l. y ∷ l) (on_last-push change (z ∷ xs) x)

-- ---- one more command

module _ (names : List (List ℕ)) (h : AreInstruments names) (known i : ℕ) (most : known ≤ length names) (near : i ≤ known) (there : i < length names) where
  pub number_is : (jobs : List JobPlan) → instrument_number (get_or names i []) (draft names known jobs) ≡ i
  number_is jobs =
      let len = length-take-le known names most in
      position_or_len_is (bytes_eq (get_or names i [])) (take known names) i [] (omega (arith, len))
      (λ k below. false_from_ne_true _ (λ e. h.distinct k i [] below there (sym ((bytes_eq-Decides _ _).0 e ∙ get_or-take known names k [] (omega arith)))))
      (λ within. (bytes_eq-Decides _ _).1 (sym (get_or-take known names i [] (omega (arith, len, within)))))

  any_is : {X : Type 0} (p : X → Bool) (xs : List X) → list_any p xs ≡ nat_lt (position_or_len p xs) (length xs)
  any_is p [] = refl
  any_is p (x ∷ xs) =
      ⊎_elim
      (λ is. rw is (sym (less 0 (suc (length xs)) (omega arith))))
      (λ is. rw is (any_is p xs ∙ test_next (position_or_len p xs) (length xs)))
      (cases_Bool (p x))
    where
      test_next : (a b : ℕ) → nat_lt a b ≡ nat_lt (1 + a) (suc b)
      test_next a b = grind (arith, nat_tests)

  pub is_there : (jobs : List JobPlan) → is_instrument (get_or names i []) (draft names known jobs) ≡ nat_lt i known
  is_there jobs = any_is (bytes_eq (get_or names i [])) (take known names) ∙ (λ j. nat_lt (number_is jobs j) (length-take-le known names most j))

  -- the next instrument comes to the names
  named_more : (if nat_lt i known then take known names else take known names ++ get_or names i [] ∷ []) ≡ take (max known (suc i)) names
  named_more =
      elim (cases_lt i known)
      as (λ _. (if nat_lt i known then take known names else take known names ++ get_or names i [] ∷ []) ≡ take (max known (suc i)) names) [
        | inl below ↦ let same : known ≡ max known (suc i) = omega arith in
            ap (λ b. if b then take known names else take known names ++ get_or names i [] ∷ []) (less i known below) ∙ ap (λ n. take n names) same
        | inr above ↦
            let same : known ≡ i = omega arith in
            let next : i + 1 ≡ max known (suc i) = omega arith in
            ap (λ b. if b then take known names else take known names ++ get_or names i [] ∷ []) (not_less i known above)
            ∙ ap (λ n. take n names ++ get_or names i [] ∷ []) same ∙ sym (take_more names i [] there) ∙ ap (λ n. take n names) next
      ]

  pub command_more : (verb : Verb) (front : List JobPlan) (job : List ℕ) (sessions : List SessionPlan) (session : SessionPlan)
      → with_command (get_or names i []) verb (draft names known (inside front job sessions session))
      ≡ draft names (max known (suc i)) (inside front job sessions (and_command i verb session))
  command_more verb front job sessions session =
      let jobs = inside front job sessions session in
      let changed : on_last (in_last_session (instrument_number (get_or names i []) (draft names known jobs)) verb) jobs
      ≡ inside front job sessions (and_command i verb session) =
      ap (λ n. on_last (in_last_session n verb) jobs) (number_is jobs) ∙ on_last-push (in_last_session i verb) front (job_with job (sessions ++ session ∷ []))
      ∙ ap (λ l. front ++ job_with job l ∷ []) (on_last-push (and_command i verb) sessions session) in
      let grown : (if is_instrument (get_or names i []) (draft names known jobs) then take known names else take known names ++ get_or names i [] ∷ [])
      ≡ take (max known (suc i)) names =
      ap (λ b. if b then take known names else take known names ++ get_or names i [] ∷ []) (is_there jobs) ∙ named_more in
      λ j. record { version = 2; jobs = changed j; instruments = grown j }

  pub room : (jobs : List JobPlan) → length (all_commands (draft names known jobs)) < 100000
      → is_past_limit (get_or names i []) (draft names known jobs) ≡ false
  room jobs few =
      let first = not_at_most 100000 (length (all_commands (draft names known jobs))) few in
      let second : (not (nat_lt i known) && nat_le 56 (length (take known names))) ≡ false =
      elim (cases_lt i known) as (λ _. (not (nat_lt i known) && nat_le 56 (length (take known names))) ≡ false) [
        | inl below ↦ ap (λ b. not b && nat_le 56 (length (take known names))) (less i known below)
        | inr above ↦ let bound = h.few in
            (λ j. not (not_less i known above j) && not_at_most 56 (length (take known names))
            (let len = length-take-le known names most in omega (arith, len, bound)) j)
      ] in
      (λ j. first j || (not (is_there jobs j) && nat_le 56 (length (take known names)))) ∙ second

-- ---- one more session

pub session_more : (names : List (List ℕ)) (known : ℕ) (patience : Option ℕ) (front : List JobPlan) (job : List ℕ) (sessions : List SessionPlan)
    → with_session patience (draft names known (front ++ job_with job sessions ∷ []))
    ≡ draft names known (inside front job sessions (record { patience = patience; commands = [] }))
session_more names known patience front job sessions = ap (draft names known) (on_last-push (and_session patience) front (job_with job sessions))

-- ---- how many commands there are

abbrev pub session_commands : List SessionPlan → List (ℕ × Verb)
session_commands sessions = flat_map (λ (session : SessionPlan). session.commands) sessions

abbrev pub job_commands : List JobPlan → List (ℕ × Verb)
job_commands jobs = flat_map (λ (job : JobPlan). session_commands job.sessions) jobs

pub size_one : (front : List JobPlan) (job : List ℕ) (sessions : List SessionPlan)
    → length (job_commands (front ++ job_with job sessions ∷ [])) ≡ length (job_commands front) + length (session_commands sessions)
size_one front job sessions =
    let whole = ap length (flat_map-append (λ (j : JobPlan). session_commands j.sessions) front (job_with job sessions ∷ [])) in
    omega (arith, whole, length-append (job_commands front) (job_commands (job_with job sessions ∷ [])), length-append (session_commands sessions) [])

pub size_more : (sessions : List SessionPlan) (session : SessionPlan)
    → length (session_commands (sessions ++ session ∷ [])) ≡ length (session_commands sessions) + length session.commands
size_more sessions session =
    let whole = ap length (flat_map-append (λ (s : SessionPlan). s.commands) sessions (session ∷ [])) in
    omega (arith, whole, length-append (session_commands sessions) (session_commands (session ∷ [])), length-append session.commands [])
