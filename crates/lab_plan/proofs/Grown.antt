-- What one more line adds to the commands of a plan, and where a name stands among the instruments.
use Rattle.std.proofs.Common.{◌≡◌, ℕ, ◌+◌, ◌-◌, ◌<◌, ◌≤◌, Bool, true, false, List, [], ◌∷◌, ◌++◌, length, get_or, suc, refl, sym, ap, ◌∙◌, subst, arith, append_assoc, append-nil, ⊎_elim, inl, inr}
use Rattle.std.specs.Prelude.{Option, None, Some, nat_lt, is_some, not}
use Rattle.std.specs.Option.{MatchOption}
use Rattle.std.specs.List.{flat_map, list_any, position, position_or_len}
use Rattle.std.proofs.lemmas.Bool.{cases_Bool, cases_lt}
use Rattle.std.proofs.lemmas.Bool.Decides.{Decides-ltb, nat_tests}
use Rattle.std.proofs.lemmas.List.Sums.{prefix_len-le-length}
use Rattle.std.proofs.lemmas.Grind.{flat_map-append}
use Rattle.std.proofs.lemmas.List.{length_push}
use Rattle.lab_plan.specs.declared.verb.Verb.{Verb}
use Rattle.lab_plan.specs.LabPlan.{SessionPlan, JobPlan, LabPlan, no_session, no_job, all_commands}
use Rattle.lab_plan.specs.Building.{on_last, and_command, in_last_session, and_session, with_session, with_command, with_job, has_session, last_job, instrument_number, is_instrument, is_past_limit, IsPlace}
use Rattle.lab_plan.proofs.OnLast.{has_job}

flat_map-on_last : {X Y : Type 0} (f : X → List Y) (change : X → X) (more : List Y) (xs : List X) (d : X)
    → 0 < length xs → f (change (get_or xs (length xs - 1) d)) ≡ f (get_or xs (length xs - 1) d) ++ more
    → flat_map f (on_last change xs) ≡ flat_map f xs ++ more
flat_map-on_last f change more [] d some h = absurd (omega arith)
flat_map-on_last f change more (x ∷ []) d some h = append-nil (f (change x)) ∙ h ∙ ap (λ l. l ++ more) (sym (append-nil (f x)))
flat_map-on_last f change more (x ∷ y ∷ xs) d some h =
    let less : length (x ∷ y ∷ xs) - 1 ≡ suc (length (y ∷ xs) - 1) = omega arith in
    let P : ℕ → Type 0 = λ n. f (change (get_or (x ∷ y ∷ xs) n d)) ≡ f (get_or (x ∷ y ∷ xs) n d) ++ more in
    ap (λ l. f x ++ l) (flat_map-on_last f change more (y ∷ xs) d (omega arith) (subst P less h)) ∙ sym (append_assoc (f x) (flat_map f (y ∷ xs)) more)

pub all_commands_with_job : (name : List ℕ) (plan : LabPlan) → all_commands (with_job name plan) ≡ all_commands plan
all_commands_with_job name plan =
    flat_map-append (λ (job : JobPlan). flat_map (λ (session : SessionPlan). session.commands) job.sessions) plan.jobs
    (record { name = name; sessions = [] } ∷ []) ∙ append-nil (all_commands plan)

pub all_commands_with_session : (patience : Option ℕ) (plan : LabPlan) → 0 < length plan.jobs → all_commands (with_session patience plan) ≡ all_commands plan
all_commands_with_session patience plan some =
    let f : JobPlan → List (ℕ × Verb) = λ job. flat_map (λ (session : SessionPlan). session.commands) job.sessions in
    let same = flat_map-append (λ (session : SessionPlan). session.commands) (last_job plan).sessions (record { patience = patience; commands = [] } ∷ []) in
    flat_map-on_last f (and_session patience) [] plan.jobs no_job some same ∙ append-nil (all_commands plan)

pub all_commands_with_command : (name : List ℕ) (verb : Verb) (plan : LabPlan) → has_session plan ≡ true
    → all_commands (with_command name verb plan) ≡ all_commands plan ++ (instrument_number name plan, verb) ∷ []
all_commands_with_command name verb plan some =
    let i = instrument_number name plan in
    let f : JobPlan → List (ℕ × Verb) = λ job. flat_map (λ (session : SessionPlan). session.commands) job.sessions in
    let begun : 0 < length (last_job plan).sessions = grind (arith, some) in
    flat_map-on_last f (in_last_session i verb) ((i, verb) ∷ []) plan.jobs no_job (has_job plan some)
    (flat_map-on_last (λ (session : SessionPlan). session.commands) (and_command i verb) ((i, verb) ∷ []) (last_job plan).sessions no_session begun refl)

pub commands_with_command : (name : List ℕ) (verb : Verb) (plan : LabPlan) → has_session plan ≡ true
    → length (all_commands (with_command name verb plan)) ≡ length (all_commands plan) + 1
commands_with_command name verb plan some = ap length (all_commands_with_command name verb plan some)
    ∙ length_push (all_commands plan) (instrument_number name plan, verb)

-- the place of what is looked for
test_next : (a b : ℕ) → nat_lt a b ≡ nat_lt (1 + a) (suc b)
test_next a b = grind (arith, nat_tests)

pub any_is : {X : Type 0} (p : X → Bool) (xs : List X) → list_any p xs ≡ nat_lt (position_or_len p xs) (length xs)
any_is p [] = refl
any_is p (x ∷ xs) =
    ⊎_elim
    (λ is. rw is (sym ((Decides-ltb 0 (suc (length xs))).1 (omega arith))))
    (λ is. rw is (any_is p xs ∙ test_next (position_or_len p xs) (length xs)))
    (cases_Bool (p x))

pub placed : {X : Type 0} (p : X → Bool) (xs : List X)
    → MatchOption (position p xs) ((list_any p xs ≡ false) × (position_or_len p xs ≡ length xs))
    (λ i. (list_any p xs ≡ true) × (i ≡ position_or_len p xs) × (i < length xs))
placed p xs = elim (cases_lt (position_or_len p xs) (length xs)) [
  | inl below ↦ let t : nat_lt (position_or_len p xs) (length xs) ≡ true = (Decides-ltb _ _).1 below in rw t (any_is p xs ∙ t, refl, below)
  | inr above ↦
      let t : nat_lt (position_or_len p xs) (length xs) ≡ false = grind (arith, nat_tests) in
      let most : position_or_len p xs ≤ length xs = prefix_len-le-length _ xs in
      rw t (any_is p xs ∙ t, omega arith)
]

pub found_any : {X : Type 0} (p : X → Bool) (xs : List X) → is_some (position p xs) ≡ list_any p xs
found_any p xs =
    ⊎_elim
    (λ is. rw is (sym (any_is p xs ∙ is)))
    (λ is. rw is (sym (any_is p xs ∙ is)))
    (cases_Bool (nat_lt (position_or_len p xs) (length xs)))

-- room for one more command
pub room : (name : List ℕ) (verb : Verb) (plan : LabPlan) → length plan.instruments ≤ 56 → is_past_limit name plan ≡ false
    → (length (all_commands plan) < 100000) × (length (with_command name verb plan).instruments ≤ 56)
room name verb plan few fits = (commands, instruments)
  where
    commands : length (all_commands plan) < 100000
    commands = grind (arith, nat_tests, fits)

    instruments : length (with_command name verb plan).instruments ≤ 56
    instruments =
        ⊎_elim
        (λ is. rw is few)
        (λ is.
        let below : length plan.instruments < 56 = (let f = rw is at fits in grind (arith, nat_tests, f)) in
        rw is (omega (arith, length_push plan.instruments name, below)))
        (cases_Bool (is_instrument name plan))

-- a name with no place is new
pub is_new : (name : List ℕ) (plan : LabPlan) (place : Option ℕ) (none : Bool)
    → IsPlace name plan place → is_some place ≡ not none → none ≡ not (is_instrument name plan)
is_new name plan None true h e = rw h.0 refl
is_new name plan None false h e = cc
is_new name plan (Some i) true h e = cc
is_new name plan (Some i) false h e = rw h.0 refl
