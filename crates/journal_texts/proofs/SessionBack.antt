-- The lines of a session, as a script has them, are read back as that session.
use Rattle.std.proofs.Common.{◌≡◌, ℕ, suc, ◌+◌, ◌<◌, ◌≤◌, Bool, true, false, not, ◌&&◌, List, [], ◌∷◌, ◌++◌, length, map, refl, sym, ap, ◌∙◌, ⊎_elim, arith, append_assoc, append-nil, length-append}
use Rattle.std.specs.Prelude.{Option, None, Some, Ok, codes, decimal, nat_le, nat_lt, ◌==◌}
use Rattle.std.specs.List.{All, AllByRecursion, list_all, list_any, position_or_len}
use Rattle.std.specs.Str.{bytes_eq}
use Rattle.std.proofs.lemmas.Bool.{cases_Bool, false_from_ne_true, and_parts}
use Rattle.std.proofs.lemmas.Bool.Decides.{nat_tests}
use Rattle.std.proofs.lemmas.Slice.Eq.{bytes_eq-Decides}
use Rattle.std.proofs.lemmas.List.Sums.{position_or_len_is}
use Rattle.std.proofs.lemmas.List.Elements.{All-tail}
use Rattle.lab_plan.specs.declared.verb.Verb.{Verb}
use Rattle.lab_plan.specs.declared.verb.Verb.TheVariants.{Set, Add, Read}
use Rattle.lab_plan.specs.Names.{is_name}
use Rattle.lab_plan.specs.Verbs as verbs
use Rattle.lab_plan.specs.LabPlan.{LabPlan, SessionPlan, sessions, names, all_commands}
use Rattle.lab_plan.specs.IsPlan.{IsPlan}
use Rattle.lab_plan.specs.Texts.{instrument_name, verb_text}
use Rattle.lab_plan.specs.Upgrade.{session_line, command_text, commands_text, session_text}
use Rattle.lab_plan.specs.Building.{is_instrument, instrument_number}
use Rattle.lab_plan.specs.Longer.{session_of, are_its_own, may_be_patient, all_fit}
use Rattle.lab_plan.proofs.OneMore.{IsGranted, below}
use Rattle.script_reader.specs.declared.fault.ScriptCause.TheVariants.{UnknownWord, BadName, BadNumber, EmptySession, LimitPassed, NotItsOwn}
use Rattle.script_reader.specs.Line.{Line, Command, End, form_of, verb_number}
use Rattle.script_reader.specs.Number.{is_number}
use Rattle.script_reader.specs.Plan.{verb_of}
use Rattle.script_reader.specs.Script.{has, text_lines}
use Rattle.script_reader.specs.State.{at}
use Rattle.script_reader.specs.More.{SessionsSoFar, no_sessions, more_after, more_cause, is_its_own, fault_or, more_in, sessions_in}
use Rattle.script_reader.proofs.UpgradeNumber.{decimal_is_number, reads_back}
use Rattle.script_reader.proofs.UpgradeLines.{spelled, first_line}
use Rattle.script_reader.proofs.UpgradeText.{is_shown, dark_shown, one_more_line, no_text}
use Rattle.script_reader.proofs.UpgradeForms.{NameParts, name_parts, session_form, patience_form, end_form, read_form, set_form, add_form, shown_behind, shown_decimal}

-- ---- its lines

abbrev pub begin_line : Option ℕ → List ℕ
begin_line None = codes "session"
begin_line (Some n) = codes "session patience " ++ decimal n

abbrev pub command_line : LabPlan → ℕ × Verb → List ℕ
command_line plan command = instrument_name plan command.0 ++ (codes " " ++ verb_text command.1)

abbrev pub session_lines : LabPlan → SessionPlan → List (List ℕ)
session_lines plan session = begin_line session.patience ∷ (map (command_line plan) session.commands ++ codes "end" ∷ [])

-- the session's text is these, each with its end
abbrev pub closed_all : List (List ℕ) → List ℕ
closed_all [] = []
closed_all (line ∷ lines) = line ++ 10 ∷ closed_all lines

pub closed_both : (a b : List (List ℕ)) → closed_all (a ++ b) ≡ closed_all a ++ closed_all b
closed_both [] b = refl
closed_both (x ∷ a) b = ap (λ l. x ++ 10 ∷ l) (closed_both a b) ∙ sym (append_assoc x (10 ∷ closed_all a) (closed_all b))

begin_closed : (patience : Option ℕ) (rest : List ℕ) → session_line patience ++ rest ≡ begin_line patience ++ 10 ∷ rest
begin_closed None rest = refl
begin_closed (Some n) rest = ap (λ l. codes "session patience " ++ l) (append_assoc (decimal n) (codes "\n") rest)

command_closed : (plan : LabPlan) (command : ℕ × Verb) → command_text plan command ≡ command_line plan command ++ 10 ∷ []
command_closed plan command = ap (λ l. l ++ 10 ∷ []) (append_assoc (instrument_name plan command.0) (codes " ") (verb_text command.1))

commands_closed : (plan : LabPlan) (commands : List (ℕ × Verb)) (rest : List (List ℕ))
    → commands_text plan commands ++ closed_all rest ≡ closed_all (map (command_line plan) commands ++ rest)
commands_closed plan [] rest = refl
commands_closed plan (c ∷ commands) rest =
    append_assoc (command_text plan c) (commands_text plan commands) (closed_all rest)
    ∙ ap (λ l. l ++ (commands_text plan commands ++ closed_all rest)) (command_closed plan c)
    ∙ append_assoc (command_line plan c) (10 ∷ []) (commands_text plan commands ++ closed_all rest)
    ∙ ap (λ l. command_line plan c ++ 10 ∷ l) (commands_closed plan commands rest)

pub session_closed : (plan : LabPlan) (session : SessionPlan) → session_text plan session ≡ closed_all (session_lines plan session)
session_closed plan session =
    append_assoc (session_line session.patience) (commands_text plan session.commands) (codes "end\n")
    ∙ begin_closed session.patience (commands_text plan session.commands ++ codes "end\n")
    ∙ ap (λ l. begin_line session.patience ++ 10 ∷ l) (commands_closed plan session.commands (codes "end" ∷ []))

-- ---- what a session that the plan takes can say

-- of a command
pub record CanSay (plan : LabPlan) (j : ℕ) (command : ℕ × Verb) : Type 0 where
  pub there : command.0 < length plan.instruments
  pub own : names plan j command.0 ≡ true
  pub fits : verbs.verb_number command.1 ≤ 999999

at_most : (a b : ℕ) → nat_le a b ≡ true → a ≤ b
at_most a b h = grind (arith, nat_tests, h)

pub can_say : (plan : LabPlan) (j : ℕ) (commands : List (ℕ × Verb)) → All (λ (command : ℕ × Verb). command.0 < length plan.instruments) commands
    → are_its_own plan j commands ≡ true → all_fit commands ≡ true → AllByRecursion (CanSay plan j) commands
can_say plan j [] there own fit = tt
can_say plan j (c ∷ commands) there own fit =
    let o = and_parts (names plan j c.0) (are_its_own plan j commands) own in
    let f = and_parts (nat_le (verbs.verb_number c.1) 999999) (all_fit commands) fit in (
      record { there = there 0 c (omega arith); own = o.0; fits = at_most (verbs.verb_number c.1) 999999 f.0 },
      can_say plan j commands (All-tail (λ (command : ℕ × Verb). command.0 < length plan.instruments) c commands there) o.1 f.1,
    )

-- ---- its lines are shown, and have these forms

fits_patience : (plan : LabPlan) (n : ℕ) → may_be_patient plan (Some n) ≡ true → ((plan.version == 2) ≡ true) × (n ≤ 999999)
fits_patience plan n h = let both = and_parts (plan.version == 2) (nat_le n 999999) h in (both.0, at_most n 999999 both.1)

begin_shown : (plan : LabPlan) (patience : Option ℕ) → may_be_patient plan patience ≡ true → list_all is_shown (begin_line patience) ≡ true
begin_shown plan None h = refl
begin_shown plan (Some n) h = shown_behind (codes "session patience ") (decimal n) refl (shown_decimal n (fits_patience plan n h).1)

begin_form : (plan : LabPlan) (patience : Option ℕ) → may_be_patient plan patience ≡ true → form_of (begin_line patience) ≡ Some (first_line patience)
begin_form plan None h = session_form
begin_form plan (Some n) h = patience_form n (fits_patience plan n h).1

name_is : (plan : LabPlan) (i : ℕ) → IsPlan plan → i < length plan.instruments → is_name (instrument_name plan i) ≡ true
name_is plan i is there = is.draft.instrument_names i [] there

verb_shown : (verb : Verb) → verbs.verb_number verb ≤ 999999 → list_all is_shown (codes " " ++ verb_text verb) ≡ true
verb_shown (Set n) fits = shown_behind (codes " set ") (decimal n) refl (shown_decimal n fits)
verb_shown (Add n) fits = shown_behind (codes " add ") (decimal n) refl (shown_decimal n fits)
verb_shown Read fits = refl

command_is_shown : (plan : LabPlan) (j : ℕ) (command : ℕ × Verb) → IsPlan plan → CanSay plan j command → list_all is_shown (command_line plan command) ≡ true
command_is_shown plan j command is can =
    let parts = name_parts (instrument_name plan command.0) (name_is plan command.0 is can.there) in
    shown_behind (instrument_name plan command.0) (codes " " ++ verb_text command.1) (dark_shown (instrument_name plan command.0) parts.dark) (verb_shown command.1 can.fits)

verb_form : (name : List ℕ) (verb : Verb) → NameParts name → verbs.verb_number verb ≤ 999999
    → form_of (name ++ (codes " " ++ verb_text verb)) ≡ Some (Command name (spelled verb))
verb_form name (Set n) h fits = set_form name n h fits
verb_form name (Add n) h fits = add_form name n h fits
verb_form name Read h fits = read_form name h

-- ---- the reader takes them

number_kept : (verb : Verb) → verbs.verb_number verb ≤ 999999 → verb_of (spelled verb) ≡ verb
number_kept (Set n) fits = ap Set (reads_back n fits)
number_kept (Add n) fits = ap Add (reads_back n fits)
number_kept Read fits = refl

number_right : (verb : Verb) → verbs.verb_number verb ≤ 999999 → has (λ number. not (is_number number)) (verb_number (spelled verb)) ≡ false
number_right (Set n) fits = ap not (decimal_is_number n fits)
number_right (Add n) fits = ap not (decimal_is_number n fits)
number_right Read fits = refl

test_next : (a b : ℕ) → nat_lt a b ≡ nat_lt (1 + a) (suc b)
test_next a b = grind (arith, nat_tests)

less : (a b : ℕ) → a < b → nat_lt a b ≡ true
less a b h = grind (arith, nat_tests, h)

any_is : {X : Type 0} (p : X → Bool) (xs : List X) → list_any p xs ≡ nat_lt (position_or_len p xs) (length xs)
any_is p [] = refl
any_is p (x ∷ xs) =
    ⊎_elim
    (λ is. rw is (sym (less 0 (suc (length xs)) (omega arith))))
    (λ is. rw is (any_is p xs ∙ test_next (position_or_len p xs) (length xs)))
    (cases_Bool (p x))

number_is : (plan : LabPlan) (i : ℕ) → IsPlan plan → i < length plan.instruments → instrument_number (instrument_name plan i) plan ≡ i
number_is plan i is there =
    position_or_len_is (bytes_eq (instrument_name plan i)) plan.instruments i [] (omega (arith, there))
    (λ k below. false_from_ne_true _ (λ e. is.draft.instruments_distinct k i [] below there (sym ((bytes_eq-Decides _ _).0 e))))
    (λ within. (bytes_eq-Decides (instrument_name plan i) (instrument_name plan i)).1 refl)

is_there : (plan : LabPlan) (i : ℕ) → IsPlan plan → i < length plan.instruments → is_instrument (instrument_name plan i) plan ≡ true
is_there plan i is there =
    any_is (bytes_eq (instrument_name plan i)) plan.instruments ∙ ap (λ n. nat_lt n (length plan.instruments)) (number_is plan i is there)
    ∙ less i (length plan.instruments) there

not_at_most : (a b : ℕ) → b < a → nat_le a b ≡ false
not_at_most a b h = grind (arith, nat_tests, h)

-- one more line that meets no cause
taken : (plan : LabPlan) (j n : ℕ) (s t : SessionsSoFar) (line : List ℕ) (form : Line) (rest : List (List ℕ)) → form_of line ≡ Some form
    → more_cause plan j s (Some form) ≡ None → more_after plan s (Some form) ≡ t → more_in plan j n s (line ∷ rest) ≡ more_in plan j (n + 1) t rest
taken plan j n s t line form rest is none after =
    (λ i. fault_or (more_cause plan j s (is i)) n (more_in plan j (n + 1) (more_after plan s (is i)) rest))
    ∙ (λ i. fault_or (none i) n (more_in plan j (n + 1) (after i) rest))

-- within a session that began so
abbrev within : Option ℕ → List (ℕ × Verb) → SessionsSoFar
within patience commands = record { in_session = true; sessions = session_of patience commands ∷ [] }

begin_cause : (plan : LabPlan) (j : ℕ) (patience : Option ℕ) → may_be_patient plan patience ≡ true → length (sessions plan j) < 1000
    → more_cause plan j no_sessions (Some (first_line patience)) ≡ None
begin_cause plan j None h few = let room = not_at_most 1000 (length (sessions plan j) + 0) (omega (arith, few)) in λ i. at (room i) LimitPassed None
begin_cause plan j (Some n) h few =
    let fits = fits_patience plan n h in
    let version = fits.0 in
    let right = decimal_is_number n fits.1 in
    let room = not_at_most 1000 (length (sessions plan j) + 0) (omega (arith, few)) in
    λ i. at (not (version i)) UnknownWord (at (not (right i)) BadNumber (at (room i) LimitPassed None))

begin_after : (plan : LabPlan) (patience : Option ℕ) → may_be_patient plan patience ≡ true
    → more_after plan no_sessions (Some (first_line patience)) ≡ within patience []
begin_after plan None h = refl
begin_after plan (Some n) h = ap (λ (k : ℕ). within (Some k) []) (reads_back n (fits_patience plan n h).1)

command_cause : (plan : LabPlan) (j : ℕ) (patience : Option ℕ) (before : List (ℕ × Verb)) (command : ℕ × Verb) → IsPlan plan → CanSay plan j command
    → length (all_commands plan) + length before < 100000
    → more_cause plan j (within patience before) (Some (Command (instrument_name plan command.0) (spelled command.1))) ≡ None
command_cause plan j patience before command is can few =
    let named = name_is plan command.0 is can.there in
    let number = number_right command.1 can.fits in
    let room = not_at_most 100000 (length (all_commands plan) + length (before ++ [])) (omega (arith, few, length-append before [])) in
    let its : is_its_own plan j (instrument_name plan command.0) ≡ true =
    (λ i. is_there plan command.0 is can.there i && names plan j (number_is plan command.0 is can.there i)) ∙ can.own in
    λ i. at (not (named i)) BadName (at (number i) BadNumber (at (room i) LimitPassed (at (not (its i)) NotItsOwn None)))

command_after : (plan : LabPlan) (j : ℕ) (patience : Option ℕ) (before : List (ℕ × Verb)) (command : ℕ × Verb) → IsPlan plan → CanSay plan j command
    → more_after plan (within patience before) (Some (Command (instrument_name plan command.0) (spelled command.1))) ≡ within patience (before ++ command ∷ [])
command_after plan j patience before command is can =
    λ i. within patience (before ++ (number_is plan command.0 is can.there i, number_kept command.1 can.fits i) ∷ [])

commands_taken : (plan : LabPlan) (j n : ℕ) (patience : Option ℕ) (before commands : List (ℕ × Verb)) (rest : List (List ℕ)) → IsPlan plan
    → AllByRecursion (CanSay plan j) commands → length (all_commands plan) + length before + length commands ≤ 100000
    → more_in plan j n (within patience before) (map (command_line plan) commands ++ rest) ≡ more_in plan j (n + length commands) (within patience (before ++ commands)) rest
commands_taken plan j n patience before [] rest is can few =
    let same : n ≡ n + 0 = omega arith in λ i. more_in plan j (same i) (within patience (sym (append-nil before) i)) rest
commands_taken plan j n patience before (c ∷ commands) rest is can few =
    let form = verb_form (instrument_name plan c.0) c.1 (name_parts (instrument_name plan c.0) (name_is plan c.0 is can.0.there)) can.0.fits in
    let same : n + 1 + length commands ≡ n + suc (length commands) = omega arith in
    let size = length-append before (c ∷ []) in
    taken plan j n (within patience before) (within patience (before ++ c ∷ [])) (command_line plan c) (Command (instrument_name plan c.0) (spelled c.1))
    (map (command_line plan) commands ++ rest) form (command_cause plan j patience before c is can.0 (omega (arith, few))) (command_after plan j patience before c is can.0)
    ∙ commands_taken plan j (n + 1) patience (before ++ c ∷ []) commands rest is can.1 (omega (arith, few, size))
    ∙ (λ i. more_in plan j (same i) (within patience (append_assoc before (c ∷ []) commands i)) rest)

not_zero : (n : ℕ) → (suc n == 0) ≡ false
not_zero n = grind (arith, nat_tests)

end_cause : (plan : LabPlan) (j : ℕ) (patience : Option ℕ) (commands : List (ℕ × Verb)) → 0 < length commands
    → more_cause plan j (within patience commands) (Some End) ≡ None
end_cause plan j patience [] some = absurd (omega (arith, some))
end_cause plan j patience (c ∷ commands) some = let more : (suc (length commands) == 0) ≡ false = not_zero (length commands) in λ i. at (more i) EmptySession None

pub lines_back : (plan : LabPlan) (j : ℕ) (session : SessionPlan) → IsPlan plan → IsGranted plan j session
    → more_in plan j 1 no_sessions (session_lines plan session) ≡ Ok (session ∷ [])
lines_back plan j session is may =
    let can = can_say plan j session.commands (below plan j session is.draft.named may.own) may.own may.fit in
    let few = may.few_commands in
    taken plan j 1 no_sessions (within session.patience []) (begin_line session.patience) (first_line session.patience)
    (map (command_line plan) session.commands ++ codes "end" ∷ []) (begin_form plan session.patience may.patient)
    (begin_cause plan j session.patience may.patient may.few_sessions) (begin_after plan session.patience may.patient)
    ∙ commands_taken plan j 2 session.patience [] session.commands (codes "end" ∷ []) is can (omega (arith, few))
    ∙ taken plan j (2 + length session.commands) (within session.patience session.commands)
    (record { in_session = false; sessions = session_of session.patience session.commands ∷ [] }) (codes "end") End [] end_form
    (end_cause plan j session.patience session.commands may.some) refl

-- ---- the text

abbrev pub AreShown : List (List ℕ) → Type 0
AreShown lines = AllByRecursion (λ (line : List ℕ). list_all is_shown line ≡ true) lines

commands_shown : (plan : LabPlan) (j : ℕ) (commands : List (ℕ × Verb)) → IsPlan plan → AllByRecursion (CanSay plan j) commands
    → AreShown (map (command_line plan) commands ++ codes "end" ∷ [])
commands_shown plan j [] is can = (refl, tt)
commands_shown plan j (c ∷ commands) is can = (command_is_shown plan j c is can.0, commands_shown plan j commands is can.1)

pub session_shown : (plan : LabPlan) (j : ℕ) (session : SessionPlan) → IsPlan plan → IsGranted plan j session → AreShown (session_lines plan session)
session_shown plan j session is may = (
  begin_shown plan session.patience may.patient,
  commands_shown plan j session.commands is (can_say plan j session.commands (below plan j session is.draft.named may.own) may.own may.fit),
)

pub lines_closed : (lines : List (List ℕ)) (rest : List ℕ) → AreShown lines → text_lines (closed_all lines ++ rest) ≡ lines ++ text_lines rest
lines_closed [] rest all = refl
lines_closed (line ∷ lines) rest all =
    ap text_lines (append_assoc line (10 ∷ closed_all lines) rest) ∙ one_more_line line (closed_all lines ++ rest) all.0
    ∙ ap (λ l. line ∷ l) (lines_closed lines rest all.1)

pub session_back : (plan : LabPlan) (j : ℕ) (session : SessionPlan) → IsPlan plan → IsGranted plan j session
    → sessions_in plan j (session_text plan session) ≡ Ok (session ∷ [])
session_back plan j session is may =
    let lines = session_lines plan session in
    let cut : text_lines (session_text plan session) ≡ lines =
    ap text_lines (session_closed plan session ∙ sym (append-nil (closed_all lines))) ∙ lines_closed lines [] (session_shown plan j session is may)
    ∙ ap (λ l. lines ++ l) no_text ∙ append-nil lines in
    ap (more_in plan j 1 no_sessions) cut ∙ lines_back plan j session is may
