-- The lines of a session that came, and what is read of them.
use Rattle.std.proofs.Common.{◌≡◌, ℕ, zero, suc, ◌+◌, ◌<◌, Bool, true, false, not, ◌&&◌, ◌==◌, ◌||◌, if◌then◌else◌, List, [], ◌∷◌, ◌++◌, length, map, take, drop, subst, refl, sym, ap, ◌∙◌, arith, append_assoc, append-nil}
use Rattle.std.specs.Prelude.{Option, None, Some, codes, decimal, nat_le}
use Rattle.std.specs.List.{AllByRecursion, flat_map, list_all, cons_option}
use Rattle.std.specs.Option.{option_map}
use Rattle.std.specs.Str.{bytes_eq}
use Rattle.std.proofs.lemmas.Bool.Decides.{nat_tests}
use Rattle.std.proofs.lemmas.List.{map-append}
use Rattle.lab_plan.specs.declared.verb.Verb.{Verb}
use Rattle.lab_plan.specs.LabPlan.{LabPlan, SessionPlan, no_job}
use Rattle.lab_plan.specs.IsPlan.{IsPlan}
use Rattle.lab_plan.specs.Texts.{job_name, instrument_name, verb_text}
use Rattle.lab_plan.specs.Upgrade.{session_line, command_text, session_text}
use Rattle.lab_plan.proofs.OneMore.{IsGranted, below}
use Rattle.script_reader.specs.Script.{text_lines}
use Rattle.script_reader.specs.Steps.{step_in, step_among, list_of}
use Rattle.script_reader.proofs.UpgradeText.{is_shown, is_dark, dark_shown, one_more_line, fields_one, fields_more}
use Rattle.script_reader.proofs.UpgradeForms.{name_parts, shown_behind}
use Rattle.journal_texts.specs.Texts.{sum_line}
use Rattle.journal_texts.specs.Sums.{is_begin, is_sum, wrong_from}
use Rattle.journal_texts.specs.More.{more_command, more_lines, begun, first_lines, broken}
use Rattle.journal_texts.specs.Parts.{Mark, Own, End, said, ArePlain, mark_line, mark_words, marks_text, AreMarks}
use Rattle.journal_texts.specs.Additions.{Addition, is_more, is_inner, session_in, addition_of, additions_from}
use Rattle.journal_texts.proofs.SessionBack.{begin_line, command_line, session_lines, closed_all, session_closed, CanSay, can_say, AreShown, session_shown, lines_closed, closed_both}
use Rattle.journal_texts.proofs.PieceLines.{sum_then, plain_then}
use Rattle.journal_texts.proofs.Read.{sum_skipped, sum_isnt_more, not_wrong, end_right}

-- a line of the session, as the journal has it
abbrev pub plus : List ℕ → List ℕ
plus line = codes "#+" ++ line

abbrev pub first_of : LabPlan → ℕ → List ℕ
first_of plan j = codes "#more " ++ job_name plan j

-- the lines between `#steps` and the sum
abbrev pub more_all : LabPlan → ℕ → SessionPlan → List (List ℕ)
more_all plan j session = first_of plan j ∷ map plus (session_lines plan session)

-- ---- the text is these lines, each with its end

begin_plus : (patience : Option ℕ) (rest : List ℕ) → (codes "\n#+" ++ session_line patience) ++ rest ≡ 10 ∷ (plus (begin_line patience) ++ 10 ∷ rest)
begin_plus None rest = refl
begin_plus (Some n) rest = ap (λ l. codes "\n#+session patience " ++ l) (append_assoc (decimal n) (codes "\n") rest)

commands_plus : (plan : LabPlan) (commands : List (ℕ × Verb)) (rest : List (List ℕ))
    → flat_map (more_command plan) commands ++ closed_all rest ≡ closed_all (map plus (map (command_line plan) commands) ++ rest)
commands_plus plan [] rest = refl
commands_plus plan (c ∷ commands) rest =
    let line = plus (command_line plan c) in
    append_assoc (more_command plan c) (flat_map (more_command plan) commands) (closed_all rest)
    ∙ ap (λ l. (codes "#+" ++ l) ++ (flat_map (more_command plan) commands ++ closed_all rest)) (command_ends c)
    ∙ append_assoc line (10 ∷ []) (flat_map (more_command plan) commands ++ closed_all rest)
    ∙ ap (λ l. line ++ 10 ∷ l) (commands_plus plan commands rest)
  where
    command_ends : (c : ℕ × Verb) → command_text plan c ≡ command_line plan c ++ 10 ∷ []
    command_ends c = ap (λ l. l ++ 10 ∷ []) (append_assoc (instrument_name plan c.0) (codes " ") (verb_text c.1))

pub more_closed : (plan : LabPlan) (j : ℕ) (session : SessionPlan) → more_lines plan j session ≡ closed_all (more_all plan j session)
more_closed plan j session =
    let front = codes "#more " ++ job_name plan j in
    let begin = session_line session.patience in
    let inner = flat_map (more_command plan) session.commands in
    let end = codes "#+end\n" in
    append_assoc ((front ++ codes "\n#+") ++ begin) inner end
    ∙ ap (λ l. l ++ (inner ++ end)) (append_assoc front (codes "\n#+") begin)
    ∙ append_assoc front (codes "\n#+" ++ begin) (inner ++ end)
    ∙ ap (λ l. front ++ l) (begin_plus session.patience (inner ++ end)
    ∙ ap (λ l. 10 ∷ (plus (begin_line session.patience) ++ 10 ∷ l)) (commands_plus plan session.commands (codes "#+end" ∷ [])
    ∙ ap closed_all (sym (map-append plus (map (command_line plan) session.commands) (codes "end" ∷ [])))))

-- ---- its lines are shown

plus_shown : (lines : List (List ℕ)) → AreShown lines
    → AreShown (map plus lines)
plus_shown [] all = tt
plus_shown (line ∷ lines) all = (all.0, plus_shown lines all.1)

first_shown : (plan : LabPlan) (j : ℕ) → IsPlan plan → j < length plan.jobs → list_all is_shown (first_of plan j) ≡ true
first_shown plan j is there =
    let parts = name_parts (job_name plan j) (is.draft.job_names j no_job there) in
    shown_behind (codes "#more ") (job_name plan j) refl (dark_shown (job_name plan j) parts.dark)

-- the line of their sum, if it is there
abbrev pub closing : List ℕ → Bool → List (List ℕ)
closing lines ended = if ended then sum_line lines ∷ [] else []

-- the lines of the text, with its begin and its sum
abbrev pub more_part : LabPlan → ℕ → SessionPlan → Bool → List (List ℕ)
more_part plan j session ended = codes "#steps" ∷ (more_all plan j session ++ closing (more_lines plan j session) ended)

closing_then : (lines : List ℕ) (ended : Bool) (rest : List ℕ)
    → text_lines ((if ended then sum_line lines ++ codes "\n" else []) ++ rest) ≡ closing lines ended ++ text_lines rest
closing_then lines true rest = sum_then lines rest
closing_then lines false rest = refl

pub part_then : (plan : LabPlan) (j : ℕ) (session : SessionPlan) (ended : Bool) (rest : List ℕ) → IsPlan plan → j < length plan.jobs → IsGranted plan j session
    → text_lines (begun (more_lines plan j session) ended ++ rest) ≡ more_part plan j session ended ++ text_lines rest
part_then plan j session ended rest is there may =
    let lines = more_lines plan j session in
    let all = more_all plan j session in
    let end : List ℕ = if ended then sum_line lines ++ codes "\n" else [] in
    ap text_lines (append_assoc (codes "#steps\n" ++ lines) end rest ∙ append_assoc (codes "#steps\n") lines (end ++ rest))
    ∙ one_more_line (codes "#steps") (lines ++ (end ++ rest)) refl
    ∙ ap (λ l. codes "#steps" ∷ l) (ap (λ l. text_lines (l ++ (end ++ rest))) (more_closed plan j session)
    ∙ lines_closed all (end ++ rest) (first_shown plan j is there, plus_shown (session_lines plan session) (session_shown plan j session is may))
    ∙ ap (λ l. all ++ l) (closing_then lines ended rest)
    ∙ sym (append_assoc all (closing lines ended) (text_lines rest)))

-- ---- no step is among them

hash_skipped : (plan : LabPlan) (word rest : List ℕ) → list_all is_dark (35 ∷ word) ≡ true → step_in plan ((35 ∷ word) ++ 32 ∷ rest) ≡ None
hash_skipped plan word rest dark = ap (step_among plan) (fields_more (35 ∷ word) rest dark (omega arith))

word_skipped : (plan : LabPlan) (word : List ℕ) → list_all is_dark (35 ∷ word) ≡ true → step_in plan (35 ∷ word) ≡ None
word_skipped plan word dark = ap (step_among plan) (fields_one (35 ∷ word) dark (omega arith))

abbrev AreSkipped : LabPlan → List (List ℕ) → Type 0
AreSkipped plan lines = AllByRecursion (λ (line : List ℕ). step_in plan line ≡ None) lines

commands_skipped : (plan of : LabPlan) (j : ℕ) (commands : List (ℕ × Verb)) (end : List (List ℕ)) → IsPlan of → AllByRecursion (CanSay of j) commands → AreSkipped plan end
    → AreSkipped plan (map plus (map (command_line of) commands) ++ end)
commands_skipped plan of j [] end is can skipped = skipped
commands_skipped plan of j (c ∷ commands) end is can skipped =
    let name = instrument_name of c.0 in
    let parts = name_parts name (is.draft.instrument_names c.0 [] can.0.there) in
    (hash_skipped plan (43 ∷ name) (verb_text c.1) parts.dark, commands_skipped plan of j commands end is can.1 skipped)

begin_skipped : (plan : LabPlan) (patience : Option ℕ) → step_in plan (plus (begin_line patience)) ≡ None
begin_skipped plan None = word_skipped plan (codes "+session") refl
begin_skipped plan (Some n) = hash_skipped plan (codes "+session") (codes "patience " ++ decimal n) refl

closing_skipped : (plan : LabPlan) (lines : List ℕ) (ended : Bool) → AreSkipped plan (closing lines ended)
closing_skipped plan lines true = (sum_skipped plan lines, tt)
closing_skipped plan lines false = tt

pub all_skipped : (plan of : LabPlan) (j : ℕ) (session : SessionPlan) (ended : Bool) → IsPlan of → IsGranted of j session
    → AreSkipped plan (more_part of j session ended)
all_skipped plan of j session ended is may =
    let can = can_say of j session.commands (below of j session is.draft.named may.own) may.own may.fit in
    let inner = map plus (map (command_line of) session.commands) in
    let sum = closing (more_lines of j session) ended in
    let cut : inner ++ codes "#+end" ∷ sum ≡ map plus (map (command_line of) session.commands ++ codes "end" ∷ []) ++ sum =
    sym (append_assoc inner (codes "#+end" ∷ []) sum)
    ∙ ap (λ (l : List (List ℕ)). l ++ sum) (sym (map-append plus (map (command_line of) session.commands) (codes "end" ∷ []))) in
    let rest = subst (AreSkipped plan) cut (commands_skipped plan of j session.commands (codes "#+end" ∷ sum) is can
    (word_skipped plan (codes "+end") refl, closing_skipped plan (more_lines of j session) ended)) in
    (word_skipped plan (codes "steps") refl, (hash_skipped plan (codes "more") (job_name of j) refl, (begin_skipped plan session.patience, rest)))

pub none_listed : (plan : LabPlan) (n : ℕ) (lines rest : List (List ℕ)) → AreSkipped plan lines → list_of plan n (lines ++ rest) ≡ list_of plan (n + length lines) rest
none_listed plan n [] rest all = let same : n ≡ n + 0 = omega arith in ap (λ k. list_of plan k rest) same
none_listed plan n (line ∷ lines) rest all =
    let same : n + 1 + length lines ≡ n + suc (length lines) = omega arith in
    ap (λ found. cons_option (option_map (λ it. (n, it)) found) (list_of plan (n + 1) (lines ++ rest))) all.0
    ∙ none_listed plan (n + 1) lines rest all.1 ∙ ap (λ k. list_of plan k rest) same

-- ---- they are one addition

and_no : (a : Bool) → (a && false) ≡ false
and_no true = refl
and_no false = refl

not_end : (name rest : List ℕ) → bytes_eq (name ++ 32 ∷ rest) (codes "end") ≡ false
not_end [] rest = refl
not_end (a ∷ []) rest = and_no (a == 101)
not_end (a ∷ b ∷ []) rest = ap (λ t. (a == 101) && t) (and_no (b == 110)) ∙ and_no (a == 101)
not_end (a ∷ b ∷ c ∷ []) rest = ap (λ t. (a == 101) && ((b == 110) && t)) (and_no (c == 100)) ∙ ap (λ t. (a == 101) && t) (and_no (b == 110)) ∙ and_no (a == 101)
not_end (a ∷ b ∷ c ∷ d ∷ name) rest =
    ap (λ t. (a == 101) && ((b == 110) && t)) (and_no (c == 100)) ∙ ap (λ t. (a == 101) && t) (and_no (b == 110)) ∙ and_no (a == 101)

two_more : (n : ℕ) → nat_le 2 (suc (suc n)) ≡ true
two_more n = grind (arith, nat_tests)

plus_inner : (line : List ℕ) → is_inner (plus line) ≡ true
plus_inner line = ap (λ t. t && true) (two_more (length line))

one_inner : (line : List ℕ) (lines : List (List ℕ)) (text : List ℕ) → bytes_eq line (codes "end") ≡ false → session_in lines ≡ Some text
    → session_in (plus line ∷ lines) ≡ Some (line ++ 10 ∷ text)
one_inner line lines text other is =
    (λ i. if other i then Some (codes "end\n") else (if plus_inner line i then option_map (λ l. line ++ codes "\n" ++ l) (is i) else None))
    ∙ ap Some (append_assoc line (codes "\n") text)

commands_inner : (plan : LabPlan) (commands : List (ℕ × Verb)) (rest : List (List ℕ)) (text : List ℕ) → session_in rest ≡ Some text
    → session_in (map plus (map (command_line plan) commands) ++ rest) ≡ Some (closed_all (map (command_line plan) commands) ++ text)
commands_inner plan [] rest text is = is
commands_inner plan (c ∷ commands) rest text is =
    let line = command_line plan c in
    let all = closed_all (map (command_line plan) commands) in
    one_inner line (map plus (map (command_line plan) commands) ++ rest) (all ++ text) (not_end (instrument_name plan c.0) (verb_text c.1))
    (commands_inner plan commands rest text is) ∙ ap Some (sym (append_assoc line (10 ∷ all) text))

begin_isnt_end : (patience : Option ℕ) → bytes_eq (begin_line patience) (codes "end") ≡ false
begin_isnt_end None = refl
begin_isnt_end (Some n) = refl

session_whole : (plan : LabPlan) (session : SessionPlan) (rest : List (List ℕ))
    → session_in (map plus (session_lines plan session) ++ rest) ≡ Some (session_text plan session)
session_whole plan session rest =
    let begin = begin_line session.patience in
    let inner = map (command_line plan) session.commands in
    let cut : map plus (inner ++ codes "end" ∷ []) ++ rest ≡ map plus inner ++ codes "#+end" ∷ rest =
    ap (λ l. l ++ rest) (map-append plus inner (codes "end" ∷ [])) ∙ append_assoc (map plus inner) (codes "#+end" ∷ []) rest in
    let own = commands_inner plan session.commands (codes "#+end" ∷ rest) (codes "end\n") refl in
    one_inner begin (map plus (inner ++ codes "end" ∷ []) ++ rest) (closed_all inner ++ codes "end\n") (begin_isnt_end session.patience) (ap session_in cut ∙ own)
    ∙ ap Some (ap (λ l. begin ++ 10 ∷ l) (sym (closed_both inner (codes "end" ∷ []))) ∙ sym (session_closed plan session))

-- lines that begin no addition
pub none_added : (n : ℕ) (lines rest : List (List ℕ)) → AllByRecursion (λ (line : List ℕ). is_more line ≡ false) lines
    → additions_from n (lines ++ rest) ≡ additions_from (n + length lines) rest
none_added n [] rest all = let same : n ≡ n + 0 = omega arith in ap (λ k. additions_from k rest) same
none_added n (line ∷ lines) rest all =
    let same : n + 1 + length lines ≡ n + suc (length lines) = omega arith in
    ap (λ t. (if t then addition_of n (drop 6 line) (session_in (lines ++ rest)) else []) ++ additions_from (n + 1) (lines ++ rest)) all.0
    ∙ none_added (n + 1) lines rest all.1 ∙ ap (λ k. additions_from k rest) same

more_first : (name : List ℕ) → is_more (codes "#more " ++ name) ≡ true
more_first name = ap (λ t. t && true) (six_more (length name))
  where
    six_more : (n : ℕ) → nat_le 6 (suc (suc (suc (suc (suc (suc n)))))) ≡ true
    six_more n = grind (arith, nat_tests)

plus_no_more : (line : List ℕ) → is_more (plus line) ≡ false
plus_no_more line = and_no (nat_le 6 (length (plus line)))

all_no_more : (lines end : List (List ℕ)) → AllByRecursion (λ (line : List ℕ). is_more line ≡ false) end → AllByRecursion (λ (line : List ℕ). is_more line ≡ false) (map plus lines ++ end)
all_no_more [] end none = none
all_no_more (line ∷ lines) end none = (plus_no_more line, all_no_more lines end none)

-- the addition of the text whose first line has this number
abbrev pub addition_at : ℕ → LabPlan → ℕ → SessionPlan → Addition
addition_at n plan j session = record { line = n + 1; job = job_name plan j; session = session_text plan session }

closing_no_more : (lines : List ℕ) (ended : Bool) → AllByRecursion (λ (line : List ℕ). is_more line ≡ false) (closing lines ended)
closing_no_more lines true = (sum_isnt_more lines, tt)
closing_no_more lines false = tt

pub part_added : (n : ℕ) (plan : LabPlan) (j : ℕ) (session : SessionPlan) (ended : Bool) (rest : List (List ℕ))
    → additions_from n (more_part plan j session ended ++ rest)
    ≡ addition_at n plan j session ∷ additions_from (n + length (more_part plan j session ended)) rest
part_added n plan j session ended rest =
    let lines = session_lines plan session in
    let name = job_name plan j in
    let sum = closing (more_lines plan j session) ended in
    let behind = (map plus lines ++ sum) ++ rest in
    let cut = append_assoc (map plus lines) sum rest in
    let same : n + 1 + 1 + length (map plus lines ++ sum) ≡ n + suc (suc (length (map plus lines ++ sum))) = omega arith in
    ap (λ t. (if t then addition_of (n + 1) name (session_in behind) else []) ++ additions_from (n + 1 + 1) behind) (more_first name)
    ∙ (λ i. addition_of (n + 1) name ((ap session_in cut ∙ session_whole plan session (sum ++ rest)) i)
    ++ (none_added (n + 1 + 1) (map plus lines ++ sum) rest (all_no_more lines sum (closing_no_more (more_lines plan j session) ended))
    ∙ ap (λ k. additions_from k rest) same) i)

-- ---- their sum is right

-- a line of these is no mark
line_added : (n : ℕ) (text line : List ℕ) (lines : List (List ℕ)) → is_begin line ≡ false → is_sum line ≡ false
    → wrong_from n text (line ∷ lines) ≡ wrong_from (n + 1) (text ++ line ++ codes "\n") lines
line_added n text line lines begin sum =
    not_wrong n text line lines (ap (λ b. b && not (bytes_eq line (sum_line text))) sum)
    ∙ ap (λ t. wrong_from (n + 1) t lines) (λ i. if begin i || sum i then [] else text ++ line ++ codes "\n")

abbrev AreNoMarks : List (List ℕ) → Type 0
AreNoMarks lines = AllByRecursion (λ (line : List ℕ). (is_begin line ≡ false) × (is_sum line ≡ false)) lines

lines_added : (n : ℕ) (text : List ℕ) (own lines : List (List ℕ)) → AreNoMarks own
    → wrong_from n text (own ++ lines) ≡ wrong_from (n + length own) (text ++ closed_all own) lines
lines_added n text [] lines none = (let same : n ≡ n + 0 = omega arith in λ i. wrong_from (same i) (sym (append-nil text) i) lines)
lines_added n text (line ∷ own) lines none =
    let one : n + 1 + length own ≡ n + suc (length own) = omega arith in
    line_added n text line (own ++ lines) none.0.0 none.0.1 ∙ lines_added (n + 1) (text ++ line ++ codes "\n") own lines none.1
    ∙ (λ i. wrong_from (one i) ((append_assoc (text ++ line) (codes "\n") (closed_all own) ∙ append_assoc text line (10 ∷ closed_all own)) i) lines)

plus_no_mark : (lines : List (List ℕ)) → AreNoMarks (map plus lines)
plus_no_mark [] = tt
plus_no_mark (line ∷ lines) = ((refl, and_no (nat_le 5 (length (plus line)))), plus_no_mark lines)

all_no_marks : (plan : LabPlan) (j : ℕ) (session : SessionPlan) → AreNoMarks (more_all plan j session)
all_no_marks plan j session = ((refl, and_no (nat_le 5 (length (first_of plan j)))), plus_no_mark (session_lines plan session))

pub more_right : (n : ℕ) (text : List ℕ) (plan : LabPlan) (j : ℕ) (session : SessionPlan) (ended : Bool) (lines : List (List ℕ))
    → ((m : ℕ) (t : List ℕ) → wrong_from m t lines ≡ None) → wrong_from n text (more_part plan j session ended ++ lines) ≡ None
more_right n text plan j session ended lines more =
    let all = more_all plan j session in
    let sum = closing (more_lines plan j session) ended in
    ap (λ (z : List (List ℕ)). wrong_from (n + 1) [] z) (append_assoc all sum lines)
    ∙ lines_added (n + 1) [] all (sum ++ lines) (all_no_marks plan j session)
    ∙ ap (λ t. wrong_from (n + 1 + length all) t (sum ++ lines)) (sym (more_closed plan j session))
    ∙ end_right (n + 1 + length all) (more_lines plan j session) ended lines more

-- ---- a text that broke off

-- its lines, but for the last, `#+end`
abbrev pub body : LabPlan → ℕ → SessionPlan → List (List ℕ)
body plan j session = first_of plan j ∷ map plus (begin_line session.patience ∷ map (command_line plan) session.commands)

abbrev pub broke_part : LabPlan → ℕ → SessionPlan → ℕ → List (List ℕ)
broke_part plan j session many = codes "#steps" ∷ take many (body plan j session)

pub body_end : (plan : LabPlan) (j : ℕ) (session : SessionPlan) → more_all plan j session ≡ body plan j session ++ codes "#+end" ∷ []
body_end plan j session =
    ap (λ (l : List (List ℕ)). first_of plan j ∷ plus (begin_line session.patience) ∷ l) (map-append plus (map (command_line plan) session.commands) (codes "end" ∷ []))

-- what holds of all lines holds of the first ones
first_all : (P : List ℕ → Type 0) (a b : List (List ℕ)) → AllByRecursion P (a ++ b) → AllByRecursion P a
first_all P [] b all = tt
first_all P (x ∷ a) b all = (all.0, first_all P a b all.1)

take_by : (P : List ℕ → Type 0) (n : ℕ) (l : List (List ℕ)) → AllByRecursion P l → AllByRecursion P (take n l)
take_by P zero l all = tt
take_by P (suc n) [] all = tt
take_by P (suc n) (x ∷ l) all = (all.0, take_by P n l all.1)

pub of_body : (P : List ℕ → Type 0) (plan : LabPlan) (j : ℕ) (session : SessionPlan) (many : ℕ) → AllByRecursion P (more_all plan j session)
    → AllByRecursion P (take many (body plan j session))
of_body P plan j session many all =
    take_by P many (body plan j session)
    (first_all P (body plan j session) (codes "#+end" ∷ []) (subst (AllByRecursion P) (body_end plan j session) all))

pub all_shown : (plan : LabPlan) (j : ℕ) (session : SessionPlan) → IsPlan plan → j < length plan.jobs → IsGranted plan j session → AreShown (more_all plan j session)
all_shown plan j session is there may = (first_shown plan j is there, plus_shown (session_lines plan session) (session_shown plan j session is may))

-- its text is these lines, each with its end
abbrev fed : List ℕ → List ℕ
fed line = line ++ 10 ∷ []

begin_fed : (patience : Option ℕ) → codes "#+" ++ session_line patience ≡ fed (plus (begin_line patience))
begin_fed None = refl
begin_fed (Some n) = refl

commands_fed : (plan : LabPlan) (commands : List (ℕ × Verb)) → map (more_command plan) commands ≡ map fed (map plus (map (command_line plan) commands))
commands_fed plan [] = refl
commands_fed plan (c ∷ commands) =
    λ i. (codes "#+" ++ append_assoc (instrument_name plan c.0) (codes " ") (verb_text c.1) i ++ 10 ∷ []) ∷ commands_fed plan commands i

first_fed : (plan : LabPlan) (j : ℕ) (session : SessionPlan) → first_lines plan j session ≡ map fed (body plan j session)
first_fed plan j session =
    λ i. fed (first_of plan j) ∷ begin_fed session.patience i ∷ commands_fed plan session.commands i

take_map : {A B : Type 0} (f : A → B) (n : ℕ) (l : List A) → take n (map f l) ≡ map f (take n l)
take_map f zero l = refl
take_map f (suc n) [] = refl
take_map f (suc n) (x ∷ l) = ap (λ z. f x ∷ z) (take_map f n l)

fed_closed : (lines : List (List ℕ)) → flat_map (λ (line : List ℕ). line) (map fed lines) ≡ closed_all lines
fed_closed [] = refl
fed_closed (line ∷ lines) =
    append_assoc line (10 ∷ []) (flat_map (λ (l : List ℕ). l) (map fed lines)) ∙ ap (λ l. line ++ 10 ∷ l) (fed_closed lines)

pub broken_closed : (plan : LabPlan) (j : ℕ) (session : SessionPlan) (many : ℕ) → broken plan j session many ≡ closed_all (broke_part plan j session many)
broken_closed plan j session many =
    ap (λ l. codes "#steps\n" ++ l) (ap (λ (l : List (List ℕ)). flat_map (λ (line : List ℕ). line) (take many l)) (first_fed plan j session)
    ∙ ap (λ (l : List (List ℕ)). flat_map (λ (line : List ℕ). line) l) (take_map fed many (body plan j session)) ∙ fed_closed (take many (body plan j session)))

pub broken_then : (plan : LabPlan) (j : ℕ) (session : SessionPlan) (many : ℕ) (rest : List ℕ) → IsPlan plan → j < length plan.jobs → IsGranted plan j session
    → text_lines (broken plan j session many ++ rest) ≡ broke_part plan j session many ++ text_lines rest
broken_then plan j session many rest is there may =
    ap (λ l. text_lines (l ++ rest)) (broken_closed plan j session many)
    ∙ lines_closed (broke_part plan j session many) rest
    (refl, of_body (λ (line : List ℕ). list_all is_shown line ≡ true) plan j session many (all_shown plan j session is there may))

-- no step is among them
pub broken_skipped : (plan of : LabPlan) (j : ℕ) (session : SessionPlan) (many : ℕ) → IsPlan of → IsGranted of j session
    → AreSkipped plan (broke_part of j session many)
broken_skipped plan of j session many is may =
    let all = all_skipped plan of j session false is may in (
      all.0,
      of_body (λ (line : List ℕ). step_in plan line ≡ None) of j session many
          (subst (AreSkipped plan) (append-nil (more_all of j session)) all.1),
    )

-- they are no addition, unless what follows goes on with it
one_none : (line : List ℕ) (lines : List (List ℕ)) → bytes_eq line (codes "end") ≡ false → session_in lines ≡ None → session_in (plus line ∷ lines) ≡ None
one_none line lines other is =
    λ i. if other i then Some (codes "end\n") else (if plus_inner line i then option_map (λ l. line ++ codes "\n" ++ l) (is i) else None)

commands_none : (plan : LabPlan) (n : ℕ) (commands : List (ℕ × Verb)) (rest : List (List ℕ)) → session_in rest ≡ None
    → session_in (take n (map plus (map (command_line plan) commands)) ++ rest) ≡ None
commands_none plan zero commands rest is = is
commands_none plan (suc n) [] rest is = is
commands_none plan (suc n) (c ∷ commands) rest is =
    one_none (command_line plan c) (take n (map plus (map (command_line plan) commands)) ++ rest) (not_end (instrument_name plan c.0) (verb_text c.1))
    (commands_none plan n commands rest is)

inner_none : (plan : LabPlan) (n : ℕ) (session : SessionPlan) (rest : List (List ℕ)) → session_in rest ≡ None
    → session_in (take n (map plus (begin_line session.patience ∷ map (command_line plan) session.commands)) ++ rest) ≡ None
inner_none plan zero session rest is = is
inner_none plan (suc n) session rest is =
    one_none (begin_line session.patience) (take n (map plus (map (command_line plan) session.commands)) ++ rest) (begin_isnt_end session.patience)
    (commands_none plan n session.commands rest is)

plus_none_more : (lines : List (List ℕ)) → AllByRecursion (λ (line : List ℕ). is_more line ≡ false) (map plus lines)
plus_none_more [] = tt
plus_none_more (line ∷ lines) = (plus_no_more line, plus_none_more lines)

pub broken_added : (n : ℕ) (plan : LabPlan) (j : ℕ) (session : SessionPlan) (many : ℕ) (rest : List (List ℕ)) → session_in rest ≡ None
    → additions_from n (broke_part plan j session many ++ rest) ≡ additions_from (n + length (broke_part plan j session many)) rest
broken_added n plan j session zero rest is = refl
broken_added n plan j session (suc many) rest is =
    let inner : List (List ℕ) = take many (map plus (begin_line session.patience ∷ map (command_line plan) session.commands)) in
    let name = job_name plan j in
    let same : n + 1 + 1 + length inner ≡ n + suc (suc (length inner)) = omega arith in
    ap (λ t. (if t then addition_of (n + 1) name (session_in (inner ++ rest)) else []) ++ additions_from (n + 1 + 1) (inner ++ rest)) (more_first name)
    ∙ (λ i. addition_of (n + 1) name (inner_none plan many session rest is i)
    ++ (none_added (n + 1 + 1) inner rest
    (take_by (λ (line : List ℕ). is_more line ≡ false) many (map plus (begin_line session.patience ∷ map (command_line plan) session.commands))
    (plus_none_more (begin_line session.patience ∷ map (command_line plan) session.commands)))
    ∙ ap (λ k. additions_from k rest) same) i)

-- they have no sum
pub broken_right : (n : ℕ) (text : List ℕ) (plan : LabPlan) (j : ℕ) (session : SessionPlan) (many : ℕ) (lines : List (List ℕ))
    → ((m : ℕ) (t : List ℕ) → wrong_from m t lines ≡ None) → wrong_from n text (broke_part plan j session many ++ lines) ≡ None
broken_right n text plan j session many lines more =
    let own = take many (body plan j session) in
    lines_added (n + 1) [] own lines (of_body (λ (line : List ℕ). (is_begin line ≡ false) × (is_sum line ≡ false)) plan j session many (all_no_marks plan j session))
    ∙ more (n + 1 + length own) ([] ++ closed_all own)

-- ---- a comment

pub said_skipped : (plan : LabPlan) (words : List ℕ) → step_in plan (said words) ≡ None
said_skipped plan words = hash_skipped plan [] words refl

pub said_none : (words : List ℕ) (lines : List (List ℕ)) → session_in (said words ∷ lines) ≡ None
said_none words lines =
    ap (λ t. if t then option_map (λ text. drop 2 (said words) ++ codes "\n" ++ text) (session_in lines) else None) (and_no (nat_le 2 (length (said words))))

pub said_added : (n : ℕ) (words : List ℕ) (rest : List (List ℕ)) → additions_from n (said words ∷ rest) ≡ additions_from (n + 1) rest
said_added n words rest = none_added n (said words ∷ []) rest (and_no (nat_le 6 (length (said words))), tt)

pub said_right : (n : ℕ) (text words : List ℕ) (lines : List (List ℕ)) → ((m : ℕ) (t : List ℕ) → wrong_from m t lines ≡ None)
    → wrong_from n text (said words ∷ lines) ≡ None
said_right n text words lines more =
    line_added n text (said words) lines refl (and_no (nat_le 5 (length (said words)))) ∙ more (n + 1) (text ++ said words ++ codes "\n")

-- ---- lines of whoever keeps the lab

abbrev pub note_part : List Mark → Bool → List (List ℕ)
note_part marks ended = codes "#steps" ∷ (map mark_line marks ++ closing (marks_text marks) ended)

pub mark_plain : (m : Mark) → ArePlain (mark_words m) → ArePlain (mark_line m)
mark_plain (Own words) plain = plain
mark_plain (End words) plain = plain

pub marks_closed : (marks : List Mark) → marks_text marks ≡ closed_all (map mark_line marks)
marks_closed [] = refl
marks_closed (m ∷ marks) =
    append_assoc (mark_line m) (codes "\n") (marks_text marks) ∙ ap (λ (l : List ℕ). mark_line m ++ 10 ∷ l) (marks_closed marks)

marks_then : (marks : List Mark) (rest : List ℕ) → AreMarks marks → text_lines (marks_text marks ++ rest) ≡ map mark_line marks ++ text_lines rest
marks_then [] rest all = refl
marks_then (m ∷ marks) rest all =
    ap text_lines (append_assoc (mark_line m ++ codes "\n") (marks_text marks) rest)
    ∙ plain_then (mark_line m) (marks_text marks ++ rest) (mark_plain m all.0)
    ∙ ap (λ (l : List (List ℕ)). mark_line m ∷ l) (marks_then marks rest all.1)

pub noted_then : (marks : List Mark) (ended : Bool) (rest : List ℕ) → AreMarks marks
    → text_lines (begun (marks_text marks) ended ++ rest) ≡ note_part marks ended ++ text_lines rest
noted_then marks ended rest all =
    let lines = marks_text marks in
    let end : List ℕ = if ended then sum_line lines ++ codes "\n" else [] in
    ap text_lines (append_assoc (codes "#steps\n" ++ lines) end rest ∙ append_assoc (codes "#steps\n") lines (end ++ rest))
    ∙ one_more_line (codes "#steps") (lines ++ (end ++ rest)) refl
    ∙ ap (λ (l : List (List ℕ)). codes "#steps" ∷ l) (marks_then marks (end ++ rest) all
    ∙ ap (λ (l : List (List ℕ)). map mark_line marks ++ l) (closing_then lines ended rest)
    ∙ sym (append_assoc (map mark_line marks) (closing lines ended) (text_lines rest)))

mark_skipped : (plan : LabPlan) (m : Mark) → step_in plan (mark_line m) ≡ None
mark_skipped plan (Own words) = hash_skipped plan (codes "own") words refl
mark_skipped plan (End words) = hash_skipped plan (codes "end") words refl

marks_skipped : (plan : LabPlan) (marks : List Mark) (end : List (List ℕ)) → AreSkipped plan end → AreSkipped plan (map mark_line marks ++ end)
marks_skipped plan [] end all = all
marks_skipped plan (m ∷ marks) end all = (mark_skipped plan m, marks_skipped plan marks end all)

pub noted_skipped : (plan : LabPlan) (marks : List Mark) (ended : Bool) → AreSkipped plan (note_part marks ended)
noted_skipped plan marks ended =
    (word_skipped plan (codes "steps") refl, marks_skipped plan marks (closing (marks_text marks) ended) (closing_skipped plan (marks_text marks) ended))

mark_no_more : (m : Mark) → is_more (mark_line m) ≡ false
mark_no_more (Own words) = and_no (nat_le 6 (length (mark_line (Own words))))
mark_no_more (End words) = and_no (nat_le 6 (length (mark_line (End words))))

marks_no_more : (marks : List Mark) (end : List (List ℕ)) → AllByRecursion (λ (line : List ℕ). is_more line ≡ false) end
    → AllByRecursion (λ (line : List ℕ). is_more line ≡ false) (map mark_line marks ++ end)
marks_no_more [] end none = none
marks_no_more (m ∷ marks) end none = (mark_no_more m, marks_no_more marks end none)

pub noted_added : (n : ℕ) (marks : List Mark) (ended : Bool) (rest : List (List ℕ))
    → additions_from n (note_part marks ended ++ rest) ≡ additions_from (n + length (note_part marks ended)) rest
noted_added n marks ended rest =
    none_added n (note_part marks ended) rest
    (refl, marks_no_more marks (closing (marks_text marks) ended) (closing_no_more (marks_text marks) ended))

mark_no_mark : (m : Mark) → (is_begin (mark_line m) ≡ false) × (is_sum (mark_line m) ≡ false)
mark_no_mark (Own words) = (refl, and_no (nat_le 5 (length (mark_line (Own words)))))
mark_no_mark (End words) = (refl, and_no (nat_le 5 (length (mark_line (End words)))))

marks_no_marks : (marks : List Mark) → AreNoMarks (map mark_line marks)
marks_no_marks [] = tt
marks_no_marks (m ∷ marks) = (mark_no_mark m, marks_no_marks marks)

pub noted_right : (n : ℕ) (text : List ℕ) (marks : List Mark) (ended : Bool) (lines : List (List ℕ))
    → ((m : ℕ) (t : List ℕ) → wrong_from m t lines ≡ None) → wrong_from n text (note_part marks ended ++ lines) ≡ None
noted_right n text marks ended lines more =
    let all = map mark_line marks in
    let sum = closing (marks_text marks) ended in
    ap (λ (z : List (List ℕ)). wrong_from (n + 1) [] z) (append_assoc all sum lines)
    ∙ lines_added (n + 1) [] all (sum ++ lines) (marks_no_marks marks)
    ∙ ap (λ (t : List ℕ). wrong_from (n + 1 + length all) t (sum ++ lines)) (sym (marks_closed marks))
    ∙ end_right (n + 1 + length all) (marks_text marks) ended lines more
