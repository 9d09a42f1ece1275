-- The upgraded script of a plan means that plan.
use Rattle.std.proofs.Common.{◌≡◌, ℕ, ◌+◌, ◌≤◌, true, false, List, [], ◌∷◌, ◌++◌, get_or, refl, sym, ap, ◌∙◌, subst, arith, append_assoc, append-nil}
use Rattle.std.specs.Prelude.{Option, None, Some, codes, decimal, map}
use Rattle.std.specs.List.{AllByRecursion, flat_map, list_all}
use Rattle.std.specs.Option.{ForSome}
use Rattle.std.proofs.lemmas.Fmt.{decimal_digit}
use Rattle.std.proofs.lemmas.List.{map-append}
use Rattle.lab_plan.specs.declared.verb.Verb.{Verb}
use Rattle.lab_plan.specs.declared.verb.Verb.TheVariants.{Set, Add, Read}
use Rattle.lab_plan.specs.Verbs.{Fits}
use Rattle.lab_plan.specs.LabPlan.{SessionPlan, JobPlan, LabPlan}
use Rattle.lab_plan.specs.IsPlan.{IsPlan}
use Rattle.lab_plan.specs.Texts.{verb_text, header_line}
use Rattle.lab_plan.specs.Upgrade.{session_line, name_line, command_text, commands_text, session_text, job_text, script_text}
use Rattle.script_reader.specs.declared.form.Version.TheVariants.{Two}
use Rattle.script_reader.specs.Line.{Line, Header, Job, Session, PatientSession, Command, End, form_of}
use Rattle.script_reader.specs.Script.{text_lines, ScriptMeans}
use Rattle.script_reader.specs.State.{State, state_of}
use Rattle.script_reader.proofs.ReaderLoop.{IsReading, starts, reads, ends_well}
use Rattle.script_reader.proofs.UpgradeDrafts.{AreInstruments}
use Rattle.script_reader.proofs.UpgradeLines.{spelled, line_of_command, first_line, lines_of_session, lines_of_job, lines_of_plan, CanSay, CanRun, CanBegin, AreTaken}
use Rattle.script_reader.proofs.UpgradePlan.{plan_taken, ends_sound, instruments_of_plan, can_begin_all}
use Rattle.script_reader.proofs.UpgradeText.{is_shown, dark_shown, one_more_line, no_text}
use Rattle.script_reader.proofs.UpgradeForms.{NameParts, name_parts, header_form, job_form, session_form, patience_form, end_form, read_form, set_form, add_form, shown_behind, shown_decimal}

-- ---- a text and the lines that it writes

pub record Writes (text : List ℕ) (forms : List Line) : Type 0 where
  pub texts : List (List ℕ)
  pub split : (rest : List ℕ) → text_lines (text ++ rest) ≡ texts ++ text_lines rest
  pub forms_are : map form_of texts ≡ map Some forms

writes_none : Writes [] []
writes_none = record { texts = []; split = λ rest. refl; forms_are = refl }

writes_one : (line : List ℕ) (form : Line) → list_all is_shown line ≡ true → form_of line ≡ Some form → Writes (line ++ 10 ∷ []) (form ∷ [])
writes_one line form shown is =
    record {
      texts = line ∷ [];
      split = λ rest. ap text_lines (append_assoc line (10 ∷ []) rest) ∙ one_more_line line rest shown;
      forms_are = ap (λ f. f ∷ []) is;
    }

writes_both : (a b : List ℕ) (xs ys : List Line) → Writes a xs → Writes b ys → Writes (a ++ b) (xs ++ ys)
writes_both a b xs ys h k =
    record {
      texts = h.texts ++ k.texts;
      split = λ rest. ap text_lines (append_assoc a b rest) ∙ h.split (b ++ rest)
          ∙ ap (λ l. h.texts ++ l) (k.split rest) ∙ sym (append_assoc h.texts k.texts (text_lines rest));
      forms_are = map-append form_of h.texts k.texts ∙ (λ i. h.forms_are i ++ k.forms_are i) ∙ sym (map-append Some xs ys);
    }

-- ---- the parts of the upgraded script

abbrev command_shown : List ℕ → Verb → List ℕ
command_shown name verb = name ++ (codes " " ++ verb_text verb)

verb_shown : (verb : Verb) → Fits verb → list_all is_shown (codes " " ++ verb_text verb) ≡ true
verb_shown (Set n) fits = shown_behind (codes " set ") (decimal n) refl (shown_decimal n fits)
verb_shown (Add n) fits = shown_behind (codes " add ") (decimal n) refl (shown_decimal n fits)
verb_shown Read fits = refl

command_form : (name : List ℕ) (verb : Verb) → NameParts name → Fits verb → form_of (command_shown name verb) ≡ Some (Command name (spelled verb))
command_form name (Set n) h fits = set_form name n h fits
command_form name (Add n) h fits = add_form name n h fits
command_form name Read h fits = read_form name h

command_written : (plan : LabPlan) → AreInstruments plan.instruments → (command : ℕ × Verb)
    → CanSay plan.instruments command → Writes (command_text plan command) (line_of_command plan.instruments command ∷ [])
command_written plan h command can =
    let name = get_or plan.instruments command.0 [] in
    let parts = name_parts name (h.each command.0 [] can.0) in
    let form = Command name (spelled command.1) in
    let whole : command_shown name command.1 ++ 10 ∷ [] ≡ command_text plan command =
    ap (λ l. l ++ 10 ∷ []) (sym (append_assoc name (codes " ") (verb_text command.1))) in
    subst (λ t. Writes t (form ∷ [])) whole
    (writes_one (command_shown name command.1)
    form (shown_behind name (codes " " ++ verb_text command.1) (dark_shown name parts.dark) (verb_shown command.1 can.1))
    (command_form name command.1 parts can.1))

commands_written : (plan : LabPlan) → AreInstruments plan.instruments → (commands : List (ℕ × Verb))
    → AllByRecursion (CanSay plan.instruments) commands → Writes (commands_text plan commands) (map (line_of_command plan.instruments) commands)
commands_written plan h [] all = writes_none
commands_written plan h (command ∷ commands) all =
    writes_both (command_text plan command) (commands_text plan commands)
    (line_of_command plan.instruments command ∷ []) (map (line_of_command plan.instruments) commands)
    (command_written plan h command all.0) (commands_written plan h commands all.1)

begin_written : (patience : Option ℕ) → ForSome patience (λ n. n ≤ 999999) → Writes (session_line patience) (first_line patience ∷ [])
begin_written None fits = writes_one (codes "session") Session refl session_form
begin_written (Some n) fits =
    let small = fits n refl in
    writes_one (codes "session patience " ++ decimal n) (PatientSession (decimal n))
    (shown_behind (codes "session patience ") (decimal n) refl (shown_decimal n small)) (patience_form n small)

session_written : (plan : LabPlan) → AreInstruments plan.instruments → (session : SessionPlan)
    → CanRun plan.instruments session → Writes (session_text plan session) (lines_of_session plan.instruments session)
session_written plan h session can =
    let lines = map (line_of_command plan.instruments) session.commands in
    let begun = writes_both (session_line session.patience) (commands_text plan session.commands) (first_line session.patience ∷ []) lines
    (begin_written session.patience can.patience) (commands_written plan h session.commands can.commands) in
    writes_both (session_line session.patience ++ commands_text plan session.commands) (codes "end\n")
    (first_line session.patience ∷ lines) (End ∷ []) begun (writes_one (codes "end") End refl end_form)

sessions_written : (plan : LabPlan) → AreInstruments plan.instruments → (sessions : List SessionPlan) → AllByRecursion (CanRun plan.instruments) sessions
    → Writes (flat_map (session_text plan) sessions) (flat_map (lines_of_session plan.instruments) sessions)
sessions_written plan h [] all = writes_none
sessions_written plan h (session ∷ sessions) all =
    writes_both (session_text plan session) (flat_map (session_text plan) sessions)
    (lines_of_session plan.instruments session) (flat_map (lines_of_session plan.instruments) sessions)
    (session_written plan h session all.0) (sessions_written plan h sessions all.1)

job_written : (plan : LabPlan) → AreInstruments plan.instruments → (job : JobPlan)
    → CanBegin plan.instruments job → Writes (job_text plan job) (lines_of_job plan.instruments job)
job_written plan h job can =
    let parts = name_parts job.name can.is_name in
    writes_both (name_line job.name) (flat_map (session_text plan) job.sessions) (Job job.name ∷ []) (flat_map (lines_of_session plan.instruments) job.sessions)
    (writes_one (codes "job " ++ job.name) (Job job.name)
    (shown_behind (codes "job ") job.name refl (dark_shown job.name parts.dark)) (job_form job.name parts))
    (sessions_written plan h job.sessions can.sessions)

jobs_written : (plan : LabPlan) → AreInstruments plan.instruments → (jobs : List JobPlan)
    → AllByRecursion (CanBegin plan.instruments) jobs → Writes (flat_map (job_text plan) jobs) (flat_map (lines_of_job plan.instruments) jobs)
jobs_written plan h [] all = writes_none
jobs_written plan h (job ∷ jobs) all =
    writes_both (job_text plan job) (flat_map (job_text plan) jobs) (lines_of_job plan.instruments job) (flat_map (lines_of_job plan.instruments) jobs)
    (job_written plan h job all.0) (jobs_written plan h jobs all.1)

header_written : Writes (header_line 2) (Header Two ∷ [])
header_written =
    let two : decimal 2 ≡ codes "2" = decimal_digit 2 (omega arith) in
    subst (λ digits. Writes (codes "lab " ++ digits ++ codes "\n") (Header Two ∷ [])) (sym two) (writes_one (codes "lab 2") (Header Two) refl header_form)

plan_written : (plan : LabPlan) → IsPlan plan → Writes (script_text plan) (lines_of_plan plan)
plan_written plan h =
    writes_both (header_line 2) (flat_map (job_text plan) plan.jobs) (Header Two ∷ []) (flat_map (lines_of_job plan.instruments) plan.jobs) header_written
    (jobs_written plan (instruments_of_plan plan h) plan.jobs (can_begin_all plan h))

-- ---- reading them

read_all : (lines done texts more : List (List ℕ)) (forms : List Line) (n : ℕ) (s t : State)
    → map form_of texts ≡ map Some forms → AreTaken s forms t → IsReading lines done (texts ++ more) n s
    → (m : ℕ) × IsReading lines (done ++ texts) more m t
read_all lines done [] more [] n s t e taken h =
    (n, subst (λ d. IsReading lines d more n t) (sym (append-nil done)) (subst (IsReading lines done more n) taken h))
read_all lines done [] more (form ∷ forms) n s t e taken h = absurd (cc)
read_all lines done (text ∷ texts) more [] n s t e taken h = absurd (cc)
read_all lines done (text ∷ texts) more (form ∷ forms) n s t e taken h =
    let head : form_of text ≡ Some form = cc in
    let tail : map form_of texts ≡ map Some forms = cc in
    let next = reads lines text done (texts ++ more) n s _ (Some form) tt head h (taken.0, refl) in
    let rest = read_all lines (done ++ text ∷ []) texts more forms (n + 1) _ t tail taken.1 next in
    (rest.0, subst (λ d. IsReading lines d more rest.0 t) (append_assoc done (text ∷ []) texts) rest.1)

pub upgrade_means : (plan : LabPlan) → IsPlan plan → ScriptMeans (script_text plan) (record plan { version = 2 })
upgrade_means plan h =
    let written = plan_written plan h in
    let lines = text_lines (script_text plan) in
    let whole : lines ≡ written.texts ++ [] = ap text_lines (sym (append-nil (script_text plan))) ∙ written.split [] ∙ ap (λ l. written.texts ++ l) no_text in
    let last : State = record { fresh = false; version = Two; in_session = false; bare = false; plan = record plan { version = 2 } } in
    let begun : IsReading lines [] (written.texts ++ []) 1 (state_of []) = subst (λ l. IsReading lines [] l 1 (state_of [])) whole (starts lines) in
    let read = read_all lines [] written.texts [] (lines_of_plan plan) 1 (state_of []) last written.forms_are (plan_taken plan h) begun in
    ends_well lines written.texts read.0 last (record plan { version = 2 }) read.1 (ends_sound plan h, refl)
