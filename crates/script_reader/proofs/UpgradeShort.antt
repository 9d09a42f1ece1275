-- How many bytes the parts of an upgraded script have at most.
use Rattle.std.proofs.Common.{◌≡◌, ℕ, ◌+◌, ◌*◌, ◌≤◌, List, [], ◌∷◌, ◌++◌, length, get_or, refl, ap, arith, length-append}
use Rattle.std.specs.Prelude.{Option, None, Some, codes, decimal}
use Rattle.std.specs.List.{AllByRecursion, flat_map}
use Rattle.std.specs.Option.{ForSome}
use Rattle.std.proofs.lemmas.Fmt.{decimal_digit, length-decimal-le}
use Rattle.lab_plan.specs.declared.verb.Verb.{Verb}
use Rattle.lab_plan.specs.declared.verb.Verb.TheVariants.{Set, Add, Read}
use Rattle.lab_plan.specs.Names.{IsName}
use Rattle.lab_plan.specs.Verbs.{Fits}
use Rattle.lab_plan.specs.LabPlan.{SessionPlan, JobPlan, LabPlan}
use Rattle.lab_plan.specs.Texts.{verb_text, header_line}
use Rattle.lab_plan.specs.Upgrade.{session_line, name_line, command_text, commands_text, session_text, job_text}
use Rattle.script_reader.specs.UpgradeLaw.{UpgradeIsShort}
use Rattle.script_reader.proofs.UpgradeDrafts.{AreInstruments, session_commands, job_commands}
use Rattle.script_reader.proofs.UpgradeForms.{name_parts}
use Rattle.script_reader.proofs.UpgradeLines.{CanSay, CanRun, CanBegin}
use Rattle.script_reader.proofs.UpgradePlan.{instruments_of_plan, can_begin_all}

-- ---- lines

in_row : (a b c : List ℕ) → length (a ++ b ++ c) ≡ length a + length b + length c
in_row a b c = omega (arith, length-append (a ++ b) c, length-append a b)

number_short : (n : ℕ) → n ≤ 999999 → length (decimal n) ≤ 6
number_short n small = length-decimal-le 6 n (omega arith) (omega arith) (omega arith)

verb_short : (verb : Verb) → Fits verb → length (verb_text verb) ≤ 10
verb_short (Set n) fits = omega (arith, number_short n fits, length-append (codes "set ") (decimal n))
verb_short (Add n) fits = omega (arith, number_short n fits, length-append (codes "add ") (decimal n))
verb_short Read fits = omega arith

header_short : length (header_line 2) ≤ 6
header_short = omega (arith, ap length (decimal_digit 2 (omega arith)), in_row (codes "lab ") (decimal 2) (codes "\n"))

job_line_short : (name : List ℕ) → IsName name → length (name_line name) ≤ 21
job_line_short name named = omega (arith, (name_parts name named).few, in_row (codes "job ") name (codes "\n"))

session_line_short : (patience : Option ℕ) → ForSome patience (λ n. n ≤ 999999) → length (session_line patience) ≤ 24
session_line_short None fits = omega arith
session_line_short (Some n) fits = omega (arith, number_short n (fits n refl), in_row (codes "session patience ") (decimal n) (codes "\n"))

-- ---- commands, sessions and jobs

module _ (plan : LabPlan) (h : AreInstruments plan.instruments) where
  command_short : (command : ℕ × Verb) → CanSay plan.instruments command → length (command_text plan command) ≤ 28
  command_short command can =
      let name = get_or plan.instruments command.0 [] in
      let few = (name_parts name (h.each command.0 [] can.0)).few in
      omega (arith, few, verb_short command.1 can.1, length-append name (codes " "), in_row (name ++ codes " ") (verb_text command.1) (codes "\n"))

  commands_short : (commands : List (ℕ × Verb)) → AllByRecursion (CanSay plan.instruments) commands
      → length (commands_text plan commands) ≤ 28 * length commands
  commands_short [] all = omega arith
  commands_short (command ∷ commands) all =
      omega (arith, command_short command all.0, commands_short commands all.1, length-append (command_text plan command) (commands_text plan commands))

  session_short : (session : SessionPlan) → CanRun plan.instruments session → length (session_text plan session) ≤ 28 + 28 * length session.commands
  session_short session can =
      let line = session_line_short session.patience can.patience in
      let commands = commands_short session.commands can.commands in
      omega (arith, line, commands, in_row (session_line session.patience) (commands_text plan session.commands) (codes "end\n"))

  sessions_short : (sessions : List SessionPlan) → AllByRecursion (CanRun plan.instruments) sessions
      → length (flat_map (session_text plan) sessions) ≤ 28 * length sessions + 28 * length (session_commands sessions)
  sessions_short [] all = omega arith
  sessions_short (session ∷ sessions) all =
      let texts = length-append (session_text plan session) (flat_map (session_text plan) sessions) in
      let commands = length-append session.commands (session_commands sessions) in
      omega (arith, session_short session all.0, sessions_short sessions all.1, texts, commands)

  -- a job's line takes 21 bytes, and the other lines of its 1000 sessions 28000
  job_short : (job : JobPlan) → CanBegin plan.instruments job → length (job_text plan job) ≤ 28021 + 28 * length (session_commands job.sessions)
  job_short job can =
      let line = job_line_short job.name can.is_name in
      let sessions = sessions_short job.sessions can.sessions in
      omega (arith, line, sessions, can.few, length-append (name_line job.name) (flat_map (session_text plan) job.sessions))

  jobs_short : (jobs : List JobPlan) → AllByRecursion (CanBegin plan.instruments) jobs
      → length (flat_map (job_text plan) jobs) ≤ 28021 * length jobs + 28 * length (job_commands jobs)
  jobs_short [] all = omega arith
  jobs_short (job ∷ jobs) all =
      let texts = length-append (job_text plan job) (flat_map (job_text plan) jobs) in
      let commands = length-append (session_commands job.sessions) (job_commands jobs) in
      omega (arith, job_short job all.0, jobs_short jobs all.1, texts, commands)

pub upgrade_short : UpgradeIsShort
upgrade_short plan h =
    let jobs = jobs_short plan (instruments_of_plan plan h) plan.jobs (can_begin_all plan h) in
    omega (arith, header_short, jobs, h.draft.few_jobs, h.draft.few_commands, length-append (header_line 2) (flat_map (job_text plan) plan.jobs))
