-- For readers: the report of a run: a function of its plan and of what is shown at its end.
use Rattle.std.specs.Prelude.{ℕ, Bool, true, false, ◌==◌, List, [], ◌++◌, length, codes, decimal, if◌then◌else◌}
use Rattle.std.specs.List.{flat_map, range_with_len, list_all}
use Rattle.lab_plan.specs.LabPlan.{LabPlan, sessions}
use Rattle.instrument_log.specs.declared.entry.Entry.{Entry}
use Rattle.legal_steps.specs.declared.phase.Drinking.{Drinking}
use Rattle.legal_steps.specs.declared.phase.Drinking.TheVariants.{Retired}
use Rattle.report.specs.declared.job_tally.JobTally.{JobTally}
use Rattle.lab_plan.specs.Texts.{job_name, instrument_name, verb_text, header_line}

-- what is shown of a run: each instrument's log, what each job drinks, how many of its sessions it did and gave up, and its meals
pub record Shown : Type 0 where
  pub log : ℕ → List Entry
  pub drinking : ℕ → Drinking
  pub sessions_done : ℕ → ℕ
  pub withdrawn : ℕ → ℕ
  pub meals : ℕ → ℕ

abbrev pub is_retired : Drinking → Bool
is_retired Retired = true
is_retired _ = false

-- `instrument NAME N`, N the number of its entries
abbrev pub instrument_line : List ℕ → ℕ → List ℕ
instrument_line name entries = codes "instrument " ++ name ++ codes " " ++ decimal entries ++ codes "\n"

-- `JOB SESSION PLACE/LENGTH VERB = VALUE`
abbrev pub entry_line : List ℕ → Entry → List ℕ
entry_line job entry =
    job ++ codes " " ++ decimal entry.session ++ codes " " ++ decimal entry.place ++ codes "/" ++ decimal entry.length
    ++ codes " " ++ verb_text entry.verb ++ codes " = " ++ decimal entry.value ++ codes "\n"

-- ` withdrawn X` stands in the reports of version 2 alone
abbrev pub withdrawn_text : ℕ → ℕ → List ℕ
withdrawn_text version withdrawn = if version == 2 then codes " withdrawn " ++ decimal withdrawn else []

abbrev pub state_text : Bool → List ℕ
state_text is_retired = if is_retired then codes " retired\n" else codes " waiting\n"

-- `job NAME sessions D of S meals M STATE`, for version 2 with ` withdrawn X` before the meals
abbrev pub job_line : ℕ → List ℕ → JobTally → List ℕ
job_line version name tally =
    codes "job " ++ name ++ codes " sessions " ++ decimal tally.done ++ codes " of " ++ decimal tally.sessions
    ++ withdrawn_text version tally.withdrawn ++ codes " meals " ++ decimal tally.meals ++ state_text tally.is_retired

-- what is said of a job
abbrev pub tally_of : LabPlan → Shown → ℕ → JobTally
tally_of plan shown j = record {
  sessions = length (sessions plan j);
  done = shown.sessions_done j;
  withdrawn = shown.withdrawn j;
  meals = shown.meals j;
  is_retired = is_retired (shown.drinking j);
}

abbrev pub jobs : LabPlan → List ℕ
jobs plan = range_with_len 0 (length plan.jobs)

abbrev pub instruments : LabPlan → List ℕ
instruments plan = range_with_len 0 (length plan.instruments)

-- an entry of a job of the plan
abbrev pub entry_text : LabPlan → Entry → List ℕ
entry_text plan entry = entry_line (job_name plan entry.job) entry

-- an instrument: its line, and its entries in the order of its log
abbrev pub log_text : LabPlan → Shown → ℕ → List ℕ
log_text plan shown i = instrument_line (instrument_name plan i) (length (shown.log i)) ++ flat_map (entry_text plan) (shown.log i)

-- a job
abbrev pub tally_text : LabPlan → Shown → ℕ → List ℕ
tally_text plan shown j = job_line plan.version (job_name plan j) (tally_of plan shown j)

-- every job is retired
abbrev pub all_retired : LabPlan → Shown → Bool
all_retired plan shown = list_all (λ j. is_retired (shown.drinking j)) (jobs plan)

-- `finished` if every job is retired, otherwise `unfinished`
abbrev pub last_line : Bool → List ℕ
last_line true = codes "finished\n"
last_line false = codes "unfinished\n"

-- the report: the header, the instruments with their logs, the jobs, and the last line
unfoldable pub report_of : LabPlan → Shown → List ℕ
report_of plan shown =
    header_line plan.version ++ flat_map (log_text plan shown) (instruments plan) ++ flat_map (tally_text plan shown) (jobs plan)
    ++ last_line (all_retired plan shown)
