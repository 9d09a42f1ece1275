-- For readers: the report that a run prints, as the value that is read of its text.
use Rattle.std.specs.Prelude.{ℕ, ◌==◌, Option, None, Some, length, map, if◌then◌else◌}
use Rattle.lab_plan.specs.LabPlan.{LabPlan, sessions}
use Rattle.lab_plan.specs.Texts.{job_name, instrument_name}
use Rattle.instrument_log.specs.declared.entry.Entry.{Entry}
use Rattle.report.specs.Report.{Shown, jobs, instruments, is_retired, all_retired}
use Rattle.report_reader.specs.Line.{EntryText, JobText}
use Rattle.report_reader.specs.Report.{LogText, ReportText}

-- an entry, with its job's name
abbrev pub printed_entry : LabPlan → Entry → EntryText
printed_entry plan entry = record {
  job = job_name plan entry.job;
  session = entry.session;
  place = entry.place;
  length = entry.length;
  verb = entry.verb;
  value = entry.value;
}

-- an instrument with its log
abbrev pub printed_log : LabPlan → Shown → ℕ → LogText
printed_log plan shown i = record { name = instrument_name plan i; entries = map (printed_entry plan) (shown.log i) }

-- sessions that were given up are counted in version 2 alone
abbrev pub printed_withdrawn : ℕ → ℕ → Option ℕ
printed_withdrawn version withdrawn = if version == 2 then Some withdrawn else None

-- what is told of a job
abbrev pub printed_job : LabPlan → Shown → ℕ → JobText
printed_job plan shown j = record {
  name = job_name plan j;
  done = shown.sessions_done j;
  sessions = length (sessions plan j);
  withdrawn = printed_withdrawn plan.version (shown.withdrawn j);
  meals = shown.meals j;
  is_retired = is_retired (shown.drinking j);
}

-- the report: the instruments with their logs and the jobs, each in the plan's order
abbrev pub printed_report : LabPlan → Shown → ReportText
printed_report plan shown = record {
  version = plan.version;
  logs = map (printed_log plan shown) (instruments plan);
  jobs = map (printed_job plan shown) (jobs plan);
  is_finished = all_retired plan shown;
}
