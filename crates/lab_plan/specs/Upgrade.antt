-- For readers: the upgraded script of a plan: the text of version 2 that means it.
use Rattle.std.specs.Prelude.{ℕ, List, ◌++◌, Option, None, Some, codes, decimal}
use Rattle.std.specs.List.{flat_map}
use Rattle.lab_plan.specs.declared.verb.Verb.{Verb}
use Rattle.lab_plan.specs.LabPlan.{LabPlan, JobPlan, SessionPlan}
use Rattle.lab_plan.specs.Texts.{instrument_name, verb_text, header_line}

-- `session`, or `session patience N`
abbrev pub session_line : Option ℕ → List ℕ
session_line None = codes "session\n"
session_line (Some patience) = codes "session patience " ++ decimal patience ++ codes "\n"

-- `NAME set n`, `NAME add n` or `NAME read`
abbrev pub command_line : List ℕ → Verb → List ℕ
command_line instrument verb = instrument ++ codes " " ++ verb_text verb ++ codes "\n"

-- `job NAME`
abbrev pub name_line : List ℕ → List ℕ
name_line name = codes "job " ++ name ++ codes "\n"

-- a command of the plan
abbrev pub command_text : LabPlan → ℕ × Verb → List ℕ
command_text plan command = command_line (instrument_name plan command.0) command.1

-- some commands in order
abbrev pub commands_text : LabPlan → List (ℕ × Verb) → List ℕ
commands_text plan commands = flat_map (command_text plan) commands

-- a session: its line, its commands, and `end`
abbrev pub session_text : LabPlan → SessionPlan → List ℕ
session_text plan session = session_line session.patience ++ commands_text plan session.commands ++ codes "end\n"

-- a job: its line, and its sessions in order
abbrev pub job_text : LabPlan → JobPlan → List ℕ
job_text plan job = name_line job.name ++ flat_map (session_text plan) job.sessions

-- the script: the header of version 2, and the jobs in order
abbrev pub script_text : LabPlan → List ℕ
script_text plan = header_line 2 ++ flat_map (job_text plan) plan.jobs
