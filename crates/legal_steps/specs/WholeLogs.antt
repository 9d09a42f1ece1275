-- For readers: whole logs: the parts of sessions one after another, of which only the last may be unfinished.
use Rattle.std.specs.Prelude.{◌≡◌, ◌⊎◌, ℕ, ◌<◌, ◌≤◌, List, [], ◌∷◌, ◌++◌, length, map, filter, take, ◌==◌}
use Rattle.std.specs.List.{flat_map, enumerate_from, AllPairs, All}
use Rattle.lab_plan.specs.declared.verb.Verb.{Verb}
use Rattle.lab_plan.specs.LabPlan.{LabPlan, sessions, commands, count_on, all_commands}
use Rattle.instrument_log.specs.declared.entry.Entry.{Entry}
use Rattle.instrument_log.specs.InstrumentLog.{LogView}
use Rattle.legal_steps.specs.declared.event.Event.{Event}
use Rattle.legal_steps.specs.declared.event.Event.TheVariants.{Quit}
use Rattle.legal_steps.specs.State.{State, session, log}
use Rattle.legal_steps.specs.Legal.{after}

-- what an entry says besides its value: job, session, place, length, verb
abbrev pub LogLine : Type 0
LogLine = ℕ × ℕ × ℕ × ℕ × Verb

abbrev pub line_of : Entry → LogLine
line_of entry = (entry.job, entry.session, entry.place, entry.length, entry.verb)

-- the commands on the instrument, in order
abbrev pub commands_on : ℕ → List (ℕ × Verb) → List (ℕ × Verb)
commands_on i all = filter (λ command. command.0 == i) all

-- some commands on one instrument as lines of a part, with their places from 1
abbrev pub lines_of : ℕ → ℕ → ℕ → List (ℕ × Verb) → List LogLine
lines_of j session total own = map (λ numbered. (j, session, numbered.0, total, numbered.1.1)) (enumerate_from 1 own)

-- the part of a session (job, number) on an instrument: its commands there, in order
abbrev pub part_of : LabPlan → ℕ → ℕ × ℕ → List LogLine
part_of plan i own =
    let there = commands_on i (commands plan own.0 own.1) in
    lines_of own.0 own.1 (length there) there

-- the parts of some sessions, one after another
abbrev pub parts_of : LabPlan → ℕ → List (ℕ × ℕ) → List LogLine
parts_of plan i owners = flat_map (part_of plan i) owners

-- a session (job, number) of the plan
pub record IsSessionOf (plan : LabPlan) (own : ℕ × ℕ) : Type 0 where
  pub job_there : own.0 < length plan.jobs
  pub from_one : 1 ≤ own.1
  pub session_there : own.1 ≤ length (sessions plan own.0)

-- of one job, the earlier session comes first
abbrev pub IsBefore : ℕ × ℕ → ℕ × ℕ → Type 0
IsBefore earlier later = earlier.0 ≡ later.0 → earlier.1 < later.1

-- the sessions of each job come in ascending order
abbrev pub IsAscending : List (ℕ × ℕ) → Type 0
IsAscending owners = AllPairs IsBefore owners

-- a proper, nonempty beginning of a list
pub record IsBegun (begun all : List LogLine) : Type 0 where
  pub not_empty : 0 < length begun
  pub proper : length begun < length all
  pub beginning : begun ≡ take (length begun) all

-- a log is whole except for its end: nonempty parts of the plan's sessions one after another, the sessions of each job ascending,
-- then nothing or the beginning of one further part that keeps this order
pub record IsWholeButEnd (plan : LabPlan) (i : ℕ) (entries : List Entry) : Type 0 where
  pub finished : List (ℕ × ℕ)
  pub unfinished : List LogLine
  pub joined : map line_of entries ≡ parts_of plan i finished ++ unfinished
  pub of_plan : All (IsSessionOf plan) finished
  pub not_empty : All (λ own. 0 < length (part_of plan i own)) finished
  pub ascending : IsAscending finished
  pub end : (unfinished ≡ [])
      ⊎ ((own : ℕ × ℕ) × IsSessionOf plan own × IsBegun unfinished (part_of plan i own) × All (λ earlier. IsBefore earlier own) finished)

-- the sessions that ended by Quit in a list of events from s, in the order of their ends
abbrev pub ended_by : State → Event → List (ℕ × ℕ)
ended_by s (Quit j) = (j, session s j) ∷ []
ended_by s _ = []

abbrev pub ended_sessions : LabPlan → State → List Event → List (ℕ × ℕ)
ended_sessions plan s [] = []
ended_sessions plan s (event ∷ events) = ended_by s event ++ ended_sessions plan (after plan s event) events

-- the parts of these sessions stand in the log, in their order, before anything else
abbrev pub BeginsWithParts : LabPlan → ℕ → List (ℕ × ℕ) → List Entry → Type 0
BeginsWithParts plan i owners entries = (rest : List LogLine) × (map line_of entries ≡ parts_of plan i owners ++ rest)

-- how many commands of the plan are on the instrument: the room that its log needs
abbrev pub room_of : LabPlan → ℕ → ℕ
room_of plan i = count_on i (all_commands plan)

-- the log of the instrument, with that room
abbrev pub log_with_room : LabPlan → State → ℕ → LogView
log_with_room plan s i = record { entries = log s i; room = room_of plan i }
