-- For readers: what is told of what a lab answers, number by number.
use Rattle.std.specs.Prelude.{◌≡◌, ℕ, Bool, if◌then◌else◌, Option, Some, None}
use Rattle.instrument_log.specs.declared.entry.Entry.{Entry}
use Rattle.lab_plan.specs.declared.verb.Verb.{Verb}
use Rattle.lab_plan.specs.declared.verb.Verb.TheVariants.{Set, Add, Read as Reads}
use Rattle.legal_steps.specs.declared.phase.Dining.{Dining}
use Rattle.legal_steps.specs.declared.phase.Dining.TheVariants as dines
use Rattle.legal_steps.specs.declared.phase.Drinking.{Drinking}
use Rattle.legal_steps.specs.declared.phase.Drinking.TheVariants as drinks
use Rattle.session_layer.specs.declared.turning.Turned.{Turned}
use Rattle.session_layer.specs.declared.turning.Turned.TheVariants.{Acted, Moved, Idle}
use Rattle.live_lab.specs.declared.stage.Stage.{Stage}
use Rattle.live_lab.specs.declared.stage.Stage.TheVariants.{There, OnTheWay, Barred}
use Rattle.live_lab.specs.declared.end.Release.{Release}
use Rattle.live_lab.specs.declared.end.Release.TheVariants.{NotHeld, LetGo}
use Rattle.live_lab.specs.declared.settle.Came.{Came}
use Rattle.live_lab.specs.declared.keepers.Keepers.{Keepers}
use Rattle.live_lab.specs.declared.readers.SessionFacts.{SessionFacts}
use Rattle.live_lab.specs.declared.readers.Standing.{Standing}
use Rattle.live_lab.specs.declared.planned.Planned.{Planned}
use Rattle.bench_calls.specs.declared.told.LabTurned.{LabTurned}
use Rattle.bench_calls.specs.declared.told.LabCame.{LabCame}
use Rattle.bench_calls.specs.declared.told.LabKeepers.{LabKeepers}
use Rattle.bench_calls.specs.declared.told.LabOutside.{LabOutside}
use Rattle.bench_calls.specs.declared.told.LabSession.{LabSession}
use Rattle.bench_calls.specs.declared.told.LabState.{LabState}
use Rattle.bench_calls.specs.declared.told.LabEntry.{LabEntry}
use Rattle.bench_calls.specs.declared.told.LabPlanned.{LabPlanned}

abbrev pub turned_of : Turned → LabTurned
turned_of (Acted n) = record { what = 2; count = n }
turned_of Moved = record { what = 1; count = 0 }
turned_of Idle = record { what = 0; count = 0 }

-- it is retired (0), or not yet (8), or it can't retire, because it has sessions left (10)
abbrev pub stage_status : Stage → ℕ
stage_status There = 0
stage_status OnTheWay = 8
stage_status Barred = 10

-- it let go (0); or it never held, and nothing is told (8)
abbrev pub TellsRelease : Release → LabTurned → LabTurned → ℕ → Type 0
TellsRelease (LetGo r) told told' status = (status ≡ 0) × (told' ≡ turned_of r)
TellsRelease NotHeld told told' status = (status ≡ 8) × (told' ≡ told)

-- the sets and the number of deeds as they are
abbrev pub came_of : Came → LabCame
came_of c = record { holds = c.holds; given_up = c.given_up; none_left = c.none_left; deeds = c.deeds }

abbrev pub keepers_of : Keepers → LabKeepers
keepers_of k = record { jobs = k.jobs; holding = k.holding }

-- whether it is outside, and how often it has been passed by
abbrev pub outside_of : Option ℕ → LabOutside
outside_of (Some passed) = record { is_outside = 1; passed = passed }
outside_of None = record { is_outside = 0; passed = 0 }

abbrev pub turns_of : Option ℕ → ℕ × ℕ
turns_of (Some turns) = (turns, 1)
turns_of None = (0, 0)

abbrev pub session_of : SessionFacts → LabSession
session_of s = record { needs = s.needs; commands = s.commands; patience = (turns_of s.patience).0; has_patience = (turns_of s.patience).1 }

abbrev pub dining_number : Dining → ℕ
dining_number dines.Thinking = 0
dining_number dines.Hungry = 1
dining_number dines.Eating = 2

abbrev pub drinking_number : Drinking → ℕ
drinking_number drinks.Tranquil = 0
drinking_number drinks.Thirsty = 1
drinking_number drinks.Drinking = 2
drinking_number drinks.Reaching = 3
drinking_number drinks.Retired = 4

abbrev pub state_of : Standing → LabState
state_of s = record {
  turns = s.turns;
  dining = dining_number s.phase.dining;
  drinking = drinking_number s.phase.drinking;
  session = s.phase.session;
  sessions = s.sessions;
  position = s.phase.position;
  sessions_done = s.counts.sessions_done;
  withdrawn = s.counts.withdrawn;
  meals = s.counts.meals;
  waited = s.waited;
}

abbrev pub verb_numbers : Verb → ℕ × ℕ
verb_numbers (Set n) = (0, n)
verb_numbers (Add n) = (1, n)
verb_numbers Reads = (2, 0)

abbrev pub entry_of : Entry → LabEntry
entry_of e = record {
  session = e.session;
  place = e.place;
  length = e.length;
  verb = (verb_numbers e.verb).0;
  number = (verb_numbers e.verb).1;
  value = e.value;
}

-- the entry is told (0), or there is none, and nothing is told (8)
abbrev pub TellsEntry : Option Entry → LabEntry → LabEntry → ℕ → Type 0
TellsEntry (Some entry) told told' status = (status ≡ 0) × (told' ≡ entry_of entry)
TellsEntry None told told' status = (status ≡ 8) × (told' ≡ told)

abbrev pub planned_of : Planned → LabPlanned
planned_of c = record { instrument = c.instrument; verb = (verb_numbers c.verb).0; number = (verb_numbers c.verb).1 }

-- ---- the answers of a lab

-- so is told what it answered; or it didn't, because there is no such job, session or instrument, and nothing is told (2)
abbrev pub IfTold : {R T : Type 0} → (R → T → T → ℕ → Type 0) → Option R → T → T → ℕ → Type 0
IfTold Tells (Some r) told told' status = Tells r told told' status
IfTold Tells None told told' status = (status ≡ 2) × (told' ≡ told)

-- the answer as it is
abbrev pub TellsAs : {R T : Type 0} → (R → T) → R → T → T → ℕ → Type 0
TellsAs how r told told' status = (status ≡ 0) × (told' ≡ how r)

-- a session or a place outside was given up (0), or neither could be (8)
abbrev pub TellsDid : Bool → Unit {0} → Unit {0} → ℕ → Type 0
TellsDid did told told' status = status ≡ (if did then 0 else 8)

-- what was done, and how far the job is on its way to be retired
abbrev pub TellsRetired : Stage × Turned → LabTurned → LabTurned → ℕ → Type 0
TellsRetired a told told' status = (status ≡ stage_status a.0) × (told' ≡ turned_of a.1)
