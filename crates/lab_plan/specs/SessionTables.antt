-- What is kept of the sessions of each job, so that what a session needs and the places of its commands aren't counted again.
use Rattle.std.specs.Prelude.{◌≡◌, ℕ, ◌-◌, ◌<◌, List, [], ◌∷◌, ◌++◌, length, take, map, slice_index_or}
use Rattle.std.specs.List.{flat_map, range_with_len}
use Rattle.lab_plan.specs.declared.verb.Verb.{Verb}
use Rattle.lab_plan.specs.declared.verb.Verb.TheVariants.{Read}
use Rattle.lab_plan.specs.declared.place.Place.{Place}
use Rattle.lab_plan.specs.LabPlan.{SessionPlan, JobPlan, no_job, no_session, count_on, any_on, is_named_by, place_in}
use Rattle.lab_plan.specs.InstrumentSets.{holds}

-- the set of the instruments that some commands name
abbrev pub AreNeeds : List (ℕ × Verb) → ℕ → Type 0
AreNeeds commands set = (i : ℕ) → holds set i ≡ any_on i commands

-- the place of the command at a position, among those on its instrument
abbrev pub place_of : List (ℕ × Verb) → ℕ → Place
place_of commands k = record { place = place_in commands k; length = count_on (slice_index_or commands k (0, Read)).0 commands }

-- the places of all
abbrev pub places_of : List (ℕ × Verb) → List Place
places_of commands = map (place_of commands) (range_with_len 0 (length commands))

-- what is kept of a job: what each session needs, the places of the commands of all sessions, and what they name together
pub record JobTable : Type 0 where
  pub needs : List ℕ
  pub places : List Place
  pub named : ℕ

abbrev pub no_table : JobTable
no_table = record { needs = []; places = []; named = 0 }

abbrev pub no_place : Place
no_place = record { place = 0; length = 0 }

-- two lists are of one length, and what stands at one place is related
abbrev pub Related : {X Y : Type 0} → (X → Y → Type 0) → X → Y → List X → List Y → Type 0
Related R no_x no_y xs ys = (length ys ≡ length xs) × ((k : ℕ) → k < length xs → R (slice_index_or xs k no_x) (slice_index_or ys k no_y))

abbrev pub IsSessionNeeds : SessionPlan → ℕ → Type 0
IsSessionNeeds session set = AreNeeds session.commands set

-- the needs of some sessions, and the places of their commands
abbrev pub AreAllNeeds : List SessionPlan → List ℕ → Type 0
AreAllNeeds sessions sets = Related IsSessionNeeds no_session 0 sessions sets

abbrev pub all_places : List SessionPlan → List Place
all_places sessions = flat_map (λ session. places_of session.commands) sessions

-- the set of the instruments that the sessions of a job name
abbrev pub AreNamedBy : JobPlan → ℕ → Type 0
AreNamedBy job set = (i : ℕ) → holds set i ≡ is_named_by job i

pub record IsJobTable (job : JobPlan) (table : JobTable) : Type 0 where
  pub needs : AreAllNeeds job.sessions table.needs
  pub places : table.places ≡ all_places job.sessions
  pub named : AreNamedBy job table.named

abbrev pub AreJobTables : List JobPlan → List JobTable → Type 0
AreJobTables jobs tables = Related IsJobTable no_job no_table jobs tables

-- what is kept of a job with one more session of instruments that the job names already, and without its last session
abbrev pub table_with : ℕ → List (ℕ × Verb) → JobTable → JobTable
table_with needs commands table = record table { needs = table.needs ++ needs ∷ []; places = table.places ++ places_of commands }

abbrev pub table_without : ℕ → JobTable → JobTable
table_without commands table = record table {
  needs = take (length table.needs - 1) table.needs;
  places = take (length table.places - commands) table.places;
}
