-- For readers: plans, and what follows from them: the edges of the conflict graph, their bottles, and what a session needs.
use Rattle.std.specs.Prelude.{ℕ, Bool, List, [], ◌∷◌, ◌+◌, ◌-◌, ◌==◌, ◌&&◌, ◌||◌, not, length, take, map, filter, min, max, Option, None, slice_index_or}
use Rattle.std.specs.List.{count_by, list_any, flat_map, range_with_len}
use Rattle.lab_plan.specs.declared.verb.Verb.{Verb}
use Rattle.lab_plan.specs.declared.verb.Verb.TheVariants.{Read}

-- a session: its patience if it has one, and its commands in order, each an instrument and a verb
pub record SessionPlan : Type 0 where
  pub patience : Option ℕ
  pub commands : List (ℕ × Verb)

-- a job: its name, and its sessions in order
pub record JobPlan : Type 0 where
  pub name : List ℕ
  pub sessions : List SessionPlan

-- a plan: the version of its script (1 or 2), its jobs, and the names of its instruments
pub record LabPlan : Type 0 where
  pub version : ℕ
  pub jobs : List JobPlan
  pub instruments : List (List ℕ)

-- what is read at a number that is none of the plan's
abbrev pub no_session : SessionPlan
no_session = record { patience = None; commands = [] }

abbrev pub no_job : JobPlan
no_job = record { name = []; sessions = [] }

-- the job with this number
abbrev pub job_at : LabPlan → ℕ → JobPlan
job_at plan j = slice_index_or plan.jobs j no_job

-- the sessions of a job, in order
abbrev pub sessions : LabPlan → ℕ → List SessionPlan
sessions plan j = (job_at plan j).sessions

-- session s of a job; sessions are counted from 1
abbrev pub session_at : LabPlan → ℕ → ℕ → SessionPlan
session_at plan j s = slice_index_or (sessions plan j) (s - 1) no_session

-- the commands of a session, in order
abbrev pub commands : LabPlan → ℕ → ℕ → List (ℕ × Verb)
commands plan j s = (session_at plan j s).commands

-- how many of its own turns a session may stay thirsty, if it has a patience
abbrev pub patience : LabPlan → ℕ → ℕ → Option ℕ
patience plan j s = (session_at plan j s).patience

-- how many of some commands are on the instrument
abbrev pub count_on : ℕ → List (ℕ × Verb) → ℕ
count_on i all = count_by (λ command. command.0 == i) all

-- the length of a session's part on an instrument: how many of its commands are there
abbrev pub part : LabPlan → ℕ → ℕ → ℕ → ℕ
part plan j s i = count_on i (commands plan j s)

-- the command at a position of a session, counted from 0
abbrev pub command_at : LabPlan → ℕ → ℕ → ℕ → ℕ × Verb
command_at plan j s k = slice_index_or (commands plan j s) k (0, Read)

-- the place of the command at a position among those on its instrument, counted from 1
abbrev pub place_in : List (ℕ × Verb) → ℕ → ℕ
place_in all k = count_on (slice_index_or all k (0, Read)).0 (take k all) + 1

-- its place within its session's part on its instrument
abbrev pub place_at : LabPlan → ℕ → ℕ → ℕ → ℕ
place_at plan j s k = place_in (commands plan j s) k

-- the length of that part
abbrev pub length_at : LabPlan → ℕ → ℕ → ℕ → ℕ
length_at plan j s k = part plan j s (command_at plan j s k).0

-- one of the commands is on the instrument
abbrev pub any_on : ℕ → List (ℕ × Verb) → Bool
any_on i all = list_any (λ command. command.0 == i) all

-- a session names an instrument if one of its commands is on it, and a job if one of its sessions does
abbrev pub is_named_by : JobPlan → ℕ → Bool
is_named_by job i = list_any (λ session. any_on i session.commands) job.sessions

-- session s of job j names it: it needs its bottles
abbrev pub session_names : LabPlan → ℕ → ℕ → ℕ → Bool
session_names plan j s i = any_on i (commands plan j s)

-- job j names it
abbrev pub names : LabPlan → ℕ → ℕ → Bool
names plan j i = is_named_by (job_at plan j) i

-- both jobs name the instrument
abbrev pub both_name : LabPlan → ℕ × ℕ → ℕ → Bool
both_name plan pair i = names plan pair.0 i && names plan pair.1 i

-- every pair of jobs, the lower number first, in ascending order
abbrev pub pairs : ℕ → List (ℕ × ℕ)
pairs jobs = flat_map (λ low. map (λ high. (low, high)) (range_with_len (low + 1) (jobs - (low + 1)))) (range_with_len 0 jobs)

-- the numbers of the instruments
abbrev pub instrument_numbers : LabPlan → List ℕ
instrument_numbers plan = range_with_len 0 (length plan.instruments)

-- the edges of the conflict graph: the pairs of jobs that both name some instrument
unfoldable pub edges : LabPlan → List (ℕ × ℕ)
edges plan = filter (λ pair. list_any (both_name plan pair) (instrument_numbers plan)) (pairs (length plan.jobs))

-- the two jobs of an edge, the lower number first
abbrev pub ends : LabPlan → ℕ → ℕ × ℕ
ends plan e = slice_index_or (edges plan) e (0, 0)

-- two jobs, the lower number first
abbrev pub lower_first : ℕ → ℕ → ℕ × ℕ
lower_first a b = (min a b, max a b)

-- the instruments that both jobs of a pair name, in ascending order
unfoldable pub common : LabPlan → ℕ × ℕ → List ℕ
common plan pair = filter (both_name plan pair) (instrument_numbers plan)

-- the bottles of an edge: one of each instrument that both its jobs name
abbrev pub bottles : LabPlan → ℕ → List ℕ
bottles plan e = common plan (ends plan e)

-- the job is one of the pair with this number
abbrev pub has_end : List (ℕ × ℕ) → ℕ → ℕ → Bool
has_end pairs j e = ((slice_index_or pairs e (0, 0)).0 == j) || ((slice_index_or pairs e (0, 0)).1 == j)

-- the numbers of the pairs that a job is one of, in ascending order
abbrev pub pairs_with : List (ℕ × ℕ) → ℕ → List ℕ
pairs_with pairs j = filter (has_end pairs j) (range_with_len 0 (length pairs))

-- the edges of a job, in ascending order
abbrev pub edges_of : LabPlan → ℕ → List ℕ
edges_of plan j = pairs_with (edges plan) j

-- all commands of a plan, in order
abbrev pub all_commands : LabPlan → List (ℕ × Verb)
all_commands plan = flat_map (λ job. flat_map (λ session. session.commands) job.sessions) plan.jobs

-- the first of each number
abbrev pub firsts : List ℕ → List ℕ
firsts [] = []
firsts (n ∷ numbers) = n ∷ filter (λ other. not (other == n)) (firsts numbers)
