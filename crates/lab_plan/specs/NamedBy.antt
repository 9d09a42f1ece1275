-- Which instruments the jobs name, as sets, and the pairs of jobs that meet on one.
use Rattle.std.specs.Prelude.{◌≡◌, ℕ, ◌+◌, ◌<◌, ◌≤◌, ◌-◌, nat_lt, map, filter, Bool, List, length, slice_index_or}
use Rattle.std.specs.List.{All, list_any, flat_map, range_with_len}
use Rattle.lab_plan.specs.Limits.{most_instruments, most_commands, most_bottles}
use Rattle.lab_plan.specs.LabPlan.{SessionPlan, JobPlan, no_job, is_named_by}
use Rattle.lab_plan.specs.InstrumentSets.{holds, both_in}

-- the sets of what the jobs name; a number that is no job's has the empty set
abbrev pub AreNaming : List JobPlan → List ℕ → Type 0
AreNaming jobs sets = (j i : ℕ) → holds (slice_index_or sets j 0) i ≡ is_named_by (slice_index_or jobs j no_job) i

-- both jobs of a pair name the instrument, by the sets of what the jobs name
abbrev pub both_hold : List ℕ → ℕ × ℕ → ℕ → Bool
both_hold sets pair i = both_in (slice_index_or sets pair.0 0) (slice_index_or sets pair.1 0) i

-- a session's commands are few, on instruments with small numbers
pub record IsSmall (session : SessionPlan) : Type 0 where
  pub numbered : All (λ command. command.0 < most_instruments) session.commands
  pub few : length session.commands ≤ most_commands

abbrev pub HasSmall : JobPlan → Type 0
HasSmall job = All IsSmall job.sessions

-- two jobs name some instrument together, and they have too many in common, of this many instruments
abbrev pub meet : List ℕ → ℕ → ℕ × ℕ → Bool
meet sets instruments pair = list_any (both_hold sets pair) (range_with_len 0 instruments)

abbrev pub are_crowded : List ℕ → ℕ → ℕ × ℕ → Bool
are_crowded sets instruments pair = nat_lt most_bottles (length (filter (both_hold sets pair) (range_with_len 0 instruments)))

-- the pairs of one job with those from the next one up to some number
abbrev pub row : ℕ → ℕ → List (ℕ × ℕ)
row low end = map (λ high. (low, high)) (range_with_len (low + 1) (end - (low + 1)))

-- the pairs whose lower job is before some number
abbrev pub rows : ℕ → ℕ → List (ℕ × ℕ)
rows jobs end = flat_map (λ low. row low jobs) (range_with_len 0 end)

-- the pairs of the rows that name some instrument together
abbrev pub meeting : List ℕ → ℕ → ℕ → List (ℕ × ℕ)
meeting sets instruments jobs = filter (meet sets instruments) (rows jobs jobs)
