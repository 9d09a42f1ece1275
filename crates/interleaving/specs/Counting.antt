-- What each job has done, as it is counted event by event.
use Rattle.std.specs.Prelude.{◌≡◌, ℕ, ◌+◌, ◌<◌, ◌≤◌, List, length, slice_index_or, slice_set}
use Rattle.lab_plan.specs.Limits.{most_sessions}
use Rattle.lab_plan.specs.LabPlan.{LabPlan}
use Rattle.legal_steps.specs.declared.event.Event.{Event}
use Rattle.legal_steps.specs.declared.event.Event.TheVariants.{Sit, Quit, Withdraw}
use Rattle.legal_steps.specs.declared.counts.Counts.{Counts}
use Rattle.legal_steps.specs.Counting.{no_counts, counts_of}

-- the counts of job j
abbrev pub count_at : List Counts → ℕ → Counts
count_at counts j = slice_index_or counts j no_counts

-- two counts together
abbrev pub both_counts : Counts → Counts → Counts
both_counts a b = record { meals = a.meals + b.meals; sessions_done = a.sessions_done + b.sessions_done; withdrawn = a.withdrawn + b.withdrawn }

-- the counts of every job go on by what it did in a list of events
pub record GoOnBy (old : List Counts) (events : List Event) (new : List Counts) : Type 0 where
  pub one_each : length new ≡ length old
  pub counted : (j : ℕ) → j < length old → count_at new j ≡ both_counts (count_at old j) (counts_of j events)

-- each job of the plan has counts, and they are those of the events
pub record AreCountsOf (plan : LabPlan) (events : List Event) (counts : List Counts) : Type 0 where
  pub one_each : length counts ≡ length plan.jobs
  pub counted : (j : ℕ) → j < length plan.jobs → count_at counts j ≡ counts_of j events

-- ---- one event

-- the counts after it
abbrev pub counted : Event → List Counts → List Counts
counted (Sit j) counts = let x = count_at counts j in slice_set counts j (record x { meals = x.meals + 1 })
counted (Quit j) counts = let x = count_at counts j in slice_set counts j (record x { sessions_done = x.sessions_done + 1 })
counted (Withdraw j) counts = let x = count_at counts j in slice_set counts j (record x { withdrawn = x.withdrawn + 1 })
counted _ counts = counts

-- its job has counts, each at most as many as a job may have sessions
pub record HasFewCounts (j : ℕ) (counts : List Counts) : Type 0 where
  pub is_job : j < length counts
  pub few_meals : (count_at counts j).meals ≤ most_sessions
  pub few_sessions : (count_at counts j).sessions_done ≤ most_sessions
  pub few_withdrawn : (count_at counts j).withdrawn ≤ most_sessions

abbrev pub CanCount : Event → List Counts → Type 0
CanCount (Sit j) counts = HasFewCounts j counts
CanCount (Quit j) counts = HasFewCounts j counts
CanCount (Withdraw j) counts = HasFewCounts j counts
CanCount _ counts = Unit {0}
