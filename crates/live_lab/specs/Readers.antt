-- For readers: what is read of a lab.
use Rattle.std.specs.Prelude.{◌≡◌, ◌⊎◌, ℕ, ◌≤◌, ◌<◌, if◌then◌else◌, List, [], length, Option, Some, None, slice_index_or}
use Rattle.std.specs.Int.{bit_at}
use Rattle.lab_plan.specs.LabPlan.{LabPlan, sessions, commands, command_at, patience, session_names}
use Rattle.legal_steps.specs.State.{phase}
use Rattle.legal_steps.specs.Legal.{IsJob}
use Rattle.interleaving.specs.Counting.{count_at}
use Rattle.live_lab.specs.declared.planned.Planned.{Planned}
use Rattle.live_lab.specs.declared.readers.SessionFacts.{SessionFacts}
use Rattle.live_lab.specs.declared.readers.Standing.{Standing}
use Rattle.live_lab.specs.Labs.{LabView, clock_at, waited}

abbrev pub IsInstrumentName : LabPlan → ℕ → List ℕ → Type 0
IsInstrumentName plan i name = (i < length plan.instruments) × (name ≡ slice_index_or plan.instruments i [])

-- the instruments that the session names, how many commands it has, and its patience; or there is no such job, or it has no such session
abbrev pub IsSession : LabPlan → ℕ → ℕ → Option SessionFacts → Type 0
IsSession plan job session (Some s) =
    (job < length plan.jobs) × (1 ≤ session) × (session ≤ length (sessions plan job))
    × ((i : ℕ) → bit_at s.needs i ≡ (if session_names plan job session i then 1 else 0))
    × (s.commands ≡ length (commands plan job session))
    × (s.patience ≡ patience plan job session)
IsSession plan job session None = (length plan.jobs ≤ job) ⊎ (session ≡ 0) ⊎ (length (sessions plan job) < session)

-- the command at this place of the session, counted from 0; or there is no such job, or it has no such session, or that has no such command
abbrev pub IsPlanned : LabPlan → ℕ → ℕ → ℕ → Option Planned → Type 0
IsPlanned plan job session place (Some c) =
    (job < length plan.jobs) × (1 ≤ session) × (session ≤ length (sessions plan job)) × (place < length (commands plan job session))
    × ((c.instrument, c.verb) ≡ command_at plan job session place)
IsPlanned plan job session place None =
    (length plan.jobs ≤ job) ⊎ (session ≡ 0) ⊎ (length (sessions plan job) < session) ⊎ (length (commands plan job session) ≤ place)

-- how far the job is, what it has done, and how many turns are counted of it
abbrev pub standing_of : LabView → ℕ → Standing
standing_of x j = record {
  phase = phase x.world.state j;
  sessions = length (sessions x.world.plan j);
  counts = count_at x.world.counts j;
  waited = waited x j;
  turns = (clock_at x j).turns;
}

-- so it is; or there is no such job
abbrev pub IsStandingAt : LabView → ℕ → Option Standing → Type 0
IsStandingAt x job (Some standing) = IsJob x.world.plan job × (standing ≡ standing_of x job)
IsStandingAt x job None = length x.world.plan.jobs ≤ job
