-- For readers: the laws of logs, their room, and counts: what holds after each beginning of a legal list of events.
use Rattle.std.specs.Prelude.{◌≡◌, ℕ, ◌+◌, ◌≤◌, List, All, length, map, take}
use Rattle.lab_plan.specs.Limits.{most_sessions}
use Rattle.lab_plan.specs.LabPlan.{LabPlan}
use Rattle.lab_plan.specs.IsPlan.{IsPlan}
use Rattle.instrument_log.specs.Dial.{HasDialValues}
use Rattle.instrument_log.specs.Entries.{IsWithinLimits}
use Rattle.instrument_log.specs.InstrumentLog.{MayAppend}
use Rattle.legal_steps.specs.declared.event.Event.{Event}
use Rattle.legal_steps.specs.declared.phase.Drinking.TheVariants.{Reaching}
use Rattle.legal_steps.specs.State.{State, log, drinking, session, IsInSession}
use Rattle.legal_steps.specs.Legal.{IsJob, next_command, next_entry}
use Rattle.legal_steps.specs.Run.{IsLegalFrom, after_all, meals_of, sessions_done_of, withdrawn_of}
use Rattle.legal_steps.specs.Opening.{IsOpening}
use Rattle.legal_steps.specs.Holding.{Holds}
use Rattle.legal_steps.specs.WholeLogs.{line_of, parts_of, IsSessionOf, IsAscending, IsWholeButEnd, BeginsWithParts, ended_sessions, room_of, log_with_room}
use Rattle.legal_steps.specs.Laws.{Always}

-- ---- logs

-- every log is whole except for its end
abbrev pub HasWholeLogs : Type 0
HasWholeLogs = Always (λ plan s. (i : ℕ) → IsWholeButEnd plan i (log s i))

-- each entry has the value that the dial had after its command
abbrev pub HasValuesOfDials : Type 0
HasValuesOfDials = Always (λ plan s. (i : ℕ) → HasDialValues (log s i))

-- P holds of each beginning of every list that is legal from any opening state of any plan, from that opening on
abbrev pub AlwaysAlong : (LabPlan → State → List Event → Type 0) → Type 0
AlwaysAlong P = (plan : LabPlan) (opening : State) (events : List Event) (n : ℕ) → IsPlan plan
    → IsOpening plan opening → IsLegalFrom plan opening events → P plan opening (take n events)

-- the sessions that ended are the plan's, those of each job in ascending order
abbrev pub EndsInOrder : Type 0
EndsInOrder = AlwaysAlong (λ plan opening done. All (IsSessionOf plan) (ended_sessions plan opening done) × IsAscending (ended_sessions plan opening done))

-- the sessions that ended have their parts in every log, in the order of their ends
abbrev pub HasEndedSessions : Type 0
HasEndedSessions = AlwaysAlong (λ plan opening done. (i : ℕ) → BeginsWithParts plan i (ended_sessions plan opening done) (log (after_all plan opening done) i))

-- and if no job holds the instrument, its log has nothing else
abbrev pub HasNothingElse : Type 0
HasNothingElse = AlwaysAlong (λ plan opening done. (i : ℕ) → ((j : ℕ) → ¬ Holds plan (after_all plan opening done) j i)
    → map line_of (log (after_all plan opening done) i) ≡ parts_of plan i (ended_sessions plan opening done))

-- ---- what an Act finds

-- a log has at most as many entries as the plan has commands on its instrument
abbrev pub FitsItsRoom : Type 0
FitsItsRoom = Always (λ plan s. (i : ℕ) → length (log s i) ≤ room_of plan i)

-- the entry of a reaching job is within the limits, follows in its log, and finds room there
abbrev pub TakesNextEntry : Type 0
TakesNextEntry = Always (λ plan s. (j : ℕ) → IsJob plan j → drinking s j ≡ Reaching →
    let i = (next_command plan s j).0 in
    MayAppend (log_with_room plan s i) (next_entry plan s j) × IsWithinLimits (next_entry plan s j))

-- ---- counts

-- a job begins no more sessions than a job may have
abbrev pub HasFewSessions : Type 0
HasFewSessions = Always (λ plan s. (j : ℕ) → session s j ≤ most_sessions)

-- a job has at most one meal for each session that it began
abbrev pub HasFewMeals : Type 0
HasFewMeals = AlwaysAlong (λ plan opening done. (j : ℕ) → meals_of j done ≤ session (after_all plan opening done) j)

-- each session that a job began has ended, was given up, or is the one that the job is in
abbrev pub CountsSessions : Type 0
CountsSessions = AlwaysAlong (λ plan opening done. (j : ℕ) →
    (IsInSession (drinking (after_all plan opening done) j) → sessions_done_of j done + withdrawn_of j done + 1 ≡ session (after_all plan opening done) j)
    × (¬ IsInSession (drinking (after_all plan opening done) j) → sessions_done_of j done + withdrawn_of j done ≡ session (after_all plan opening done) j))
