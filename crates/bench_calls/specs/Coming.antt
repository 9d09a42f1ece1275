-- For readers: what the call does that adds sessions, and what is told of them for the journal.
use Rattle.std.specs.Prelude.{◌≡◌, ◌⊎◌, ℕ, ◌-◌, ◌<◌, ◌≤◌, ◌||◌, nat_lt, Bool, true, false, List, length, None, Result, Ok, Err}
use Rattle.lab_plan.specs.LabPlan.{sessions}
use Rattle.journal_texts.specs.More.{more_text}
use Rattle.lab_journal.specs.declared.more_room.NoRoom.TheVariants.{NoMemory as MemoryLacks, HasSteps}
use Rattle.lab_journal.specs.Room.{HasMoreRoom, IsWhyNoRoom}
use Rattle.lab_program.specs.declared.faults.RunFault.TheVariants.{Script}
use Rattle.lab_program.specs.Faults.{status_of}
use Rattle.live_lab.specs.declared.additions.NotAdded.{NotAdded}
use Rattle.live_lab.specs.declared.additions.NotAdded.TheVariants.{HasRetired, Fault, NoMemory}
use Rattle.live_lab.specs.Labs.{LabView}
use Rattle.live_lab.specs.Readers.{IsSession}
use Rattle.live_lab.specs.Adding.{AddsText}
use Rattle.c_tells.specs.declared.told.Told.{Told}
use Rattle.c_tells.specs.Telling.{told_of, told_length, Gives}
use Rattle.bench_calls.specs.Calls.{ByJob, Written}

-- the lab keeps its steps: there is room for one, or one is kept
abbrev pub keeps : LabView → Bool
keeps x = nat_lt 0 (x.world.kept.room - length x.world.kept.events) || nat_lt 0 (length x.world.kept.events)

-- all were added (0); the job has retired (14); the text has a fault, which is told (1, 5); or there was no memory behind so many, which is told (5)
abbrev pub TellsAdded : Result (Unit {0}) NotAdded → Told → Told → ℕ → Type 0
TellsAdded (Ok _) told told' status = (status ≡ 0) × (told' ≡ told)
TellsAdded (Err HasRetired) told told' status = (status ≡ 14) × (told' ≡ told)
TellsAdded (Err (Fault fault)) told told' status = (status ≡ status_of (Err (Script fault))) × (told' ≡ told_of (Script fault))
TellsAdded (Err (NoMemory added)) told told' status = (status ≡ 5) × (told' ≡ told_length added)

-- There is room for the steps of longer sessions, and the sessions of the text came, behind the others of the job. Or the lab keeps its steps, has too little
-- room for theirs, and stays as it is: some weren't taken yet (12), or there is no memory for more room (5)
unfoldable pub Comes : List ℕ → ℕ → LabView → LabView → Told → Told → ℕ → Type 0
Comes text job a b told told' status =
    ((c : LabView) × HasMoreRoom text a c × ByJob (AddsText text) TellsAdded job c b told told' status)
    ⊎ ((status ≡ 12) × IsWhyNoRoom text a HasSteps × (b ≡ a) × (told' ≡ told))
    ⊎ ((status ≡ 5) × IsWhyNoRoom text a MemoryLacks × (b ≡ a) × (told' ≡ told_length 0))

-- ---- their lines, for the journal

-- The lines of a session of a job, and their length, of a lab that keeps its steps (0, or 6 without room for them); or it doesn't (8), there is no such
-- job or session (2), or no memory (5), and nothing is told
abbrev pub TellsMore : ℕ → ℕ → LabView → LabView → Written → Written → ℕ → Type 0
TellsMore job session a b told told' status =
    (b ≡ a)
    × (((keeps a ≡ true) × (job < length a.world.plan.jobs) × (1 ≤ session) × (session ≤ length (sessions a.world.plan job))
    × (told'.1 ≡ length (more_text a.world.plan job session)) × Gives 0 (more_text a.world.plan job session) told.0 told'.0 status)
    ⊎ ((status ≡ 8) × (keeps a ≡ false) × (told' ≡ told))
    ⊎ ((status ≡ 2) × IsSession a.world.plan job session None × (told' ≡ told))
    ⊎ ((status ≡ 5) × (told' ≡ told)))
