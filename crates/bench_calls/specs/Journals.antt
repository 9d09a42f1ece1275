-- For readers: a bench that keeps its steps: how its journal is taken, and how it comes back from one.
use Rattle.std.specs.Prelude.{◌≡◌, ◌⊎◌, ℕ, ◌<◌, true, List, length, Option, Some, None, Err}
use Rattle.lab_program.specs.declared.faults.RunFault.{RunFault}
use Rattle.lab_program.specs.Faults.{status_of}
use Rattle.live_lab.specs.Labs.{LabView}
use Rattle.journal_texts.specs.Texts.{journal_text}
use Rattle.lab_journal.specs.declared.written.NotTaken.{NotTaken}
use Rattle.lab_journal.specs.declared.written.NotTaken.TheVariants.{NoMemory, NotKept, NotWhole}
use Rattle.lab_journal.specs.Taking.{without_kept, IsWhyNotTaken}
use Rattle.lab_journal.specs.Resumed.{IsResumed, IsNotResumed}
use Rattle.c_tells.specs.declared.told.Told.{Told}
use Rattle.c_tells.specs.Telling.{told_of, told_length, Puts}
use Rattle.bench_calls.specs.declared.inside.Inside.{Inside}
use Rattle.bench_calls.specs.declared.inside.Inside.TheVariants.{Open}
use Rattle.bench_calls.specs.Calls.{Written}

-- ---- taking

abbrev pub why_number : NotTaken → ℕ
why_number NoMemory = 5
why_number NotKept = 8
why_number NotWhole = 12

-- the text stands in the room, and what is kept was taken (0); or there is no room for it (6), and nothing was taken
abbrev pub PutsAndTakes : List ℕ → LabView → LabView → List ℕ → List ℕ → ℕ → Type 0
PutsAndTakes text a b room room' status =
    ((status ≡ 0) × (b ≡ without_kept a) × Puts text room room')
    ⊎ ((status ≡ 6) × (b ≡ a) × (length room < length text) × (room' ≡ room))

-- The lines of all that the lab did since its journal was last taken, and their length; or why there are none: no memory (5), the lab doesn't keep its steps
-- (8), or a step was left out for want of room (12). Nothing changed then
abbrev pub TellsJournal : LabView → LabView → Written → Written → ℕ → Type 0
TellsJournal a b told told' status =
    (let text : List ℕ = journal_text a.world.plan a.world.kept.events in
    (a.world.kept.whole ≡ true) × (told'.1 ≡ length text) × PutsAndTakes text a b told.0 told'.0 status)
    ⊎ ((why : NotTaken) × IsWhyNotTaken a.world.kept why × (status ≡ why_number why) × (b ≡ a) × (told' ≡ told))

-- ---- the way back

-- the lab that the journal tells of, as far as it has whole lines; the length of these is told
abbrev pub IsResumedIn : List ℕ → Inside → Told → Type 0
IsResumedIn journal new told' = (l : LabView) × (n : ℕ) × (new ≡ Open l) × IsResumed journal n l × (told' ≡ told_length n)

-- there is none because of this fault, which is told
abbrev pub IsNotResumedIn : List ℕ → Told → ℕ → Type 0
IsNotResumedIn journal told' status = (fault : RunFault) × IsNotResumed journal fault × (status ≡ status_of (Err fault)) × (told' ≡ told_of fault)

-- an empty handle has the lab that the journal tells of (0); or there is none, the handle is as it was and the fault is told; or the handle is in use, and
-- nothing changed (11)
abbrev pub Resumes : List ℕ → Option Inside → Option Inside → Told → Told → ℕ → Type 0
Resumes journal (Some held) new told told' status = (status ≡ 11) × (new ≡ Some held) × (told' ≡ told)
Resumes journal None new told told' status =
    ((status ≡ 0) × (h : Inside) × (new ≡ Some h) × IsResumedIn journal h told')
    ⊎ ((new ≡ None) × IsNotResumedIn journal told' status)
