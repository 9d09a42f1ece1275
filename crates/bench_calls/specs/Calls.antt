-- For readers: what each call on the lab of one handle leaves in the handle and in the caller's memory, and its status.
use Rattle.std.specs.Prelude.{◌≡◌, ◌⊎◌, ℕ, ◌≤◌, ◌<◌, Bool, true, false, List, length, Option, Some, None, Err}
use Rattle.lab_plan.specs.LabPlan.{job_at}
use Rattle.lab_program.specs.declared.faults.RunFault.{RunFault}
use Rattle.lab_program.specs.Faults.{status_of}
use Rattle.live_lab.specs.declared.settle.Came.{Came}
use Rattle.late_thirst.specs.Lines.{with_most}
use Rattle.live_lab.specs.Labs.{LabView, with_line}
use Rattle.live_lab.specs.Admitting.{IsOutsideAt}
use Rattle.live_lab.specs.Calls.{AtJob, Withdraws, Commands}
use Rattle.live_lab.specs.Stages.{GoesToRetire}
use Rattle.live_lab.specs.Ends.{EndsSession}
use Rattle.live_lab.specs.Settles.{Settles}
use Rattle.live_lab.specs.Readers.{IsSession, IsPlanned, IsStandingAt, IsInstrumentName}
use Rattle.live_lab.specs.Keepers.{AreKeepersAt}
use Rattle.lab_journal.specs.Taking.{has_room}
use Rattle.bench_texts.specs.Texts.{lab_text, MeansPlan}
use Rattle.bench_calls.specs.Openings.{IsOpenedFor, IsWhyNotFor}
use Rattle.c_tells.specs.declared.told.Told.{Told}
use Rattle.c_tells.specs.Telling.{told_of, Gives, Delivers, Fails}
use Rattle.bench_calls.specs.declared.inside.Inside.{Inside}
use Rattle.bench_calls.specs.declared.inside.Inside.TheVariants.{Open}
use Rattle.bench_calls.specs.declared.told.LabTurned.{LabTurned}
use Rattle.bench_calls.specs.declared.told.LabCame.{LabCame}
use Rattle.bench_calls.specs.declared.told.LabSize.{LabSize}
use Rattle.bench_calls.specs.declared.told.LabSession.{LabSession}
use Rattle.bench_calls.specs.declared.told.LabState.{LabState}
use Rattle.bench_calls.specs.declared.told.LabEntry.{LabEntry}
use Rattle.bench_calls.specs.declared.told.LabPlanned.{LabPlanned}
use Rattle.bench_calls.specs.declared.told.LabKeepers.{LabKeepers}
use Rattle.bench_calls.specs.declared.told.LabOutside.{LabOutside}
use Rattle.bench_calls.specs.Telling.{came_of, session_of, state_of, planned_of, keepers_of, outside_of}
use Rattle.bench_calls.specs.Telling.{IfTold, TellsAs, TellsDid, TellsRetired, TellsRelease, TellsEntry}

-- ---- opening

-- a lab of the plan that the script means, of which this holds, and nothing is told; of a text `bench 1` the lab after that, once the first sessions
-- were given up
abbrev pub IsOpened : (LabView → Type 0) → List ℕ → Inside → Told → Told → Type 0
IsOpened Is script new told told' = (l : LabView) × (new ≡ Open l) × IsOpenedFor Is script l × (told' ≡ told)

-- there is none because of this fault, which is told
abbrev pub IsNotOpened : List ℕ → Told → ℕ → Type 0
IsNotOpened script told' status = (fault : RunFault) × IsWhyNotFor script fault × (status ≡ status_of (Err fault)) × (told' ≡ told_of fault)

-- an empty handle has a lab of the plan that the script means, of which this holds (0); or no lab was opened, the handle is as it was and the fault is
-- told; or the handle is in use, and nothing changed (11)
abbrev pub Opens : (LabView → Type 0) → List ℕ → Option Inside → Option Inside → Told → Told → ℕ → Type 0
Opens Is script (Some held) new told told' status = (status ≡ 11) × (new ≡ Some held) × (told' ≡ told)
Opens Is script None new told told' status =
    ((status ≡ 0) × (h : Inside) × (new ≡ Some h) × IsOpened Is script h told told')
    ⊎ ((new ≡ None) × IsNotOpened script told' status)

-- the script that the text stands for is in the room (0), or has no room there (6), and its length is told; or there is none, the room stays as it was
-- and the fault is told
abbrev pub TellsScript : List ℕ → List ℕ → List ℕ → Told → ℕ → Type 0
TellsScript text room room' told' status =
    (MeansPlan text × Delivers 0 (lab_text text) room room' told' status)
    ⊎ ((fault : RunFault) × IsWhyNotFor text fault × Fails fault room room' told' status)

-- ---- calls on an open lab

-- the open lab of the handle went from one to another; or the handle has none, and nothing changed (7)
abbrev pub InLab : {T : Type 0} → (LabView → LabView → T → T → ℕ → Type 0) → Option Inside → Option Inside → T → T → ℕ → Type 0
InLab Did (Some (Open a)) new told told' status = (b : LabView) × (new ≡ Some (Open b)) × Did a b told told' status
InLab Did (Some other) new told told' status = (status ≡ 7) × (new ≡ Some other) × (told' ≡ told)
InLab Did None new told told' status = (status ≡ 7) × (new ≡ None) × (told' ≡ told)

abbrev pub IfSo : {T : Type 0} → Bool → (LabView → LabView → T → T → ℕ → Type 0) → LabView → LabView → T → T → ℕ → Type 0
IfSo true Did a b told told' status = Did a b told told' status
IfSo false Did a b told told' status = (status ≡ 12) × (b ≡ a) × (told' ≡ told)

-- so it was, if the lab keeps no steps or has room for those of a call; or else nothing changed (12)
abbrev pub InRoom : {T : Type 0} → (LabView → LabView → T → T → ℕ → Type 0) → LabView → LabView → T → T → ℕ → Type 0
InRoom Did a b told told' status = IfSo (has_room a.world.kept) Did a b told told' status

-- the job did so, and its answer is told; or there is no such job, and nothing changed (2)
abbrev pub ByJob : {R T : Type 0} → (ℕ → LabView → R → LabView → Type 0) → (R → T → T → ℕ → Type 0) → ℕ → LabView → LabView → T → T → ℕ → Type 0
ByJob {R} Did Tells job a b told told' status = (r : Option R) × AtJob Did job a r b × IfTold Tells r told told' status

-- A settle, and what came of it is told (0). By `Settles` nothing is left to do after it, and from each job that is thirsty then a chain of jobs leads to
-- one that holds, each of which keeps a bottle that the one before it lacks
abbrev pub SettlesAll : ℕ → LabView → LabView → LabCame → LabCame → ℕ → Type 0
SettlesAll waiting a b told told' status = (status ≡ 0) × (came : Came) × Settles waiting a came b × (told' ≡ came_of came)

-- the job's next command was done, and its entry is told (0); or it doesn't hold or no command is left (8)
abbrev pub DoesNext : ℕ → LabView → LabView → LabEntry → LabEntry → ℕ → Type 0
DoesNext job = ByJob Commands TellsEntry job

-- the job did the commands that were left and let go, and all was done that this made due (0); or it doesn't hold (8)
abbrev pub LetsGo : ℕ → LabView → LabView → LabTurned → LabTurned → ℕ → Type 0
LetsGo job = ByJob EndsSession TellsRelease job

-- the job waits outside no more, or its session was given up (0); or it isn't outside, and isn't thirsty or has no patience (8)
abbrev pub GivesUp : ℕ → LabView → LabView → Unit {0} → Unit {0} → ℕ → Type 0
GivesUp job = ByJob Withdraws TellsDid job

-- the job is retired (0), not yet (8), or it has sessions left (10)
abbrev pub GoesToEnd : ℕ → ℕ → LabView → LabView → LabTurned → LabTurned → ℕ → Type 0
GoesToEnd most job = ByJob (GoesToRetire most) TellsRetired job

-- jobs are let in after so many sessions that pass them by, from now on (0)
abbrev pub SetsOvertakes : ℕ → LabView → LabView → Unit {0} → Unit {0} → ℕ → Type 0
SetsOvertakes most a b told told' status = (status ≡ 0) × (b ≡ with_line a (with_most a.line most))

-- ---- calls that change nothing in the lab

-- what is so of the lab is told; or there is no such thing (2)
abbrev pub Reads : {R T : Type 0} → (LabView → Option R → Type 0) → (R → T) → LabView → LabView → T → T → ℕ → Type 0
Reads {R} Is how a b told told' status = (b ≡ a) × (r : Option R) × Is a r × IfTold (TellsAs how) r told told' status

abbrev pub TellsSize : LabView → LabView → LabSize → LabSize → ℕ → Type 0
TellsSize a b told told' status = (b ≡ a) × (status ≡ 0) × (told' ≡ record { jobs = length a.world.plan.jobs; instruments = length a.world.plan.instruments })

-- the session (0), or there is no such job, or it has no such session (2)
abbrev pub TellsSession : ℕ → ℕ → LabView → LabView → LabSession → LabSession → ℕ → Type 0
TellsSession job session = Reads (λ a. IsSession a.world.plan job session) session_of

-- the command of the session (0), or there is no such job, session or command (2)
abbrev pub TellsPlanned : ℕ → ℕ → ℕ → LabView → LabView → LabPlanned → LabPlanned → ℕ → Type 0
TellsPlanned job session place = Reads (λ a. IsPlanned a.world.plan job session place) planned_of

-- how far the job is (0), or there is no such job (2)
abbrev pub TellsState : ℕ → LabView → LabView → LabState → LabState → ℕ → Type 0
TellsState job = Reads (λ a. IsStandingAt a job) state_of

-- the jobs that keep the job waiting for the instrument, and those of them that hold (0), or there is no such job or instrument (2)
abbrev pub TellsKeepers : ℕ → ℕ → LabView → LabView → LabKeepers → LabKeepers → ℕ → Type 0
TellsKeepers job instrument = Reads (λ a. AreKeepersAt a job instrument) keepers_of

-- whether the job waits outside, and how often it has been passed by (0), or there is no such job (2)
abbrev pub TellsOutside : ℕ → LabView → LabView → LabOutside → LabOutside → ℕ → Type 0
TellsOutside job = Reads (λ a. IsOutsideAt a job) outside_of

-- a room and how long the text is that was asked for
abbrev pub Written : Type 0
Written = List ℕ × ℕ

-- the name stands in the room (0), or there is no room for it (6), and its length is told; or there is none, and nothing changed (2)
abbrev pub TellsName : (List ℕ → Type 0) → Type 0 → LabView → LabView → Written → Written → ℕ → Type 0
TellsName Is Missing a b told told' status =
    (b ≡ a)
    × (((name : List ℕ) × Is name × (told'.1 ≡ length name) × Gives 0 name told.0 told'.0 status)
    ⊎ ((status ≡ 2) × Missing × (told' ≡ told)))

abbrev pub TellsJobName : ℕ → LabView → LabView → Written → Written → ℕ → Type 0
TellsJobName job a = TellsName (λ name. (job < length a.world.plan.jobs) × (name ≡ (job_at a.world.plan job).name)) (length a.world.plan.jobs ≤ job) a

abbrev pub TellsInstrumentName : ℕ → LabView → LabView → Written → Written → ℕ → Type 0
TellsInstrumentName instrument a = TellsName (IsInstrumentName a.world.plan instrument) (length a.world.plan.instruments ≤ instrument) a
