-- For readers: who waits outside, and who is let in.
use Rattle.std.specs.Prelude.{◌≡◌, ◌≢◌, ◌⊎◌, ◌↔◌, ℕ, zero, suc, ◌+◌, ◌^◌, ◌<◌, ◌≤◌, min, true, List, [], ◌++◌, length, Option, Some, None}
use Rattle.lab_plan.specs.LabPlan.{LabPlan, sessions, session_names}
use Rattle.lab_plan.specs.InstrumentSets.{holds}
use Rattle.legal_steps.specs.declared.event.Event.{Event}
use Rattle.legal_steps.specs.declared.event.Event.TheVariants.{Thirst}
use Rattle.legal_steps.specs.declared.phase.Drinking.TheVariants.{Tranquil}
use Rattle.legal_steps.specs.State.{State, Has, IsInSession, IsDrinking, phase, drinking, session}
use Rattle.legal_steps.specs.Legal.{May, IsJob, Needs}
use Rattle.interleaving.specs.World.{WorldView}
use Rattle.late_thirst.specs.declared.asker.Asker.{Asker}
use Rattle.late_thirst.specs.declared.asker.Reason.TheVariants.{Passed}
use Rattle.late_thirst.specs.Outside.{LineView, place, NobodyIsDue}
use Rattle.late_thirst.specs.Lines.{LineLetsIn}
use Rattle.live_lab.specs.Labs.{LabView}
use Rattle.live_lab.specs.Sets.{AreJobs}
use Rattle.live_lab.specs.Rests.{DoAndRest}

-- ---- asking

-- the job is in no session and has one left, which needs these instruments
pub record AsksFor (plan : LabPlan) (s : State) (j needs : ℕ) : Type 0 where
  pub tranquil : drinking s j ≡ Tranquil
  pub left : session s j < length (sessions plan j)
  pub names : (i : ℕ) → holds needs i ≡ session_names plan j (session s j + 1) i

-- what its next session needs, if it can ask for one
abbrev pub IsNext : LabPlan → State → ℕ → Option ℕ → Type 0
IsNext plan s j (Some needs) = AsksFor plan s j needs
IsNext plan s j None = drinking s j ≡ Tranquil → length (sessions plan j) ≤ session s j

-- a place of one that asks for a session with these needs
abbrev pub IsPlaceFor : ℕ → Option Asker → Type 0
IsPlaceFor needs (Some a) = a.needs ≡ needs
IsPlaceFor needs None = ⊥

-- the job is waited for, and may begin its next session
abbrev pub MayAsk : ℕ → WorldView → ℕ → Type 0
MayAsk waiting w j = Has waiting j × May w.plan w.state (Thirst j)

-- A job that can ask for a session keeps its place, if it has asked for it. If it hasn't, it asks in this call if it is waited for and may begin.
-- If it can't ask for one, or hasn't, it has no place
abbrev pub IsPlaceFrom : ℕ → WorldView → ℕ → ℕ → Option ℕ → Option Asker → Option Asker → Type 0
IsPlaceFrom waiting w calls j None old new = new ≡ None
IsPlaceFrom waiting w calls j (Some needs) old new =
    (IsPlaceFor needs old × (new ≡ old))
    ⊎ ((IsPlaceFor needs old → ⊥) × MayAsk waiting w j × (new ≡ Some (record { since = calls; needs = needs; passed = 0 })))
    ⊎ ((IsPlaceFor needs old → ⊥) × (MayAsk waiting w j → ⊥) × (new ≡ None))

abbrev pub IsPlaceThen : ℕ → WorldView → ℕ → ℕ → Option Asker → Option Asker → Type 0
IsPlaceThen waiting w calls j old new = (next : Option ℕ) × IsNext w.plan w.state j next × IsPlaceFrom waiting w calls j next old new

-- so it is with this job, and nothing else changed
pub record Attends (waiting : ℕ) (w : WorldView) (j : ℕ) (old new : LineView) : Type 0 where
  pub as_many : length new.places ≡ length old.places
  pub calls : new.calls ≡ old.calls
  pub most : new.most ≡ old.most
  pub here : IsPlaceThen waiting w old.calls j (place old.places j) (place new.places j)
  pub others : (k : ℕ) → k ≢ j → place new.places k ≡ place old.places k

-- so it is with each job, in one call more
pub record Asks (waiting : ℕ) (w : WorldView) (old new : LineView) : Type 0 where
  pub as_many : length new.places ≡ length old.places
  pub calls : new.calls ≡ min (old.calls + 1) 18446744073709551615
  pub most : new.most ≡ old.most
  pub each : (j : ℕ) → IsJob w.plan j → IsPlaceThen waiting w new.calls j (place old.places j) (place new.places j)

-- each that has a place asks for what its next session needs
abbrev pub AreAskers : WorldView → LineView → Type 0
AreAskers w line = (j : ℕ) (a : Asker) → IsJob w.plan j → place line.places j ≡ Some a → AsksFor w.plan w.state j a.needs

-- ---- letting in

-- the set has just the instruments that a job in a session needs
abbrev pub AreInUse : WorldView → ℕ → Type 0
AreInUse w used = (i : ℕ) → (holds used i ≡ true) ↔ ((k : ℕ) × IsJob w.plan k × Needs w.plan w.state k i)

-- the line lets in some of those that are waited for and may begin
pub record LetsInNext (waiting : ℕ) (w : WorldView) (old : LineView) (set : ℕ) (new : LineView) : Type 0 where
  pub ready : ℕ
  pub may : AreJobs w.plan ready (MayAsk waiting w)
  pub used : ℕ
  pub in_use : AreInUse w used
  pub small : used < 2 ^ 64
  pub lets : LineLetsIn ready used old set new

-- and they begin, and all was done that this made due
pub record AdmitsNext (waiting : ℕ) (old : WorldView) (line : LineView) (set : ℕ) (events : List Event) (new : WorldView) (line' : LineView) : Type 0 where
  pub some : set ≢ 0
  pub lets : LetsInNext waiting old line set line'
  pub begins : DoAndRest (λ j. Thirst j) set old events new

-- so many times, one after another
abbrev pub Admits : ℕ → ℕ → WorldView → LineView → List Event → WorldView → LineView → Type 0
Admits waiting zero old line events new line' = (events ≡ []) × (new ≡ old) × (line' ≡ line)
Admits waiting (suc n) old line events new line' =
    (mid : WorldView) × (there : LineView) × (before : List Event) × (set : ℕ) × (last : List Event) × Admits waiting n old line before mid there
    × AdmitsNext waiting mid there set last new line' × (events ≡ before ++ last)

-- the job is one of those who were let in because no instrument of theirs was in use; all others had been passed by often enough
abbrev pub WasFree : (waiting n : ℕ) (old : WorldView) (line : LineView) (events : List Event) (new : WorldView) (line' : LineView)
    → Admits waiting n old line events new line' → ℕ → Type 0
WasFree waiting zero old line events new line' none k = ⊥
WasFree waiting (suc n) old line events new line' (mid, there, before, set, last, earlier, next, is) k =
    WasFree waiting n old line before mid there earlier k ⊎ (Has set k × NobodyIsDue (Passed there.most) next.lets.ready there.places)

-- one that is left outside was passed by fewer than `most` times, and a job in a session needs one of its instruments
pub record StandsOutside (w : WorldView) (line : LineView) (j : ℕ) (a : Asker) : Type 0 where
  pub passed : a.passed < line.most
  pub instrument : ℕ
  pub wanted : session_names w.plan j (session w.state j + 1) instrument ≡ true
  pub user : ℕ
  pub is_job : IsJob w.plan user
  pub used : Needs w.plan w.state user instrument

-- so it is with each that is waited for and may begin
abbrev pub EachStandsOutside : ℕ → WorldView → LineView → Type 0
EachStandsOutside waiting w line =
    (j : ℕ) (a : Asker) → IsJob w.plan j → MayAsk waiting w j → place line.places j ≡ Some a → StandsOutside w line j a

-- Until nobody is due to be let in any more. Whoever was let in because it was free holds then, and whoever is left outside has a reason
pub record AdmitsAll (waiting : ℕ) (old : WorldView) (line : LineView) (events : List Event) (new : WorldView) (line' : LineView) : Type 0 where
  pub times : ℕ
  pub one_by_one : Admits waiting times old line events new line'
  pub over : LetsInNext waiting new line' 0 line'
  pub free_hold : (k : ℕ) → IsJob new.plan k → WasFree waiting times old line events new line' one_by_one k → IsDrinking (phase new.state k)
  pub outside : EachStandsOutside waiting new line'

-- nobody is outside
abbrev pub NobodyIsOutside : LineView → Type 0
NobodyIsOutside line = (j : ℕ) → place line.places j ≡ None

-- ---- what is read

-- the job waits outside: it has asked, and isn't in a session
abbrev pub IsLeftOutside : LabView → ℕ → Asker → Type 0
IsLeftOutside x j a = (place x.line.places j ≡ Some a) × ¬ IsInSession (drinking x.world.state j)

-- whether it is, and how often it has been passed by; or there is no such job
abbrev pub IsOutsideAt : LabView → ℕ → Option (Option ℕ) → Type 0
IsOutsideAt x j (Some (Some passed)) = IsJob x.world.plan j × (a : Asker) × IsLeftOutside x j a × (passed ≡ a.passed)
IsOutsideAt x j (Some None) = IsJob x.world.plan j × ((a : Asker) → ¬ IsLeftOutside x j a)
IsOutsideAt x j None = length x.world.plan.jobs ≤ j

-- its place, if it waits outside
abbrev pub IsPlaceOutside : LabView → ℕ → Option Asker → Type 0
IsPlaceOutside x j (Some a) = IsLeftOutside x j a
IsPlaceOutside x j None = (a : Asker) → ¬ IsLeftOutside x j a
