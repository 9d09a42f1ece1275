-- For readers: how many sessions are let in before the session of a job that waits outside.
use Rattle.std.specs.Prelude.{◌≡◌, ◌⊎◌, ℕ, zero, suc, ◌+◌, ◌≤◌, Bool, false, ◌&&◌, ◌||◌, if◌then◌else◌, List, length, Some}
use Rattle.std.proofs.Common.{inl, inr}
use Rattle.lab_plan.specs.IsPlan.{IsPlan}
use Rattle.lab_plan.specs.LabPlan.{LabPlan, session_names}
use Rattle.lab_plan.specs.InstrumentSets.{holds}
use Rattle.legal_steps.specs.declared.event.Event.{Event}
use Rattle.legal_steps.specs.State.{State, Has, session}
use Rattle.legal_steps.specs.Legal.{IsJob}
use Rattle.interleaving.specs.World.{WorldView}
use Rattle.reasons.specs.Deeds.{sum_below}
use Rattle.late_thirst.specs.Outside.{LineView, place, IsOutside}
use Rattle.live_lab.specs.declared.settle.Came.{Came}
use Rattle.live_lab.specs.Labs.{LabView, IsLineOf}
use Rattle.live_lab.specs.Admitting.{Admits}
use Rattle.live_lab.specs.Settles.{Settles}

-- whether session n of job a and session m of job b need one and the same of the first so many instruments; and of all
abbrev pub share_below : LabPlan → (a n b m : ℕ) → ℕ → Bool
share_below plan a n b m zero = false
share_below plan a n b m (suc i) = share_below plan a n b m i || (session_names plan a n i && session_names plan b m i)

abbrev pub share : LabPlan → (a n b m : ℕ) → Bool
share plan a n b m = share_below plan a n b m (length plan.instruments)

-- how many of the first n jobs are in the set, and need in their next session an instrument that job j needs in its own
abbrev pub needing : LabPlan → State → (j set n : ℕ) → ℕ
needing plan s j set n = sum_below (λ k. if holds set k && share plan j (session s j + 1) k (session s k + 1) then 1 else 0) n

-- How many sessions that need an instrument of the next session of job j were let in, one letting-in after another: those of each set, who began
-- their next sessions by it
abbrev pub let_in : (waiting n : ℕ) (old : WorldView) (line : LineView) (events : List Event) (new : WorldView) (line' : LineView)
    → Admits waiting n old line events new line' → ℕ → ℕ
let_in waiting zero old line events new line' none j = 0
let_in waiting (suc n) old line events new line' (mid, there, before, set, last, earlier, next, is) j =
    let_in waiting n old line before mid there earlier j + needing mid.plan mid.state j set (length mid.plan.jobs)

-- and by a whole settle
abbrev pub let_in_by : (waiting : ℕ) (old : LabView) (came : Came) (new : LabView) → Settles waiting old came new → ℕ → ℕ
let_in_by waiting old came new s j =
    let_in waiting s.joins.times s.rested s.asking s.second s.joined s.left_out s.joins.one_by_one j
    + let_in waiting s.rejoins.times s.left s.left_out s.fourth new.world new.line s.rejoins.one_by_one j

-- as it is of every lab: its plan is one, and each job has a place in its line
abbrev pub IsOfAPlan : LabView → Type 0
IsOfAPlan x = IsPlan x.world.plan × IsLineOf x.world x.line

-- a settle names the job, which asks in it
abbrev pub AsksIn : ℕ → LabView → LabView → Type 0
AsksIn j old new =
    (waiting : ℕ) × (came : Came) × IsOfAPlan old × IsJob old.world.plan j × Has waiting j × (s : Settles waiting old came new) × (needs : ℕ)
    × (place s.asking.places j ≡ Some (record { since = s.asking.calls; needs = needs; passed = 0 }))

-- a settle names the job, which keeps its place while others ask
abbrev pub StaysIn : ℕ → LabView → LabView → Type 0
StaysIn j old new =
    (waiting : ℕ) × (came : Came) × IsOfAPlan old × IsJob old.world.plan j × Has waiting j × (s : Settles waiting old came new)
    × (place s.asking.places j ≡ place old.line.places j)

-- From the settle in which the job asked: so many further steps. Each is a settle that names it too, or whatever else leaves its place as it is
abbrev pub SinceAsking : ℕ → ℕ → LabView → LabView → Type 0
SinceAsking j zero old new = AsksIn j old new
SinceAsking j (suc n) old new =
    (mid : LabView) × SinceAsking j n old mid
    × (StaysIn j mid new ⊎ ((place new.line.places j ≡ place mid.line.places j) × (new.line.most ≡ mid.line.most)))

-- how many sessions that need an instrument of the job's were let in in that time
abbrev pub let_in_since : (j n : ℕ) (old new : LabView) → SinceAsking j n old new → ℕ
let_in_since j zero old new (waiting, came, right, job, has, s, needs, asks) = let_in_by waiting old came new s j
let_in_since j (suc n) old new (mid, since, inl (waiting, came, right, job, has, s, stays)) =
    let_in_since j n old mid since + let_in_by waiting mid came new s j
let_in_since j (suc n) old new (mid, since, inr other) = let_in_since j n old mid since

-- While each settle names a job that waits outside, the sessions that are let in from its asking on and need one of its instruments are at most as
-- many as the line's number says
abbrev pub FewAreLetInBefore : Type 0
FewAreLetInBefore =
    (j n : ℕ) (old new : LabView) (since : SinceAsking j n old new) → IsOutside new.line.places j → let_in_since j n old new since ≤ new.line.most
