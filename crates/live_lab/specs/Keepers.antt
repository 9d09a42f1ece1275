-- For readers: who keeps a job waiting for an instrument.
use Rattle.std.specs.Prelude.{◌≡◌, ◌⊎◌, ℕ, ◌+◌, ◌≤◌, ◌<◌, Bool, true, false, length, Option, Some, None}
use Rattle.lab_plan.specs.LabPlan.{LabPlan, session_names}
use Rattle.legal_steps.specs.declared.phase.Drinking.TheVariants.{Thirsty}
use Rattle.legal_steps.specs.State.{State, Has, IsDrinking, phase, drinking, session}
use Rattle.legal_steps.specs.Legal.{IsJob, Needs, instrument_of}
use Rattle.interleaving.specs.World.{WorldView}
use Rattle.reasons.specs.Reasons.{Lacks, Keeps as KeepsBottle}
use Rattle.live_lab.specs.declared.keepers.Keepers.{Keepers}
use Rattle.late_thirst.specs.declared.asker.Asker.{Asker}
use Rattle.live_lab.specs.Labs.{LabView}
use Rattle.live_lab.specs.Sets.{AreJobs}
use Rattle.live_lab.specs.Rests.{IsAtRest}
use Rattle.live_lab.specs.Admitting.{IsLeftOutside}

-- bottle b of edge e is the instrument's, job j lacks it, and job k keeps it
abbrev pub IsKept : LabPlan → State → ℕ → ℕ → ℕ → ℕ → ℕ → Type 0
IsKept plan s j i k e b = (instrument_of plan e b ≡ i) × Lacks plan s j e b × KeepsBottle plan s k e b

-- one bottle of the edge is so
abbrev pub IsKeptAt : LabPlan → State → ℕ → ℕ → ℕ → ℕ → Type 0
IsKeptAt plan s j i k e = (b : ℕ) × IsKept plan s j i k e b

-- job k keeps a bottle of the instrument that job j lacks
abbrev pub IsKeeper : LabPlan → State → ℕ → ℕ → ℕ → Type 0
IsKeeper plan s j i k = (e : ℕ) × IsKeptAt plan s j i k e

-- the jobs that do, and those of them that hold
pub record AreKeepers (w : WorldView) (j i : ℕ) (r : Keepers) : Type 0 where
  pub jobs : AreJobs w.plan r.jobs (IsKeeper w.plan w.state j i)
  pub holding : AreJobs w.plan r.holding (λ k. IsKeeper w.plan w.state j i k × IsDrinking (phase w.state k))

-- of a job outside whose next session names the instrument: the jobs in a session that needs it, and those of them that hold
abbrev pub IsUser : LabPlan → State → ℕ → ℕ → ℕ → Type 0
IsUser plan s j i k = (session_names plan j (session s j + 1) i ≡ true) × Needs plan s k i

-- either, whoever waits: a user if it does so outside, else a keeper
abbrev pub IsOne : Bool → LabPlan → State → ℕ → ℕ → ℕ → Type 0
IsOne true plan s j i k = IsUser plan s j i k
IsOne false plan s j i k = IsKeeper plan s j i k

-- a job of the set that holds
abbrev pub IsHoldingOf : ℕ → State → ℕ → Type 0
IsHoldingOf jobs s k = Has jobs k × IsDrinking (phase s k)

pub record AreUsers (w : WorldView) (j i : ℕ) (r : Keepers) : Type 0 where
  pub jobs : AreJobs w.plan r.jobs (IsUser w.plan w.state j i)
  pub holding : AreJobs w.plan r.holding (λ k. IsUser w.plan w.state j i k × IsDrinking (phase w.state k))

-- these of a job that waits outside; of another one that keep it waiting; or there is no such job, or no such instrument
abbrev pub AreKeepersAt : LabView → ℕ → ℕ → Option Keepers → Type 0
AreKeepersAt x job i (Some r) =
    IsJob x.world.plan job × (i < length x.world.plan.instruments)
    × (((a : Asker) × IsLeftOutside x job a × AreUsers x.world job i r) ⊎ (((a : Asker) → ¬ IsLeftOutside x job a) × AreKeepers x.world job i r))
AreKeepersAt x job i None = (length x.world.plan.jobs ≤ job) ⊎ (length x.world.plan.instruments ≤ i)

-- ---- the law

-- job j lacks a bottle of the instrument
abbrev pub LacksOneOf : LabPlan → State → ℕ → ℕ → Type 0
LacksOneOf plan s j i = (e : ℕ) × (b : ℕ) × (instrument_of plan e b ≡ i) × Lacks plan s j e b

-- In a world at rest, as each settle leaves it: each instrument of which a thirsty job lacks a bottle has a keeper
abbrev pub EachLackHasAKeeper : Type 0
EachLackHasAKeeper =
    (w : WorldView) → IsAtRest w → (j i : ℕ) → drinking w.state j ≡ Thirsty → LacksOneOf w.plan w.state j i
    → (k : ℕ) × IsJob w.plan k × IsKeeper w.plan w.state j i k
