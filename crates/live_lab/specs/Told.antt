-- For readers: what whoever is waited for comes away with.
use Rattle.std.specs.Prelude.{◌≡◌, ◌⊎◌, ℕ, List}
use Rattle.legal_steps.specs.declared.phase.Drinking.TheVariants.{Thirsty}
use Rattle.legal_steps.specs.State.{Has, IsDrinking, phase, drinking}
use Rattle.legal_steps.specs.Legal.{IsJob}
use Rattle.interleaving.specs.World.{WorldView}
use Rattle.reasons.specs.Reasons.{LeadsToHolder}
use Rattle.late_thirst.specs.declared.asker.Asker.{Asker}
use Rattle.live_lab.specs.declared.settle.Came.{Came}
use Rattle.live_lab.specs.Labs.{LabView}
use Rattle.live_lab.specs.Admitting.{IsLeftOutside, StandsOutside}

-- the job is thirsty, and a chain of jobs leads from it to one that holds, each of which keeps a bottle that the one before it lacks
abbrev pub HasAHolderAhead : WorldView → ℕ → Type 0
HasAHolderAhead w k = (drinking w.state k ≡ Thirsty) × (chain : List ℕ) × LeadsToHolder w.plan w.state k chain

-- The job waits, in the end for one that holds. It is in line, with such a chain. Or it is outside, and another job is in a session that needs one of its
-- instruments; that one holds, or is in line itself, with such a chain
abbrev pub WaitsForAHolder : LabView → ℕ → Type 0
WaitsForAHolder x j =
    HasAHolderAhead x.world j
    ⊎ ((a : Asker) × IsLeftOutside x j a × (outside : StandsOutside x.world x.line j a)
    × (IsDrinking (phase x.world.state outside.user) ⊎ HasAHolderAhead x.world outside.user))

-- Each job that was waited for is told that it holds, that its session was given up, or that it has none left; or it waits for a job that holds
abbrev pub EachIsTold : ℕ → Came → LabView → Type 0
EachIsTold waiting came x =
    (j : ℕ) → IsJob x.world.plan j → Has waiting j → Has came.holds j ⊎ Has came.given_up j ⊎ Has came.none_left j ⊎ WaitsForAHolder x j
