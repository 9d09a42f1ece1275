-- The things of an edge, and where they stand.
use Rattle.std.specs.Prelude.{◌≡◌, ◌⊎◌, ℕ, ◌<◌, length}
use Rattle.lab_plan.specs.LabPlan.{LabPlan, edges, ends, bottles}
use Rattle.legal_steps.specs.declared.end.End.{End}
use Rattle.legal_steps.specs.State.{State, edge, bottle_end, job_at_end}

-- a fork, its request token, a bottle, or a bottle's request token
pub data Thing : Type 0 where
  Fork : Thing
  Token : Thing
  Bottle : (k : ℕ) → Thing
  BottleToken : (k : ℕ) → Thing

-- the end at which a thing of an edge is
abbrev pub thing_end : State → ℕ → Thing → End
thing_end s e Fork = (edge s e).fork
thing_end s e Token = (edge s e).token
thing_end s e (Bottle k) = bottle_end (edge s e).bottles k
thing_end s e (BottleToken k) = bottle_end (edge s e).bottle_tokens k

-- the thing stands at the job
abbrev pub StandsAt : LabPlan → State → ℕ → Thing → ℕ → Type 0
StandsAt plan s e thing j = j ≡ job_at_end plan e (thing_end s e thing)

-- the edge is one of the plan's, and has the thing
abbrev pub IsThingOf : LabPlan → ℕ → Thing → Type 0
IsThingOf plan e Fork = e < length (edges plan)
IsThingOf plan e Token = e < length (edges plan)
IsThingOf plan e (Bottle k) = (e < length (edges plan)) × (k < length (bottles plan e))
IsThingOf plan e (BottleToken k) = (e < length (edges plan)) × (k < length (bottles plan e))

-- the thing stands at one of the edge's two jobs, and not at the other
abbrev pub StandsAtOne : LabPlan → State → ℕ → Thing → Type 0
StandsAtOne plan s e thing =
    let lower = (ends plan e).0 in
    let higher = (ends plan e).1 in
    (StandsAt plan s e thing lower × ¬ StandsAt plan s e thing higher) ⊎ (¬ StandsAt plan s e thing lower × StandsAt plan s e thing higher)
