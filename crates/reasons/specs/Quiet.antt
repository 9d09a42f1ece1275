-- For readers: states in which nothing moves, and nobody whose owner waits can drink.
use Rattle.std.specs.Prelude.{◌≡◌, ℕ, Bool, true, map}
use Rattle.lab_plan.specs.LabPlan.{LabPlan, edges_of}
use Rattle.legal_steps.specs.declared.event.Event.{Event}
use Rattle.legal_steps.specs.declared.event.Event.TheVariants.{Look, AskFork, GiveFork, AskBottles, GiveBottles, Drink}
use Rattle.legal_steps.specs.State.{State, edge}
use Rattle.legal_steps.specs.Legal.{May}
use Rattle.legal_steps.specs.Run.{after_all}

-- whether the owner of a job waits for its session, by the job's number
abbrev pub Waited : Type 0
Waited = ℕ → Bool

-- a job asks for a fork or for bottles, or gives them
abbrev pub MovesThings : Event → Type 0
MovesThings (AskFork j e) = Unit {0}
MovesThings (GiveFork j e) = Unit {0}
MovesThings (AskBottles j e set) = Unit {0}
MovesThings (GiveBottles j e set) = Unit {0}
MovesThings _ = ⊥

-- the state after a job has looked at each of its edges
abbrev pub looked : LabPlan → State → ℕ → State
looked plan s j = after_all plan s (map (λ e. Look j e (edge s e)) (edges_of plan j))

-- quiet: no job can ask for anything or give anything, and no job whose owner waits can drink, also after it has looked at each of its edges
pub record IsQuietFor (plan : LabPlan) (s : State) (waited : Waited) : Type 0 where
  pub nothing_moves : (event : Event) → MovesThings event → ¬ May plan s event
  pub nobody_drinks : (j : ℕ) → waited j ≡ true → ¬ May plan (looked plan s j) (Drink j)
