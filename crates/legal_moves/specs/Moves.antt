-- For readers: the moves of jobs, and which of them are legal.
use Rattle.std.specs.Prelude.{◌≡◌, ◌⊎◌, ℕ, ◌^◌, List, [], ◌∷◌, ◌++◌, length}
use Rattle.std.specs.List.{flat_map, range_with_len}
use Rattle.lab_plan.specs.LabPlan.{LabPlan, edges_of, bottles}
use Rattle.legal_steps.specs.declared.event.Step.{Step}
use Rattle.legal_steps.specs.declared.event.Step.TheVariants.{AskFork, GiveFork, Soil, AskBottles, GiveBottles, Thirst, Hunger}
use Rattle.legal_steps.specs.declared.event.Step.TheVariants.{Sit, Leave, Drink, Reach, Act, Quit, Retire, Withdraw}
use Rattle.legal_steps.specs.State.{State}
use Rattle.legal_steps.specs.Legal.{May}
use Rattle.legal_steps.specs.Steps.{event_of}

-- what a job does by itself
abbrev pub own_moves : ℕ → List Step
own_moves j = Thirst j ∷ Hunger j ∷ Sit j ∷ Leave j ∷ Drink j ∷ Reach j ∷ Act j ∷ Quit j ∷ Retire j ∷ Withdraw j ∷ []

-- with the fork of an edge
abbrev pub fork_moves : ℕ → ℕ → List Step
fork_moves j e = AskFork j e ∷ GiveFork j e ∷ Soil j e ∷ []

-- with one bottle of an edge
abbrev pub bottle_moves : ℕ → ℕ → ℕ → List Step
bottle_moves j e k = AskBottles j e (2 ^ k) ∷ GiveBottles j e (2 ^ k) ∷ []

-- at an edge: with its fork, and with each of its bottles
abbrev pub edge_moves : LabPlan → ℕ → ℕ → List Step
edge_moves plan j e = fork_moves j e ++ flat_map (bottle_moves j e) (range_with_len 0 (length (bottles plan e)))

-- the moves of a job: its own, and those at each of its edges
abbrev pub moves_of : LabPlan → ℕ → List Step
moves_of plan j = own_moves j ++ flat_map (edge_moves plan j) (edges_of plan j)

-- the moves of all jobs
abbrev pub all_moves : LabPlan → List Step
all_moves plan = flat_map (moves_of plan) (range_with_len 0 (length plan.jobs))

-- the second list has exactly those of the first that P holds for, in their order
abbrev pub Keeps : {A : Type 0} → (A → Type 0) → List A → List A → Type 0
Keeps P [] kept = kept ≡ []
Keeps P (x ∷ all) kept = (P x × ((rest : List _) × (kept ≡ x ∷ rest) × Keeps P all rest)) ⊎ ((¬ P x) × Keeps P all kept)

-- the step is legal in the state
abbrev pub IsLegalNow : LabPlan → State → Step → Type 0
IsLegalNow plan s step = May plan s (event_of s step)

-- exactly the moves that are legal in the state
abbrev pub AreLegalMoves : LabPlan → State → List Step → Type 0
AreLegalMoves plan s moves = Keeps (IsLegalNow plan s) (all_moves plan) moves
