-- For readers: why a job waits: a chain of jobs, each of which keeps a bottle that the one before it lacks.
use Rattle.std.specs.Prelude.{◌≡◌, ◌⊎◌, ℕ, ◌<◌, false, List, [], ◌∷◌, length}
use Rattle.lab_plan.specs.LabPlan.{LabPlan, bottles}
use Rattle.legal_steps.specs.declared.phase.Drinking.TheVariants.{Thirsty}
use Rattle.legal_steps.specs.State.{State, IsOwn, IsDrinking, edge, fork, phase, drinking, bottle_end}
use Rattle.legal_steps.specs.Legal.{Here, There, Needs, instrument_of}
use Rattle.legal_steps.specs.Holding.{Holds}
use Rattle.reasons.specs.Quiet.{Waited}

-- job j lacks bottle b of its edge e: it needs it, and the bottle is there
pub record Lacks (plan : LabPlan) (s : State) (j e b : ℕ) : Type 0 where
  pub own : IsOwn plan j e
  pub is_bottle : b < length (bottles plan e)
  pub needs : Needs plan s j (instrument_of plan e b)
  pub there : There plan j e (bottle_end (edge s e).bottles b)

-- job k keeps bottle b of its edge e: it has it and needs it, and drinks or has the fork
pub record Keeps (plan : LabPlan) (s : State) (k e b : ℕ) : Type 0 where
  pub own : IsOwn plan k e
  pub here : Here plan k e (bottle_end (edge s e).bottles b)
  pub needs : Needs plan s k (instrument_of plan e b)
  pub keeps : IsDrinking (phase s k) ⊎ Here plan k e (fork s e)

-- job j waits on job k: k keeps a bottle that j lacks
abbrev pub WaitsOn : LabPlan → State → ℕ → ℕ → Type 0
WaitsOn plan s j k = (e : ℕ) × (b : ℕ) × Lacks plan s j e b × Keeps plan s k e b

-- job k holds an instrument that job j needs
abbrev pub HoldsNeeded : LabPlan → State → ℕ → ℕ → Type 0
HoldsNeeded plan s k j = (i : ℕ) × Needs plan s j i × Holds plan s k i

-- job k could drink: it is thirsty and lacks nothing, but its owner doesn't wait
pub record CouldDrink (plan : LabPlan) (s : State) (waited : Waited) (k : ℕ) : Type 0 where
  pub thirsty : drinking s k ≡ Thirsty
  pub lacks_nothing : (e b : ℕ) → ¬ Lacks plan s k e b
  pub owner_is_away : waited k ≡ false

-- the chain from job j: each job but the last is thirsty and waits on the next, and the last drinks, reaches or could drink
abbrev pub IsReason : LabPlan → State → Waited → ℕ → List ℕ → Type 0
IsReason plan s waited j [] = IsDrinking (phase s j) ⊎ CouldDrink plan s waited j
IsReason plan s waited j (k ∷ later) = (drinking s j ≡ Thirsty) × WaitsOn plan s j k × IsReason plan s waited k later

-- a chain whose last job holds an instrument that the one before it needs
abbrev pub LeadsToHolder : LabPlan → State → ℕ → List ℕ → Type 0
LeadsToHolder plan s j [] = ⊥
LeadsToHolder plan s j (k ∷ []) = WaitsOn plan s j k × HoldsNeeded plan s k j
LeadsToHolder plan s j (k ∷ next ∷ later) = WaitsOn plan s j k × (drinking s k ≡ Thirsty) × LeadsToHolder plan s k (next ∷ later)
