-- For readers: precedence among jobs, and its cycles.
use Rattle.std.specs.Prelude.{◌≡◌, ◌⊎◌, ℕ, ◌<◌, true, length}
use Rattle.lab_plan.specs.LabPlan.{LabPlan, edges}
pub use Rattle.cycles.specs.Cycles.{LeadsBackTo, IsCycleOf, HasNoCycle}
use Rattle.legal_steps.specs.declared.phase.Dining.TheVariants.{Eating}
use Rattle.legal_steps.specs.State.{State, fork, is_dirty, dining, opposite, job_at_end}

-- the job that has the fork of an edge, and the job at the other end
abbrev pub fork_holder : LabPlan → State → ℕ → ℕ
fork_holder plan s e = job_at_end plan e (fork s e)

abbrev pub fork_waiter : LabPlan → State → ℕ → ℕ
fork_waiter plan s e = job_at_end plan e (opposite (fork s e))

-- the fork counts as dirty: it is, or its holder eats
abbrev pub IsUsed : LabPlan → State → ℕ → Type 0
IsUsed plan s e = (dining s (fork_holder plan s e) ≡ Eating) ⊎ (is_dirty s e ≡ true)

-- job a precedes job b on an edge: the holder of a clean fork precedes, and of a used fork the other
pub record PrecedesOn (plan : LabPlan) (s : State) (e a b : ℕ) : Type 0 where
  pub is_edge : e < length (edges plan)
  pub order : (IsUsed plan s e × (a ≡ fork_waiter plan s e) × (b ≡ fork_holder plan s e))
      ⊎ (¬ IsUsed plan s e × (a ≡ fork_holder plan s e) × (b ≡ fork_waiter plan s e))

abbrev pub Precedes : LabPlan → State → ℕ → ℕ → Type 0
Precedes plan s a b = (e : ℕ) × PrecedesOn plan s e a b

-- precedence has no cycle
abbrev pub IsAcyclic : LabPlan → State → Type 0
IsAcyclic plan s = HasNoCycle (Precedes plan s)
