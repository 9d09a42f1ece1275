-- For readers: instruments that are held, and marks that are true.
use Rattle.std.specs.Prelude.{◌≡◌, ℕ, ◌<◌, true, length}
use Rattle.lab_plan.specs.LabPlan.{LabPlan, bottles, session_names}
use Rattle.legal_steps.specs.declared.phase.Dining.TheVariants.{Eating}
use Rattle.legal_steps.specs.State.{State, Has, IsOwn, IsDrinking, edge, fork, is_dirty, phase, dining, session, fork_mark, bottle_marks, bottle_end}
use Rattle.legal_steps.specs.Legal.{Here}

-- job j holds instrument i: it drinks or reaches, and its session names the instrument
pub record Holds (plan : LabPlan) (s : State) (j i : ℕ) : Type 0 where
  pub drinks : IsDrinking (phase s j)
  pub named : session_names plan j (session s j) i ≡ true

-- no two jobs hold one instrument
abbrev pub IsExclusive : LabPlan → State → Type 0
IsExclusive plan s = (a b i : ℕ) → Holds plan s a i → Holds plan s b i → a ≡ b

-- marks are truthful: a fork mark says that the fork is here, and of an eating job that it is here and dirty;
-- a bottle mark says that the bottle is here
pub record AreTruthful (plan : LabPlan) (s : State) : Type 0 where
  pub fork_here : (j e : ℕ) → IsOwn plan j e → fork_mark s j e ≡ true → Here plan j e (fork s e)
  pub dirty : (j e : ℕ) → IsOwn plan j e → fork_mark s j e ≡ true → dining s j ≡ Eating → is_dirty s e ≡ true
  pub bottle_here : (j e k : ℕ) → IsOwn plan j e → k < length (bottles plan e) → Has (bottle_marks s j e) k → Here plan j e (bottle_end (edge s e).bottles k)
