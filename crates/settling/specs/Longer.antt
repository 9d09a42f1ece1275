-- For readers: what is noted of a plan's jobs stays true of them if the plan gets longer.
use Rattle.std.specs.Prelude.{ℕ}
use Rattle.legal_steps.specs.State.{State}
use Rattle.legal_steps.specs.Fitting.{Fits}
use Rattle.longer_plans.specs.Longer.{ForLonger}
use Rattle.settling.specs.Left.{DueView, AreMarked, HasNothingToDo}

-- who has nothing to do of itself has nothing to do by the longer plan: to begin a session or to retire is an owner's word
abbrev pub HasStillNothingToDo : Type 0
HasStillNothingToDo = ForLonger (λ plan plan' j. (s : State) (k : ℕ) → Fits plan s → HasNothingToDo plan s k → HasNothingToDo plan' s k)

-- so all is marked as it has to be
abbrev pub StaysMarked : Type 0
StaysMarked = ForLonger (λ plan plan' j. (s : State) (due : DueView) → Fits plan s → AreMarked plan s due → AreMarked plan' s due)
