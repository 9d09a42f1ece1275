-- Where an exchange may be made.
use Rattle.std.specs.Prelude.{◌≡◌, ℕ, true, false, not, ◌==◌}
use Rattle.lab_plan.specs.LabPlan.{LabPlan}
use Rattle.legal_steps.specs.declared.end.End.{End}
use Rattle.legal_steps.specs.declared.phase.Dining.{Dining}
use Rattle.legal_steps.specs.declared.edge_state.EdgeState.{EdgeState}
use Rattle.legal_steps.specs.declared.event.Event.TheVariants.{AskFork, GiveFork, Soil, AskBottles, GiveBottles}
use Rattle.legal_steps.specs.State.{State, IsOwn}
use Rattle.legal_steps.specs.Guards.{WantsFork, GivesFork, Soils}
use Rattle.legal_steps.specs.Legal.{May, fork_given}
use Rattle.legal_steps.specs.Run.{IsLegalFrom}
use Rattle.edge_word.specs.declared.moves.EdgeMoves.{EdgeMoves}
use Rattle.edge_word.specs.Moves.{events_of, is_nothing, when}
use Rattle.edge_rule.specs.DeskView.{DeskView, known}
use Rattle.turns.specs.Due.{fork_gone, bottles_gone, fork_asked_for, all_asked_for}

-- the edge is an own one, there is at least one move, and each move is legal after the ones before it, by what the desk knows
pub record MayExchange (d : DeskView) (e : ℕ) (m : EdgeMoves) : Type 0 where
  pub own : IsOwn d.plan d.job e
  pub some : is_nothing m ≡ false
  pub legal : IsLegalFrom d.plan (known d) (events_of m d.job e)

-- ---- the moves of the fork and those of the bottles apart: each that there is, is legal after the moves before it

abbrev pub MayMoveFork : LabPlan → State → ℕ → ℕ → EdgeMoves → Type 0
MayMoveFork plan s j e m = (m.give_fork ≡ true → May plan s (GiveFork j e))
    × (m.ask_fork ≡ true → May plan (bottles_gone plan s j e m) (AskFork j e))
    × (m.soil ≡ true → May plan (all_asked_for plan s j e m) (Soil j e))

abbrev pub MayMoveBottles : LabPlan → State → ℕ → ℕ → EdgeMoves → Type 0
MayMoveBottles plan s j e m = (not (m.give_bottles == 0) ≡ true → May plan (fork_gone plan s j e m) (GiveBottles j e m.give_bottles))
    × (not (m.ask_bottles == 0) ≡ true → May plan (fork_asked_for plan s j e m) (AskBottles j e m.ask_bottles))

-- the moves of the fork by the edge alone, for a job that dines so and whose end is here
abbrev pub AreForkMovesLegal : Dining → End → EdgeState → EdgeMoves → Type 0
AreForkMovesLegal dining here x m = (m.give_fork ≡ true → GivesFork dining here x)
    × (m.ask_fork ≡ true → WantsFork dining here (when m.give_fork fork_given x)) × (m.soil ≡ true → Soils dining here (when m.give_fork fork_given x))
