-- Which fork moves are due, by the edge as it was seen and the job's phase.
use Rattle.std.specs.Prelude.{◌≡◌, ◌↔◌, true}
use Rattle.legal_steps.specs.declared.end.End.{End}
use Rattle.legal_steps.specs.declared.phase.Dining.{Dining}
use Rattle.legal_steps.specs.declared.edge_state.EdgeState.{EdgeState}
use Rattle.legal_steps.specs.Legal.{fork_given}
use Rattle.legal_steps.specs.Guards.{WantsFork, GivesFork, Soils}
use Rattle.edge_word.specs.declared.moves.EdgeMoves.{EdgeMoves}
use Rattle.edge_word.specs.Moves.{when}
use Rattle.turns.specs.Due.{forks_alone}

-- the fork of edge x is given, asked for and soiled exactly if a job that dines so, and whose end is here, may do that after the move before; no bottle moves
pub record AreForksDue (dining : Dining) (here : End) (x : EdgeState) (m : EdgeMoves) : Type 0 where
  pub give_fork : (m.give_fork ≡ true) ↔ GivesFork dining here x
  pub ask_fork : (m.ask_fork ≡ true) ↔ WantsFork dining here (when m.give_fork fork_given x)
  pub soil : (m.soil ≡ true) ↔ Soils dining here (when m.give_fork fork_given x)
  pub alone : m ≡ forks_alone m
