-- The guards of the fork moves ask the same of an edge and of the edge turned round.
use Rattle.std.proofs.Common.{◌≡◌, ◌↔◌, ℕ, Bool, true, false, refl, sym, ◌∙◌}
use Rattle.lab_plan.specs.LabPlan.{LabPlan}
use Rattle.legal_steps.specs.declared.end.End.{End}
use Rattle.legal_steps.specs.declared.end.End.TheVariants.{Lower, Higher}
use Rattle.legal_steps.specs.declared.phase.Dining.{Dining}
use Rattle.legal_steps.specs.declared.edge_state.EdgeState.{EdgeState}
use Rattle.legal_steps.specs.State.{opposite}
use Rattle.legal_steps.specs.Legal.{fork_given}
use Rattle.edge_word.specs.declared.moves.EdgeMoves.{EdgeMoves}
use Rattle.edge_word.specs.Moves.{when}
use Rattle.dining_layer.specs.Forks.{AreForksDue}
use Rattle.dining_layer.specs.Turned.{end_from, turned}

-- a thing is seen at the higher end just where it is here
pub is_here : (here thing : End) → (end_from here thing ≡ Higher) ↔ (thing ≡ here)
is_here Higher thing = (λ h. h, λ h. h)
is_here Lower Lower = (λ h. refl, λ h. refl)
is_here Lower Higher = (λ h. absurd (cc), λ h. absurd (cc))

opposite_from : (here thing : End) → opposite (end_from here thing) ≡ end_from here (opposite thing)
opposite_from Higher thing = refl
opposite_from Lower thing = refl

module _ (plan : LabPlan) (e : ℕ) (here : End) (x : EdgeState) where
  abbrev mine : EdgeState
  mine = turned plan e here x

  -- the same after the fork was given, or without it
  pub fork_is_here : (b : Bool) → ((when b fork_given mine).fork ≡ Higher) ↔ ((when b fork_given x).fork ≡ here)
  fork_is_here false = is_here here x.fork
  fork_is_here true = let same = opposite_from here x.fork in let h = is_here here (opposite x.fork) in (λ q. h.0 (sym same ∙ q), λ q. same ∙ h.1 q)

  token_is_here : (b : Bool) → ((when b fork_given mine).token ≡ Higher) ↔ ((when b fork_given x).token ≡ here)
  token_is_here false = is_here here x.token
  token_is_here true = is_here here x.token

  same_dirt : (b : Bool) → (when b fork_given mine).dirty ≡ (when b fork_given x).dirty
  same_dirt false = refl
  same_dirt true = refl

  -- what is due on the edge turned round is due on the edge
  pub due_here : (dining : Dining) (m : EdgeMoves) → AreForksDue dining Higher mine m → AreForksDue dining here x m
  due_here dining m due =
      let fork = is_here here x.fork in
      let token = is_here here x.token in
      let fork_left = fork_is_here m.give_fork in
      let token_left = token_is_here m.give_fork in
      let dirt_left = same_dirt m.give_fork in
      record {
        give_fork = (
          λ h. let g = due.give_fork.0 h in (g.0, fork.0 g.1, g.2, token.0 g.3),
          λ g. due.give_fork.1 (g.0, fork.1 g.1, g.2, token.1 g.3),
        );
        ask_fork = (
          λ h. let w = due.ask_fork.0 h in (w.0, (λ at. w.1 (fork_left.1 at)), token_left.0 w.2),
          λ w. due.ask_fork.1 (w.0, (λ at. w.1 (fork_left.0 at)), token_left.1 w.2),
        );
        soil = (
          λ h. let q = due.soil.0 h in (q.0, fork_left.0 q.1, sym dirt_left ∙ q.2),
          λ q. due.soil.1 (q.0, fork_left.1 q.1, dirt_left ∙ q.2),
        );
        alone = due.alone;
      }
