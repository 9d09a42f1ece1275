-- Where the fork moves are legal, by the edge and the job's phase.
use Rattle.std.proofs.Common.{ℕ, ◌<◌, length}
use Rattle.lab_plan.specs.LabPlan.{LabPlan}
use Rattle.legal_steps.specs.declared.end.End.TheVariants.{Higher}
use Rattle.legal_steps.specs.State.{State, IsOwn, edge, dining, end_of}
use Rattle.edge_word.specs.declared.moves.EdgeMoves.{EdgeMoves}
use Rattle.turns.specs.Due.{AreForkMoves}
use Rattle.dining_layer.specs.Forks.{AreForksDue}
use Rattle.dining_layer.specs.Turned.{turned}
use Rattle.dining_layer.proofs.Turning.{due_here}
use Rattle.turns.proofs.ForkGuards.{ask_at, soil_at}

-- what is due by the edge, as it is seen from the job's own end, and the job's phase is each legal after the moves before it
pub moves_due : (plan : LabPlan) (s : State) (j e : ℕ) (m : EdgeMoves) → e < length s.edges → j < length s.seats → IsOwn plan j e
    → AreForksDue (dining s j) Higher (turned plan e (end_of plan j e) (edge s e)) m → AreForkMoves plan s j e m
moves_due plan s j e m he hj own turned_due =
    let due = due_here plan e (end_of plan j e) (edge s e) (dining s j) m turned_due in
    let ask = ask_at plan j e s m he hj in
    let soil = soil_at plan j e s m he hj in
    record {
      give_fork = (λ h. let g = due.give_fork.0 h in (own, g.0, g.1, g.2, g.3), λ may. due.give_fork.1 (may.1, may.2, may.3, may.4));
      ask_fork = (
        λ h. let w = due.ask_fork.0 h in ask.1 (own, w.0, w.1, w.2),
        λ may. let w = ask.0 may in due.ask_fork.1 (w.1, w.2, w.3),
      );
      soil = (
        λ h. let w = due.soil.0 h in soil.1 (own, w.0, w.1, w.2),
        λ may. let w = soil.0 may in due.soil.1 (w.1, w.2, w.3),
      );
    }
