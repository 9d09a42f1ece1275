-- The moves that are due at an edge by what is there.
use Rattle.std.proofs.Common.{◌≡◌, ◌<◌, ℕ, length, refl, sym, subst, arith}
use Rattle.lab_plan.specs.LabPlan.{LabPlan}
use Rattle.legal_steps.specs.declared.end.End.TheVariants.{Higher}
use Rattle.legal_steps.specs.State.{State, IsOwn, phase, dining, edge, end_of}
use Rattle.legal_steps.specs.Run.{IsLegalFrom}
use Rattle.legal_steps.specs.Fitting.{Fits}
use Rattle.legal_steps.proofs.FitsLaw.{own_is_job}
use Rattle.edge_word.specs.declared.moves.EdgeMoves.{EdgeMoves}
use Rattle.edge_word.specs.Moves.{events_of}
use Rattle.edge_rule.specs.NeededBottles.{AreNeededIn}
use Rattle.turns.specs.Due.{WithBottles, AreDue}
use Rattle.turns.proofs.DueMoves.{due_all, due_legal}
use Rattle.dining_layer.specs.Forks.{AreForksDue}
use Rattle.dining_layer.specs.Turned.{turned}
use Rattle.dining_layer.proofs.ForkMoves.{moves_due}
use Rattle.drinking_layer.specs.Local.{with_sets}
use Rattle.drinking_layer.proofs.BottleMoves.{gifts_greatest, wishes_greatest}

module _ (plan : LabPlan) (s : State) (j e : ℕ) (fit : Fits plan s) (own : IsOwn plan j e) where
  pub edge_there : e < length s.edges
  edge_there = let h = own.is_edge in let z = fit.edges_there in omega (arith, h, z)

  pub seat_there : j < length s.seats
  seat_there = let h = own_is_job plan j e own in let z = fit.seats_there in omega (arith, h, z)

  with_bottles : (n : ℕ) (forks m : EdgeMoves) → AreNeededIn plan j (phase s j) e n →
      m ≡ with_sets (phase s j) n (turned plan e (end_of plan j e) (edge s e)) forks → WithBottles plan s j e forks m
  with_bottles n forks m needed is =
      let made : EdgeMoves = with_sets (phase s j) n (turned plan e (end_of plan j e) (edge s e)) forks in
      let bottles = fit.bottles_fit e own.is_edge in let tokens = fit.tokens_fit e own.is_edge in
      subst (WithBottles plan s j e forks) (sym is) (record {
        give_fork = refl;
        ask_fork = refl;
        soil = refl;
        bottles = record {
          give_bottles = gifts_greatest plan s j e edge_there seat_there n needed.of_edge bottles tokens needed.just made refl;
          ask_bottles = wishes_greatest plan s j e edge_there seat_there n needed.of_edge bottles tokens needed.just made refl;
        };
      })

  pub due_there : (n : ℕ) (forks m : EdgeMoves) → AreNeededIn plan j (phase s j) e n →
      AreForksDue (dining s j) Higher (turned plan e (end_of plan j e) (edge s e)) forks →
      m ≡ with_sets (phase s j) n (turned plan e (end_of plan j e) (edge s e)) forks → AreDue plan s j e m
  due_there n forks m needed due is =
      due_all plan s j e edge_there seat_there forks m (moves_due plan s j e forks edge_there seat_there own due) (with_bottles n forks m needed is)

  pub legal_there : (m : EdgeMoves) → AreDue plan s j e m → IsLegalFrom plan s (events_of m j e)
  legal_there m due = due_legal plan s j e edge_there seat_there own m due
