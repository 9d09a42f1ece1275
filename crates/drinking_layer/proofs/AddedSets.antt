-- Moves with the bottles that are given and asked for.
use Rattle.std.proofs.Common.{◌≡◌, ◌<◌, ℕ, length, refl, sym, subst, arith}
use Rattle.legal_steps.specs.State.{IsOwn, phase, edge, end_of}
use Rattle.edge_word.specs.declared.moves.EdgeMoves.{EdgeMoves}
use Rattle.edge_rule.specs.DeskView.{DeskView, known}
use Rattle.edge_rule.specs.Knowing.{IsKnown}
use Rattle.turns.specs.Due.{WithBottles}
use Rattle.dining_layer.specs.Turned.{turned}
use Rattle.drinking_layer.specs.Local.{with_sets}
use Rattle.edge_rule.specs.NeededBottles.{AreNeededNow}
use Rattle.drinking_layer.proofs.BottleMoves.{gifts_greatest, wishes_greatest}

module _ (d : DeskView) (e : ℕ) (k : IsKnown d.plan (known d) d.job) (own : IsOwn d.plan d.job e) where
  pub edge_there : e < length (known d).edges
  edge_there = let h = own.is_edge in let z = k.edges_there in omega arith

  pub seat_there : d.job < length (known d).seats
  seat_there = let h = k.is_job in let z = k.seats_there in omega arith

  -- with the bottles that the job needs now they are the greatest sets
  pub sets_with : (n : ℕ) (m r : EdgeMoves) → AreNeededNow d e n
      → r ≡ with_sets (phase (known d) d.job) n (turned d.plan e (end_of d.plan d.job e) (edge (known d) e)) m → WithBottles d.plan (known d) d.job e m r
  sets_with n m r needed is =
      let f = k.edges_fit e own.is_edge in
      let made : EdgeMoves = with_sets (phase (known d) d.job) n (turned d.plan e (end_of d.plan d.job e) (edge (known d) e)) m in
      subst (WithBottles d.plan (known d) d.job e m) (sym is) (record {
        give_fork = refl;
        ask_fork = refl;
        soil = refl;
        bottles = record {
          give_bottles = gifts_greatest d.plan (known d) d.job e edge_there seat_there n needed.of_edge f.bottles_fit f.tokens_fit needed.just made refl;
          ask_bottles = wishes_greatest d.plan (known d) d.job e edge_there seat_there n needed.of_edge f.bottles_fit f.tokens_fit needed.just made refl;
        };
      })
