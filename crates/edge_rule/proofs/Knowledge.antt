-- A desk's fields are what its job knows.
use Rattle.std.proofs.Common.{◌≡◌, ◌≢◌, ℕ, List, length, get_or, false, sym, ap, ◌∙◌, subst}
use Rattle.lab_plan.specs.LabPlan.{bottles}
use Rattle.legal_steps.specs.declared.edge_state.EdgeState.{EdgeState}
use Rattle.legal_steps.specs.declared.phase.Drinking.TheVariants.{Reaching}
use Rattle.legal_steps.specs.State.{Seat, edge, fork_mark, bottle_marks, no_edge}
use Rattle.edge_word.specs.Words.{IsOfBottles}
use Rattle.edge_rule.specs.declared.desk.Desk.TheInside.{Inside}
use Rattle.one_history.specs.Grow.{hand_in}
use Rattle.edge_rule.specs.DeskView.{DeskView, known, IsAtRest}
use Rattle.edge_rule.specs.DeskInside.{view_of, IsDesk}
use Rattle.legal_steps.specs.Counting.{counts_of}
use Rattle.edge_rule.specs.Knowing.{IsKnown}
use Rattle.edge_rule.proofs.DeskSteps.{mine_seats, mine_edges, mine_fits}

module _ {A : Type 0} (d : Inside A) (y : DeskView) (is : view_of d ≡ y) (ok : IsDesk d) where
  pub known_fits : IsKnown y.plan (known y) y.job
  known_fits = subst (λ (z : DeskView). IsKnown z.plan (known z) z.job) is (record {
    is_job = ok.at_rest.inside;
    seats_there = mine_seats d.seat.me.0;
    edges_there = mine_edges d.seat.me.0;
    seat_fits = mine_fits d.seat.me.0 ok.at_rest;
    edges_fit =
        λ e l. subst (λ (z : List EdgeState). IsOfBottles (length (bottles (hand_in d.seat.me.0).plan e)) (get_or z e no_edge)) (sym ok.seen) (ok.of_plan e l);
    rests = subst (λ (z : Seat). z.phase.drinking ≢ Reaching) (sym ok.own) ok.rests;
  })

  pub known_rest : IsAtRest y
  known_rest = subst IsAtRest is (record { inside = ok.at_rest.inside; legal = ok.at_rest.legal; whole = ok.at_rest.whole })

  pub known_counts : d.counts ≡ counts_of y.job y.deeds
  known_counts = sym ok.counts ∙ ap (λ (z : DeskView). counts_of z.job z.deeds) is

  pub known_mark : (e n : ℕ) → n ≡ e → get_or d.fork_marks.items n false ≡ fork_mark (known y) y.job e
  known_mark e n at = ap (λ k. get_or d.fork_marks.items k false) at
      ∙ (ap (λ (x : Seat). get_or x.fork_marks e false) (sym ok.own) ∙ ap (λ (z : DeskView). fork_mark (known z) z.job e) is)

  pub known_bottles : (e n : ℕ) → n ≡ e → get_or d.bottle_marks.items n 0 ≡ bottle_marks (known y) y.job e
  known_bottles e n at = ap (λ k. get_or d.bottle_marks.items k 0) at
      ∙ (ap (λ (x : Seat). get_or x.bottle_marks e 0) (sym ok.own) ∙ ap (λ (z : DeskView). bottle_marks (known z) z.job e) is)

  pub known_edge : (e n : ℕ) → n ≡ e → get_or d.seen.items n no_edge ≡ edge (known y) e
  known_edge e n at = ap (λ k. get_or d.seen.items k no_edge) at
      ∙ (ap (λ (x : List EdgeState). get_or x e no_edge) (sym ok.seen) ∙ ap (λ (z : DeskView). edge (known z) e) is)
