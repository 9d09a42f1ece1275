-- Right after a look at an edge, its marks are those that the word seen sets.
use Rattle.std.proofs.Common.{◌≡◌, ℕ, ◌<◌, false, List, [], ◌∷◌, ◌++◌, length, get_or, sym, ap, ◌∙◌, subst, arith, length-set, get_or-set_same}
use Rattle.lab_plan.specs.LabPlan.{edges}
use Rattle.legal_steps.specs.declared.event.Event.{Event}
use Rattle.legal_steps.specs.declared.event.Event.TheVariants.{Look}
use Rattle.legal_steps.specs.State.{Seat, State, IsOwn, seat, edge, no_edge, end_of, bottles_at}
use Rattle.legal_steps.specs.Legal.{fork_mark_seen}
use Rattle.legal_steps.specs.Opening.{the_opening}
use Rattle.turns.specs.Changes.{seat_after}
use Rattle.turns.specs.History.{IsHistory, learned, learned_all, known_by}
use Rattle.turns.proofs.Frame.{learned_seat}
use Rattle.turns.proofs.Runs.{legal-goes_on, learned_all-append, learned_all_seats, learned_all_edges, opening_seats, opening_edges}
use Rattle.turns.specs.Due.{IsCalm}
use Rattle.edge_rule.specs.DeskView.{DeskView, known}
use Rattle.edge_rule.specs.Knowing.{IsKnown}
use Rattle.edge_rule.specs.CalmEdges.{IsStill, HasJustLooked}

-- only own edges are looked at
pub looked_own : (y : DeskView) (e : ℕ) → HasJustLooked y e → IsOwn y.plan y.job e
looked_own y e looked =
    let since : List Event = looked.before.front ++ looked.look.between in
    let may = legal-goes_on y.plan (the_opening y.plan) since (Look looked.before.job e looked.seen ∷ [])
    (subst (IsHistory y.plan) looked.look.front looked.look.legal) in
    subst (λ j. IsOwn y.plan j e) (sym looked.look.job) may.0.0

module _ (y : DeskView) (e : ℕ) (fits : IsKnown y.plan (known y) y.job) (inside : e < length (edges y.plan))
    (calm : IsCalm y.plan (known y) y.job e) (looked : HasJustLooked y e) where
  abbrev was : State
  was = known_by y.plan looked.before.deeds

  abbrev x : Seat
  x = seat was y.job

  abbrev last : Event
  last = Look y.job e looked.seen

  after_look : known y ≡ learned y.plan was last
  after_look = ap (learned_all y.plan (the_opening y.plan)) (looked.look.deeds ∙ (λ i. looked.before.deeds ++ Look (sym looked.look.job i) e looked.seen ∷ []))
      ∙ learned_all-append y.plan (the_opening y.plan) looked.before.deeds (last ∷ [])

  seat_now : seat (known y) y.job ≡ seat_after y.plan x last
  seat_now = ap (λ (z : State). seat z y.job) after_look ∙ learned_seat y.plan was last
      (let n = learned_all_seats y.plan (the_opening y.plan) looked.before.deeds ∙ opening_seats y.plan in let l = fits.is_job in omega arith)

  edge_now : edge (known y) e ≡ looked.seen
  edge_now = ap (λ (z : State). edge z e) after_look ∙ get_or-set_same was.edges e looked.seen no_edge
      (let n = learned_all_edges y.plan (the_opening y.plan) looked.before.deeds ∙ opening_edges y.plan in omega arith)

  forks_there : e < length x.fork_marks
  forks_there =
      let n : length (seat (known y) y.job).fork_marks ≡ length x.fork_marks = ap (λ (z : Seat). length z.fork_marks) seat_now ∙ length-set x.fork_marks e _ in
      let m = fits.seat_fits.fork_marks_there in
      omega arith

  bottles_there : e < length x.bottle_marks
  bottles_there =
      let n : length (seat (known y) y.job).bottle_marks ≡ length x.bottle_marks =
      ap (λ (z : Seat). length z.bottle_marks) seat_now ∙ length-set x.bottle_marks e _ in
      let m = fits.seat_fits.bottle_marks_there in
      omega arith

  -- an edge that is calm then is still
  pub looked_still : IsStill y.plan (known y) y.job e
  looked_still = record {
    calm = calm;
    fork = ap (λ (z : Seat). get_or z.fork_marks e false) seat_now ∙ (get_or-set_same x.fork_marks e _ false forks_there
        ∙ (λ i. fork_mark_seen (sym seat_now i).phase.dining (end_of y.plan y.job e) (sym edge_now i)));
    bottles = ap (λ (z : Seat). get_or z.bottle_marks e 0) seat_now
        ∙ (get_or-set_same x.bottle_marks e _ 0 bottles_there ∙ (λ i. bottles_at y.plan e (end_of y.plan y.job e) (sym edge_now i)));
  }
