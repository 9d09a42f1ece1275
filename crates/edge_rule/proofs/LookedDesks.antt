-- A desk that looks at one of its edges, by the values that contracts see.
use Rattle.std.proofs.Common.{◌≡◌, ℕ, ◌<◌, Bool, false, [], ◌∷◌, length, get_or, set, vec_len, sym, ap, ◌∙◌, subst, arith}
use Rattle.atomic_table.specs.declared.shared.Seat.{Seat as TableSeat}
use Rattle.lab_plan.specs.LabPlan.{LabPlan, bottles}
use Rattle.instrument_log.specs.InstrumentLog.{LogView}
use Rattle.legal_steps.specs.declared.edge_state.EdgeState.{EdgeState}
use Rattle.legal_steps.specs.declared.event.Event.TheVariants.{Look}
use Rattle.legal_steps.specs.State.{IsOwn, edge, end_of, bottles_at}
use Rattle.legal_steps.specs.Legal.{fork_mark_seen}
use Rattle.edge_word.specs.Words.{word_of, IsOfBottles}
use Rattle.turns.specs.Due.{IsCalm}
use Rattle.one_history.specs.declared.board.Hand.{Hand}
use Rattle.one_history.specs.declared.board.View.{View}
use Rattle.one_history.specs.Grow.{hand_in, mine, Does}
use Rattle.edge_rule.specs.DeskView.{BenchView, DeskView, Owns, Adds, known}
use Rattle.edge_rule.specs.DeskInside.{seat_view, view_of, kept, fixed, IsDesk}
use Rattle.edge_rule.specs.BenchInside.{bench_of, IsBench}
use Rattle.edge_rule.specs.CalmEdges.{no_word, IsStill}
use Rattle.edge_rule.specs.declared.desk.Desk.TheInside.{Inside}
use Rattle.edge_rule.specs.declared.bench.Bench.TheInside as bench_fields
use Rattle.edge_rule.proofs.DeskSteps.{owned, of_seat, inside_forks, inside_bottles, inside_seen, inside_calm, plan_known, hand_grown, noted_again, seat_adds, look_kept, look_still, look_calm, look_shows}

module _ {A : Type 0} (b : bench_fields.Inside A) (x : BenchView) (bench : bench_of b ≡ x) (is_bench : IsBench b)
    (d : Inside A) (y : DeskView) (view : view_of d ≡ y) (ok : IsDesk d) (owns : Owns x y) (e : ℕ) (own : IsOwn y.plan y.job e) where
  abbrev p : LabPlan
  p = (hand_in d.seat.me.0).plan

  abbrev j : ℕ
  j = (hand_in d.seat.me.0).job

  here : Owns (bench_of b) (view_of d)
  here = owned b d x y bench view owns

  own_here : IsOwn p j e
  own_here = of_seat (λ (z : DeskView). IsOwn z.plan z.job e) d y view own

  -- ---- what the calls ask for

  pub seat_table : d.seat.table_id ≡ x.table
  seat_table = ap (λ (z : DeskView). z.table) view ∙ owns.0

  pub seat_plan : p ≡ x.plan
  seat_plan = ap (λ (z : DeskView). z.plan) view ∙ owns.1

  pub seat_own : IsOwn x.plan j e
  seat_own = subst (λ (z : LabPlan). IsOwn z j e) seat_plan own_here

  plan_is : b.plan.now ≡ p
  plan_is = plan_known b d is_bench ok here

  pub field_own : IsOwn b.plan.now d.job e
  field_own = subst (λ (z : LabPlan × ℕ). IsOwn z.0 z.1 e) (λ i. (sym plan_is i, ok.job i)) own_here

  pub in_forks : (n : ℕ) → n ≡ e → n < vec_len d.fork_marks
  in_forks n at = let m = d.fork_marks.ok.0 in let h = inside_forks d ok e n at own_here.is_edge in omega arith

  pub in_bottles : (n : ℕ) → n ≡ e → n < vec_len d.bottle_marks
  in_bottles n at = let m = d.bottle_marks.ok.0 in let h = inside_bottles d ok e n at own_here.is_edge in omega arith

  pub in_seen : (n : ℕ) → n ≡ e → n < vec_len d.seen
  in_seen n at = let m = d.seen.ok.0 in let h = inside_seen d ok e n at own_here.is_edge in omega arith

  pub in_calm : (n : ℕ) → n ≡ e → n < vec_len d.calm
  in_calm n at = let m = d.calm.ok.0 in let h = inside_calm d ok e n at own_here.is_edge in omega arith

  -- ---- what a load of the edge's word leaves

  module _ (s' : TableSeat LogView View) (z : EdgeState) (told : Does d.seat.me.0 (Look j e z) s'.me.0)
      (fits : IsOfBottles (length (bottles x.plan e)) z) where
    pub look_adds : s'.table_id ≡ d.seat.table_id → Adds y (Look y.job e z ∷ []) (seat_view d.clock s')
    look_adds table = seat_adds d.seat s' y (λ (v : DeskView). Look v.job e z ∷ []) view told table

    pub shows : z ≡ edge (known (seat_view d.clock s')) e
    shows = look_shows d s' e z own_here.is_edge told

    pub still_fits : IsOfBottles (length (bottles (seat_view d.clock s').plan e)) z
    still_fits = subst (λ (q : LabPlan). IsOfBottles (length (bottles q e)) z)
        (sym seat_plan ∙ ap (λ (h : Hand). h.plan) (sym (hand_grown d.seat.me.0 s'.me.0 (Look j e z ∷ []) told.hands))) fits

    fits_field : IsOfBottles (length (bottles b.plan.now e)) z
    fits_field = subst (λ (q : LabPlan). IsOfBottles (length (bottles q e)) z) (sym seat_plan ∙ sym plan_is) fits

    -- where the word is the one that was noted
    module _ (n noted w : ℕ) (at : n ≡ e) (read : noted ≡ get_or d.calm.items n noted) (word : word_of z ≡ w) (is : noted ≡ w) where
      again : (z ≡ edge (mine d.seat.me.0) e) × IsStill p (mine d.seat.me.0) j e
      again = noted_again b d is_bench ok here e n noted w z at own_here.is_edge read word fits_field is

      pub still_calm : IsCalm (seat_view d.clock s').plan (known (seat_view d.clock s')) (seat_view d.clock s').job e
      still_calm = look_calm d s' ok e z own_here.is_edge again.1 again.0 told

      pub still_desk : (d' : Inside A) → Does d.seat.me.0 (Look j e z) d'.seat.me.0 → d'.seat.me.1 ≡ d.seat.me.1 → fixed d' ≡ fixed d → kept d' ≡ kept d → d'.seen.items ≡ d.seen.items
          → d'.calm.items ≡ d.calm.items → d'.settled ≡ d.settled → IsDesk d'
      still_desk d' now empty same marks seen calm settled =
          look_still d d' ok e z own_here.is_edge again.1 again.0 now empty same marks seen calm settled

  -- ---- the desk with the marks that the word sets

  pub looked_desk : (d' : Inside A) (z : EdgeState) (n : ℕ) (fork : Bool) (marks : ℕ) → n ≡ e → Does d.seat.me.0 (Look j e z) d'.seat.me.0
      → d'.seat.me.1 ≡ d.seat.me.1 → IsOfBottles (length (bottles x.plan e)) z
      → fork ≡ fork_mark_seen d.phase.dining (end_of b.plan.now d.job e) z → marks ≡ bottles_at b.plan.now e (end_of b.plan.now d.job e) z
      → fixed d' ≡ fixed d → d'.phase ≡ d.phase → d'.fork_marks.items ≡ set d.fork_marks.items n fork → d'.bottle_marks.items ≡ set d.bottle_marks.items n marks
      → d'.seen.items ≡ set d.seen.items n z → d'.calm.items ≡ set d.calm.items n no_word → d'.settled ≡ false → IsDesk d'
  looked_desk d' z n fork marks at told empty fits is_fork is_marks same phase forks bottle_marks seen calm settled =
      look_kept d d' ok e z fork marks b.plan.now own_here plan_is
      (subst (λ (q : LabPlan). IsOfBottles (length (bottles q e)) z) (sym seat_plan ∙ sym plan_is) fits) told empty same phase is_fork is_marks
      (forks ∙ (λ i. set d.fork_marks.items (at i) fork)) (bottle_marks ∙ (λ i. set d.bottle_marks.items (at i) marks))
      (seen ∙ (λ i. set d.seen.items (at i) z)) (calm ∙ (λ i. set d.calm.items (at i) no_word)) settled
