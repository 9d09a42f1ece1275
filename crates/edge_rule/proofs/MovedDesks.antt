-- A desk that tries moves on one of its edges, by the values that contracts see.
use Rattle.std.proofs.Common.{◌≡◌, ◌≢◌, ℕ, ◌/◌, Bool, false, [], length, get_or, set, sym, ap, ◌∙◌, subst, arith}
use mathlib.Core.Option.{none}
use Rattle.atomic_table.specs.Table.{step}
use Rattle.atomic_table.specs.declared.shared.Seat.{Seat as TableSeat}
use Rattle.lab_plan.specs.LabPlan.{LabPlan, bottles}
use Rattle.instrument_log.specs.InstrumentLog.{LogView}
use Rattle.legal_steps.specs.declared.edge_state.EdgeState.{EdgeState}
use Rattle.legal_steps.specs.State.{IsOwn, edge}
use Rattle.edge_word.specs.declared.moves.EdgeMoves.{EdgeMoves}
use Rattle.edge_word.specs.Words.{word_of, IsOfBottles}
use Rattle.edge_word.specs.Moves.{events_of, after_moves, fork_mark_after, bottle_marks_after, AreOfBottles}
use Rattle.one_history.specs.declared.board.View.{View}
use Rattle.one_history.specs.Rule.{edge_place}
use Rattle.one_history.specs.Grow.{hand_in, seen_state, Grows, tried}
use Rattle.edge_rule.specs.DeskView.{BenchView, DeskView, Owns, Adds, known, shown}
use Rattle.edge_rule.specs.DeskInside.{seat_view, view_of, fixed, IsDesk}
use Rattle.edge_rule.specs.BenchInside.{bench_of, IsBench}
use Rattle.edge_rule.specs.CalmEdges.{no_word}
use Rattle.edge_rule.specs.declared.desk.Desk.TheInside.{Inside}
use Rattle.edge_rule.specs.declared.bench.Bench.TheInside as bench_fields
use Rattle.edge_rule.proofs.DeskSteps.{owned, of_seat, plan_known, seat_adds}
use Rattle.edge_rule.proofs.DeskMoves.{MayMove, move_sets, Expects, try_requires, missed, told_moves, moves_kept}

module _ {A : Type 0} (b : bench_fields.Inside A) (x : BenchView) (bench : bench_of b ≡ x) (is_bench : IsBench b)
    (d : Inside A) (y : DeskView) (view : view_of d ≡ y) (ok : IsDesk d) (owns : Owns x y) (e : ℕ) (own : IsOwn y.plan y.job e)
    (m : EdgeMoves) (may : MayMove m e y) where
  pub here : Owns (bench_of b) (view_of d)
  here = owned b d x y bench view owns

  pub own_here : IsOwn (hand_in d.seat.me.0).plan (hand_in d.seat.me.0).job e
  own_here = of_seat (λ (z : DeskView). IsOwn z.plan z.job e) d y view own

  pub may_here : MayMove m e (view_of d)
  may_here = of_seat (MayMove m e) d y view may

  pub sets_fit : AreOfBottles 28 m
  sets_fit = move_sets b d is_bench ok here e m own_here may_here

  -- the word last seen, and the one that is wanted
  module _ (n old new : ℕ) (z w : EdgeState) (at : n ≡ edge_place e) (is_z : z ≡ edge (known y) e) (is_w : w ≡ after_moves m z)
      (is_old : old ≡ word_of z) (is_new : new ≡ word_of w) where
    seen_here : z ≡ edge (known (view_of d)) e
    seen_here = of_seat (λ (v : DeskView). z ≡ edge (known v) e) d y view is_z

    pub may_try : Expects b d is_bench ok here e m own_here may_here n old new
    may_try = try_requires b d is_bench ok here e m own_here may_here n old new z w at seen_here is_w is_old is_new

    -- what the exchange told
    module _ (s' : TableSeat LogView View) (k : ℕ) (t : tried (step b.table.shared.table_id.slots n old new none) d.seat.me k s'.me)
        (table : s'.table_id ≡ d.seat.table_id) where
      pub spelled_found : k ≢ old → (f : EdgeState) × (k ≡ word_of f) × IsOfBottles (length (bottles b.plan.now e)) f
      spelled_found miss = let found = t.1 miss in let there : n / 16 ≡ e = omega arith in (
        edge (seen_state d.seat.me.0 s'.me.0) (n / 16),
        found.1,
        subst (λ (q : LabPlan × ℕ). IsOfBottles (length (bottles q.0 q.1)) (edge (seen_state d.seat.me.0 s'.me.0) (n / 16)))
            (λ i. (sym (plan_known b d is_bench ok here) i, there i)) found.2,
      )

      pub lost : k ≢ old → (f : EdgeState) → word_of f ≡ k → IsOfBottles (length (bottles b.plan.now e)) f
          → Adds y [] (seat_view d.clock s') × (f ≡ edge (shown (seat_view d.clock s')) e) × (f ≢ edge (known y) e)
      lost miss f word fits =
          missed b d is_bench ok here e m own_here may_here s' y n k old new f z view at t table miss word fits seen_here is_old

      made : k ≡ old → Grows d.seat.me.0 (events_of m (hand_in d.seat.me.0).job e) s'.me.0
      made hit = told_moves b d is_bench ok here e m own_here may_here s' n k old new z w at t hit seen_here is_w is_old is_new

      pub made_adds : k ≡ old → Adds y (events_of m y.job e) (seat_view d.clock s')
      made_adds hit = seat_adds d.seat s' y (λ (v : DeskView). events_of m v.job e) view (made hit) table

      pub moved_desk : k ≡ old → (d' : Inside A) (i : ℕ) (fork : Bool) (marks : ℕ) (old_fork : Bool) (old_marks : ℕ) → d'.seat ≡ s' → i ≡ e
          → s'.me.1 ≡ d.seat.me.1 → fixed d' ≡ fixed d → d'.phase ≡ d.phase
          → old_fork ≡ get_or d.fork_marks.items i old_fork → old_marks ≡ get_or d.bottle_marks.items i old_marks
          → fork ≡ fork_mark_after m old_fork → marks ≡ bottle_marks_after m old_marks
          → d'.fork_marks.items ≡ set d.fork_marks.items i fork → d'.bottle_marks.items ≡ set d.bottle_marks.items i marks
          → d'.seen.items ≡ set d.seen.items i w → d'.calm.items ≡ set d.calm.items i no_word → d'.settled ≡ false → IsDesk d'
      moved_desk hit d' i fork marks old_fork old_marks seat inside empty same phase is_old_fork is_old_marks is_fork is_marks
          forks_are marks_are seen calm unsettled =
          moves_kept b d is_bench ok here e m own_here may_here d' i z w fork marks old_fork old_marks inside
          (subst (λ (q : TableSeat LogView View). Grows d.seat.me.0 (events_of m (hand_in d.seat.me.0).job e) q.me.0) (sym seat) (made hit))
          (ap (λ (q : TableSeat LogView View). q.me.1) seat ∙ empty) same phase seen_here is_w is_old_fork is_old_marks is_fork is_marks
          forks_are marks_are seen calm unsettled
