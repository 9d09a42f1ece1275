-- Who has nothing to do goes on so while its seat and its edges stay.
use Rattle.std.proofs.Common.{◌≡◌, ◌≢◌, ℕ, true, false, slice_index_or, sym, ap, ◌∙◌, subst}
use Rattle.lab_plan.specs.LabPlan.{LabPlan, session_names}
use Rattle.legal_steps.specs.declared.phase.Dining.TheVariants.{Thinking, Hungry, Eating}
use Rattle.legal_steps.specs.declared.phase.Drinking.TheVariants.{Thirsty}
use Rattle.legal_steps.specs.State.{State, Seat, Has, IsOwn, IsInSession, edge, seat, phase, fork_mark, bottle_marks, end_of, bottles_at}
use Rattle.legal_steps.specs.Legal.{IsJob, Needs, instrument_of, fork_mark_seen}
use Rattle.turns.specs.Due.{but_position}
use Rattle.turns.proofs.Calm.{stays_calm}
use Rattle.settling.specs.Left.{HasNothingAt, HasNothingToDo}

pub still_at : (plan : LabPlan) (s t : State) (k e : ℕ) → edge t e ≡ edge s e → phase t k ≡ phase s k → fork_mark t k e ≡ fork_mark s k e →
    bottle_marks t k e ≡ bottle_marks s k e → HasNothingAt plan s k e → HasNothingAt plan t k e
still_at plan s t k e edge_is phase_is fork_is marks_are h = record {
  calm = stays_calm plan s t k e edge_is (ap but_position phase_is) h.calm;
  looked = fork_is ∙ (h.looked ∙ (λ i. fork_mark_seen (sym phase_is i).dining (end_of plan k e) (sym edge_is i)));
  knows = marks_are ∙ (h.knows ∙ ap (bottles_at plan e (end_of plan k e)) (sym edge_is));
}

module _ (plan : LabPlan) (s t : State) (k : ℕ) (same : seat t k ≡ seat s k) where
  needs_back : (i : ℕ) → Needs plan s k i → Needs plan t k i
  needs_back i n = record {
    in_session = subst (λ (x : Seat). IsInSession x.phase.drinking) (sym same) n.in_session;
    named = subst (λ (x : Seat). session_names plan k x.phase.session i ≡ true) (sym same) n.named;
  }

  pub seat_still_at : (e : ℕ) → edge t e ≡ edge s e → HasNothingAt plan s k e → HasNothingAt plan t k e
  seat_still_at e is h = still_at plan s t k e is (ap (λ (x : Seat). x.phase) same) (ap (λ (x : Seat). slice_index_or x.fork_marks e false) same)
      (ap (λ (x : Seat). slice_index_or x.bottle_marks e 0) same) h

  -- its own acts are legal just as they were
  pub nothing_with : ((e : ℕ) → IsOwn plan k e → HasNothingAt plan t k e) → HasNothingToDo plan s k → HasNothingToDo plan t k
  nothing_with edges h = record {
    edges = edges;
    no_drink = λ may. h.no_drink (
      may.0,
      sym (ap (λ (x : Seat). x.phase.drinking) same) ∙ may.1,
      λ e own b small needs. subst (λ (x : Seat). Has (slice_index_or x.bottle_marks e 0) b) same (may.2 e own b small (needs_back (instrument_of plan e b) needs)),
    );
    no_leave = λ may. h.no_leave (subst (λ (x : Seat). IsJob plan k × (x.phase.dining ≡ Eating) × (x.phase.drinking ≢ Thirsty) ×
        ((e : ℕ) → IsOwn plan k e → slice_index_or x.fork_marks e false ≡ true)) same may);
    no_sit = λ may. h.no_sit (subst (λ (x : Seat). IsJob plan k × (x.phase.dining ≡ Hungry) ×
        ((e : ℕ) → IsOwn plan k e → slice_index_or x.fork_marks e false ≡ true)) same may);
    no_hunger = λ may. h.no_hunger (subst (λ (x : Seat). IsJob plan k × (x.phase.dining ≡ Thinking) × (x.phase.drinking ≡ Thirsty)) same may);
  }

  pub still_nothing : ((e : ℕ) → IsOwn plan k e → edge t e ≡ edge s e) → HasNothingToDo plan s k → HasNothingToDo plan t k
  still_nothing edges_same h = nothing_with (λ e own. seat_still_at e (edges_same e own) (h.edges e own)) h
