-- An opening state: what each job does there, and what holds.
use Rattle.std.proofs.Common.{◌≡◌, ℕ, ◌<◌, length, slice_index_or, replicate, false, arith, sym, subst, ap, ◌∙◌}
use Rattle.std.proofs.lemmas.List.{length-replicate, get_or-replicate}
use Rattle.std.proofs.lemmas.Nat.{pow_pos}
use Rattle.std.proofs.lemmas.Bool.{false≢true}
use Rattle.lab_plan.specs.LabPlan.{LabPlan, edges, bottles}
use Rattle.legal_steps.specs.declared.phase.Dining.TheVariants.{Thinking, Eating}
use Rattle.legal_steps.specs.State.{State, Seat, seat, Has, IsOfEdge, IsOwn, IsDrinking, no_seat}
use Rattle.legal_steps.specs.Fitting.{Fits, IsSeatOf}
use Rattle.legal_steps.specs.Opening.{IsOpening, idle_seat}
use Rattle.legal_steps.proofs.FitsLaw.{own_is_job, not_tranquil}
use Rattle.legal_steps.proofs.BottleSets.{no_marks}
use Rattle.legal_steps.proofs.BottleLaw.{IsServed, tranquil_has_none}
use Rattle.legal_steps.proofs.ForkLaw.{HasForks, all_false}

-- every job is idle
pub opening_seat : (plan : LabPlan) (s : State) (j : ℕ) → IsOpening plan s → j < length plan.jobs → seat s j ≡ idle_seat plan
opening_seat plan s j h job = ap (λ xs. slice_index_or xs j no_seat) h.idle ∙ get_or-replicate (length plan.jobs) j _ no_seat job

bare_fits : (plan : LabPlan) (e : ℕ) → e < length (edges plan) → IsOfEdge plan e (slice_index_or (replicate (length (edges plan)) 0) e 0)
bare_fits plan e here = subst (IsOfEdge plan e) (sym (get_or-replicate (length (edges plan)) e 0 0 here)) (pow_pos (length (bottles plan e)))

idle_fits : (plan : LabPlan) (j : ℕ) → IsSeatOf plan j (idle_seat plan)
idle_fits plan j = record {
  fork_marks_there = length-replicate _ _;
  bottle_marks_there = length-replicate _ _;
  bottle_marks_fit = bare_fits plan;
  phase_within = record {
    session_there = omega arith;
    begun = λ t. absurd (not_tranquil t);
    position_there = omega arith;
    command_left = λ e. absurd (cc);
  };
}

pub fits_opening : (plan : LabPlan) (s : State) → IsOpening plan s → Fits plan s
fits_opening plan s h = record {
  edges_there = h.edges_there;
  bottles_fit = h.bottles_fit;
  tokens_fit = h.tokens_fit;
  seats_there = ap length h.idle ∙ length-replicate _ _;
  logs_there = ap length h.logs_empty ∙ length-replicate _ _;
  seats_fit = λ j job. subst (IsSeatOf plan j) (sym (opening_seat plan s j h job)) (idle_fits plan j);
}

pub served_opening : (plan : LabPlan) (s : State) → IsOpening plan s → IsServed plan s
served_opening plan s h = record {
  marked =
      λ j e k own small set. absurd (no_marks (length (edges plan)) e k
      (subst (λ (y : Seat). Has (slice_index_or y.bottle_marks e 0) k) (opening_seat plan s j h (own_is_job plan j e own)) set));
  drinks =
      λ j e k own small now named. absurd
      (tranquil_has_none (subst (λ (y : Seat). IsDrinking y.phase) (opening_seat plan s j h (own_is_job plan j e own)) now));
}

pub has_forks_opening : (plan : LabPlan) (s : State) → IsOpening plan s → HasForks plan s
has_forks_opening plan s h =
    let bare : (j e : ℕ) → IsOwn plan j e → slice_index_or (seat s j).fork_marks e false ≡ false =
    λ j e own. ap (λ (y : Seat). slice_index_or y.fork_marks e false) (opening_seat plan s j h (own_is_job plan j e own)) ∙ all_false (length (edges plan)) e in
    let thinks : (j e : ℕ) → IsOwn plan j e → (seat s j).phase.dining ≡ Thinking =
    λ j e own. ap (λ (y : Seat). y.phase.dining) (opening_seat plan s j h (own_is_job plan j e own)) in
    record {
      marked = λ j e own set. absurd (false≢true (sym (bare j e own) ∙ set));
      eating = λ j e own eats. absurd (thinking_eats_not (sym (thinks j e own) ∙ eats));
      soiled = λ j e own eats set. absurd (false≢true (sym (bare j e own) ∙ set));
    }
  where
    thinking_eats_not : Thinking ≡ Eating → ⊥
    thinking_eats_not e = cc
