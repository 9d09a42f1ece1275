-- What is read of a state after one edge or one seat is replaced, and that it still fits its plan.
use Rattle.std.proofs.Common.{◌≡◌, ◌≢◌, ◌⊎◌, ℕ, ◌<◌, ◌≤◌, length, slice_index_or, slice_set, Bool, List, arith, sym, subst, inl, inr, get_or-set_same, get_or-set_other, length-set}
use Rattle.std.proofs.lemmas.Bool.{cases_eq}
use Rattle.std.proofs.lemmas.List.{length-replicate}
use Rattle.lab_plan.specs.LabPlan.{LabPlan, edges, sessions, commands}
use Rattle.instrument_log.specs.declared.entry.Entry.{Entry}
use Rattle.legal_steps.specs.declared.edge_state.EdgeState.{EdgeState}
use Rattle.legal_steps.specs.declared.phase.Dining.{Dining}
use Rattle.legal_steps.specs.declared.phase.Drinking.TheVariants.{Reaching}
use Rattle.legal_steps.specs.declared.phase.JobState.{JobState}
use Rattle.legal_steps.specs.State.{State, Seat, seat, edge, IsOfEdge, IsInSession}
use Rattle.legal_steps.specs.Fitting.{Fits, IsSeatOf}
use Rattle.legal_steps.specs.Legal.{with_edge, with_seat, with_phase, with_fork_mark, with_bottle_marks, turned_to}

-- ---- what is read after a write

pub seat_same : (s : State) (j : ℕ) (x : Seat) → j < length s.seats → seat (with_seat s j x) j ≡ x
seat_same s j x inside = get_or-set_same s.seats j x _ inside

pub seat_other : (s : State) (j : ℕ) (x : Seat) (k : ℕ) → k ≢ j → seat (with_seat s j x) k ≡ seat s k
seat_other s j x k other = get_or-set_other s.seats j k x _ other

-- each seat is the new one or as before
pub seat_cases : (s : State) (j : ℕ) (x : Seat) → j < length s.seats → (k : ℕ)
    → ((k ≡ j) × (seat (with_seat s j x) k ≡ x)) ⊎ ((k ≢ j) × (seat (with_seat s j x) k ≡ seat s k))
seat_cases s j x inside k = elim (cases_eq k j) [
  | inl same ↦ inl (same, subst (λ n. seat (with_seat s j x) n ≡ x) (sym same) (seat_same s j x inside))
  | inr other ↦ inr (other, seat_other s j x k other)
]

pub edge_same : (s : State) (e : ℕ) (x : EdgeState) → e < length s.edges → edge (with_edge s e x) e ≡ x
edge_same s e x inside = get_or-set_same s.edges e x _ inside

pub edge_other : (s : State) (e : ℕ) (x : EdgeState) (k : ℕ) → k ≢ e → edge (with_edge s e x) k ≡ edge s k
edge_other s e x k other = get_or-set_other s.edges e k x _ other

-- each edge is the new one or as before
pub edge_cases : (s : State) (e : ℕ) (x : EdgeState) → e < length s.edges → (k : ℕ)
    → ((k ≡ e) × (edge (with_edge s e x) k ≡ x)) ⊎ ((k ≢ e) × (edge (with_edge s e x) k ≡ edge s k))
edge_cases s e x inside k = elim (cases_eq k e) [
  | inl same ↦ inl (same, subst (λ n. edge (with_edge s e x) n ≡ x) (sym same) (edge_same s e x inside))
  | inr other ↦ inr (other, edge_other s e x k other)
]

-- ---- a seat fits its job after a write

pub seat_fits_fork_mark : (plan : LabPlan) (j e : ℕ) (x : Seat) (mark : Bool) → IsSeatOf plan j x → IsSeatOf plan j (with_fork_mark x e mark)
seat_fits_fork_mark plan j e x mark h = record {
  fork_marks_there = simp length-set h.fork_marks_there;
  bottle_marks_there = h.bottle_marks_there;
  bottle_marks_fit = h.bottle_marks_fit;
  phase_within = h.phase_within;
}

pub seat_fits_bottle_marks : (plan : LabPlan) (j e : ℕ) (x : Seat) (marks : ℕ) → e < length (edges plan)
    → IsOfEdge plan e marks → IsSeatOf plan j x → IsSeatOf plan j (with_bottle_marks x e marks)
seat_fits_bottle_marks plan j e x marks inside fit h = record {
  fork_marks_there = h.fork_marks_there;
  bottle_marks_there = simp length-set h.bottle_marks_there;
  bottle_marks_fit = λ k is_edge. elim (cases_eq k e) [
    | inl same ↦ subst (λ n. IsOfEdge plan n (slice_index_or (slice_set x.bottle_marks e marks) n 0)) (sym same)
        (subst (IsOfEdge plan e) (sym (get_or-set_same x.bottle_marks e marks 0 (omega (arith, inside, h.bottle_marks_there)))) fit)
    | inr other ↦ subst (IsOfEdge plan k) (sym (get_or-set_other x.bottle_marks e k marks 0 other)) (h.bottle_marks_fit k is_edge)
  ];
  phase_within = h.phase_within;
}

-- without its fork marks
pub seat_fits_turned : (plan : LabPlan) (j : ℕ) (x : Seat) (dining : Dining) → IsSeatOf plan j x → IsSeatOf plan j (turned_to x dining)
seat_fits_turned plan j x dining h = record {
  fork_marks_there = simp length-replicate h.fork_marks_there;
  bottle_marks_there = h.bottle_marks_there;
  bottle_marks_fit = h.bottle_marks_fit;
  phase_within = record {
    session_there = h.phase_within.session_there;
    begun = h.phase_within.begun;
    position_there = h.phase_within.position_there;
    command_left = h.phase_within.command_left;
  };
}

-- ---- a state fits its plan after a write

pub fits_with_edge : (plan : LabPlan) (s : State) (e : ℕ) (x : EdgeState) → e < length (edges plan)
    → IsOfEdge plan e x.bottles → IsOfEdge plan e x.bottle_tokens → Fits plan s → Fits plan (with_edge s e x)
fits_with_edge plan s e x is_edge b t h =
    let inside : e < length s.edges = omega (arith, is_edge, h.edges_there) in
    record {
      edges_there = simp length-set h.edges_there;
      bottles_fit = λ k here. elim (edge_cases s e x inside k) [
        | inl w ↦ subst (λ (y : EdgeState). IsOfEdge plan k y.bottles) (sym w.1) (subst (λ n. IsOfEdge plan n x.bottles) (sym w.0) b)
        | inr w ↦ subst (λ (y : EdgeState). IsOfEdge plan k y.bottles) (sym w.1) (h.bottles_fit k here)
      ];
      tokens_fit = λ k here. elim (edge_cases s e x inside k) [
        | inl w ↦ subst (λ (y : EdgeState). IsOfEdge plan k y.bottle_tokens) (sym w.1) (subst (λ n. IsOfEdge plan n x.bottle_tokens) (sym w.0) t)
        | inr w ↦ subst (λ (y : EdgeState). IsOfEdge plan k y.bottle_tokens) (sym w.1) (h.tokens_fit k here)
      ];
      seats_there = h.seats_there;
      logs_there = h.logs_there;
      seats_fit = h.seats_fit;
    }

pub fits_with_seat : (plan : LabPlan) (s : State) (j : ℕ) (x : Seat) → j < length plan.jobs → IsSeatOf plan j x → Fits plan s → Fits plan (with_seat s j x)
fits_with_seat plan s j x job fit h =
    let inside : j < length s.seats = omega (arith, job, h.seats_there) in
    record {
      edges_there = h.edges_there;
      bottles_fit = h.bottles_fit;
      tokens_fit = h.tokens_fit;
      seats_there = simp length-set h.seats_there;
      logs_there = h.logs_there;
      seats_fit = λ k here. elim (seat_cases s j x inside k) [
        | inl w ↦ subst (IsSeatOf plan k) (sym w.1) (subst (λ n. IsSeatOf plan n x) (sym w.0) fit)
        | inr w ↦ subst (IsSeatOf plan k) (sym w.1) (h.seats_fit k here)
      ];
    }

-- a new phase that fits the job
pub fits_with_phase : (plan : LabPlan) (s : State) (j : ℕ) (phase : JobState) → j < length plan.jobs
    → phase.session ≤ length (sessions plan j) → (IsInSession phase.drinking → 1 ≤ phase.session) → phase.position ≤ length (commands plan j phase.session)
    → (phase.drinking ≡ Reaching → phase.position < length (commands plan j phase.session)) → Fits plan s → Fits plan (with_phase s j phase)
fits_with_phase plan s j phase job session begun position left h =
    let old = h.seats_fit j job in
    fits_with_seat plan s j _ job (record {
      fork_marks_there = old.fork_marks_there;
      bottle_marks_there = old.bottle_marks_there;
      bottle_marks_fit = old.bottle_marks_fit;
      phase_within = record { session_there = session; begun = begun; position_there = position; command_left = left };
    }) h

pub fits_with_log : (plan : LabPlan) (s : State) (i : ℕ) (entries : List Entry) → Fits plan s → Fits plan (record s { logs = slice_set s.logs i entries })
fits_with_log plan s i entries h = record {
  edges_there = h.edges_there;
  bottles_fit = h.bottles_fit;
  tokens_fit = h.tokens_fit;
  seats_there = h.seats_there;
  logs_there = simp length-set h.logs_there;
  seats_fit = h.seats_fit;
}
