-- Precedence stays without a cycle, after every legal event.
use Rattle.std.proofs.Common.{◌≡◌, ◌≢◌, ℕ, ◌<◌, length, true, false, arith, refl, sym, subst, ap, ◌∙◌, inl, inr}
use Rattle.std.proofs.lemmas.Bool.{false≢true}
use Rattle.lab_plan.specs.LabPlan.{LabPlan, edges}
use Rattle.legal_steps.specs.declared.phase.Dining.TheVariants.{Eating}
use Rattle.legal_steps.specs.declared.edge_state.EdgeState.{EdgeState}
use Rattle.legal_steps.specs.declared.event.Event.{Event}
use Rattle.legal_steps.specs.declared.event.Event.TheVariants.{Look, AskFork, GiveFork, Soil, AskBottles, GiveBottles, Thirst, Hunger, Sit, Leave, Drink, Reach, Act, Quit, Retire, Glance, Withdraw}
use Rattle.legal_steps.specs.State.{State, Seat, edge, dining, IsOwn, end_of, opposite, job_at_end}
use Rattle.legal_steps.specs.Fitting.{Fits}
use Rattle.legal_steps.specs.Legal.{May, after, with_edge, with_seat, with_phase, Here}
use Rattle.legal_steps.specs.Precedence.{fork_holder, fork_waiter, IsUsed, PrecedesOn, Precedes, IsAcyclic}
use Rattle.legal_steps.proofs.FitsWrites.{seat_cases, edge_cases}
use Rattle.legal_steps.proofs.FitsLaw.{own_is_job}
use Rattle.legal_steps.proofs.ForkEnds.{at_own, own_at, end_at, not_opposite, opposite_twice}
use Rattle.legal_steps.proofs.ForkLaw.{HasForks}
use Rattle.legal_steps.proofs.AcyclicLists.{cycle_same, cycle_past}

-- a job that has the fork of an edge is its holder
is_holder : (plan : LabPlan) (s : State) (j e : ℕ) → IsOwn plan j e → Here plan j e (edge s e).fork → fork_holder plan s e ≡ j
is_holder plan s j e own here = ap (job_at_end plan e) here ∙ at_own plan j e own

-- the waiter does not have the fork
not_waiter : (plan : LabPlan) (s : State) (j e : ℕ) → e < length (edges plan) → Here plan j e (edge s e).fork → fork_waiter plan s e ≡ j → ⊥
not_waiter plan s j e h here waits =
    not_opposite (edge s e).fork (sym (end_at plan e (opposite (edge s e).fork) h) ∙ (ap (λ n. end_of plan n e) waits ∙ sym here))

-- ---- precedence of two states

-- the same order on an edge where the fork is and counts as before
same_order : (plan : LabPlan) (s s' : State) (e a b : ℕ) → (edge s' e).fork ≡ (edge s e).fork
    → (IsUsed plan s' e → IsUsed plan s e) → (IsUsed plan s e → IsUsed plan s' e) → PrecedesOn plan s' e a b → PrecedesOn plan s e a b
same_order plan s s' e a b f to back p = record {
  is_edge = p.is_edge;
  order = elim p.order [
    | inl w ↦ inl (to w.0, w.1 ∙ ap (λ x. job_at_end plan e (opposite x)) f, w.2 ∙ ap (job_at_end plan e) f)
    | inr w ↦ inr (λ u. w.0 (back u), w.1 ∙ ap (job_at_end plan e) f, w.2 ∙ ap (λ x. job_at_end plan e (opposite x)) f)
  ];
}

-- forks, dirt and who eats are as before
all_same : (plan : LabPlan) (s s' : State) → ((e : ℕ) → (edge s' e).fork ≡ (edge s e).fork) → ((e : ℕ) → (edge s' e).dirty ≡ (edge s e).dirty)
    → ((k : ℕ) → dining s' k ≡ Eating → dining s k ≡ Eating) → ((k : ℕ) → dining s k ≡ Eating → dining s' k ≡ Eating) → IsAcyclic plan s → IsAcyclic plan s'
all_same plan s s' f t eats eats' h jobs c =
    h jobs (cycle_same (Precedes plan s') (Precedes plan s) (λ a b p. (
      p.0,
      same_order plan s s' p.0 a b (f p.0)
          (λ u. elim u [ inl w ↦ inl (ap (dining s) (ap (job_at_end plan p.0) (sym (f p.0))) ∙ eats _ w) | inr w ↦ inr (sym (t p.0) ∙ w) ])
          (λ u. elim u [ inl w ↦ inl (ap (dining s') (ap (job_at_end plan p.0) (f p.0)) ∙ eats' _ w) | inr w ↦ inr (t p.0 ∙ w) ])
          p.1,
    )) jobs c)

-- another seat of a job with the same dining, or another edge with the same fork
pub seat_dines : (s : State) (j : ℕ) (x : Seat) → j < length s.seats → x.phase.dining ≡ dining s j → (k : ℕ) → dining (with_seat s j x) k ≡ dining s k
seat_dines s j x inside d k = elim (seat_cases s j x inside k) [
  | inl w ↦ ap (λ (y : Seat). y.phase.dining) w.1 ∙ (d ∙ ap (dining s) (sym w.0))
  | inr w ↦ ap (λ (y : Seat). y.phase.dining) w.1
]

other_seat : (plan : LabPlan) (s : State) (j : ℕ) (x : Seat) → j < length s.seats
    → x.phase.dining ≡ dining s j → IsAcyclic plan s → IsAcyclic plan (with_seat s j x)
other_seat plan s j x inside d h =
    all_same plan s (with_seat s j x) (λ e. refl) (λ e. refl)
    (λ k eats. sym (seat_dines s j x inside d k) ∙ eats) (λ k eats. seat_dines s j x inside d k ∙ eats) h

other_edge : (plan : LabPlan) (s : State) (e : ℕ) (x : EdgeState) → e < length s.edges
    → x.fork ≡ (edge s e).fork → x.dirty ≡ (edge s e).dirty → IsAcyclic plan s → IsAcyclic plan (with_edge s e x)
other_edge plan s e x inside f t h = all_same plan s (with_edge s e x)
    (λ k. elim (edge_cases s e x inside k)
    [ inl w ↦ ap (λ (y : EdgeState). y.fork) w.1 ∙ (f ∙ ap (λ n. (edge s n).fork) (sym w.0)) | inr w ↦ ap (λ (y : EdgeState). y.fork) w.1 ])
    (λ k. elim (edge_cases s e x inside k)
    [ inl w ↦ ap (λ (y : EdgeState). y.dirty) w.1 ∙ (t ∙ ap (λ n. (edge s n).dirty) (sym w.0)) | inr w ↦ ap (λ (y : EdgeState). y.dirty) w.1 ])
    (λ k eats. eats) (λ k eats. eats) h

-- an idle job that stays idle
still_idle : (plan : LabPlan) (s : State) (j : ℕ) (x : Seat) → j < length s.seats → (dining s j ≡ Eating → ⊥)
    → (x.phase.dining ≡ Eating → ⊥) → IsAcyclic plan s → IsAcyclic plan (with_seat s j x)
still_idle plan s j x inside before now h = all_same plan s (with_seat s j x) (λ e. refl) (λ e. refl)
    (λ k eats. elim (seat_cases s j x inside k)
    [ inl w ↦ absurd (now (ap (λ (y : Seat). y.phase.dining) (sym w.1) ∙ eats)) | inr w ↦ ap (λ (y : Seat). y.phase.dining) (sym w.1) ∙ eats ])
    (λ k eats. elim (seat_cases s j x inside k)
    [ inl w ↦ absurd (before (ap (dining s) (sym w.0) ∙ eats)) | inr w ↦ ap (λ (y : Seat). y.phase.dining) w.1 ∙ eats ])
    h

-- a meal begins: the job becomes the last of all its neighbours
sits : (plan : LabPlan) (s : State) (j : ℕ) (x : Seat) → j < length s.seats → x.phase.dining ≡ Eating
    → ((e : ℕ) → IsOwn plan j e → Here plan j e (edge s e).fork) → IsAcyclic plan s → IsAcyclic plan (with_seat s j x)
sits plan s j x inside now all h jobs c =
    let s' = with_seat s j x in
    let eats : (k : ℕ) → k ≡ j → dining s' k ≡ Eating =
    λ k same. elim (seat_cases s j x inside k) [ inl w ↦ ap (λ (y : Seat). y.phase.dining) w.1 ∙ now | inr w ↦ absurd (w.0 same) ] in
    let same : (k : ℕ) → k ≢ j → dining s' k ≡ dining s k =
    λ k other. elim (seat_cases s j x inside k) [ inl w ↦ absurd (other w.0) | inr w ↦ ap (λ (y : Seat). y.phase.dining) w.1 ] in
    let holds : (e : ℕ) → e < length (edges plan) → fork_waiter plan s e ≡ j → ⊥ =
    λ e n waits. not_waiter plan s j e n (all e (subst (λ k. IsOwn plan k e) waits (own_at plan e (opposite (edge s e).fork) n))) waits in
    let out : (a b : ℕ) → Precedes plan s' a b → a ≢ j =
    λ a b p is. elim p.1.order [
      | inl w ↦ holds p.0 p.1.is_edge (sym w.1 ∙ is)
      | inr w ↦ w.0 (inl (eats _ (sym w.1 ∙ is)))
    ] in
    let past : (a b : ℕ) → Precedes plan s' a b → b ≢ j → Precedes plan s a b =
    λ a b p other. (
      p.0,
      record {
        is_edge = p.1.is_edge;
        order = elim p.1.order [
          | inl w ↦ inl (elim w.0 [ inl e ↦ inl (sym (same _ (λ is. other (w.2 ∙ is))) ∙ e) | inr d ↦ inr d ], w.1, w.2)
          | inr w ↦ inr (λ u. elim u [ inl e ↦ w.0 (inl (same _ (λ is. out a b p (w.1 ∙ is)) ∙ e)) | inr d ↦ w.0 (inr d) ], w.1, w.2)
        ];
      },
    ) in
    h jobs (cycle_past (Precedes plan s') (Precedes plan s) j out past jobs c)

-- a meal ends, with dirty forks
leaves : (plan : LabPlan) (s : State) (j : ℕ) (x : Seat) → j < length s.seats → (x.phase.dining ≡ Eating → ⊥)
    → ((e : ℕ) → IsOwn plan j e → (edge s e).dirty ≡ true) → IsAcyclic plan s → IsAcyclic plan (with_seat s j x)
leaves plan s j x inside now dirty h jobs c =
    let s' = with_seat s j x in
    h jobs (cycle_same (Precedes plan s') (Precedes plan s) (λ a b p. (
      p.0,
      same_order plan s s' p.0 a b refl
          (λ u. elim u [
            | inl e ↦ elim (seat_cases s j x inside (fork_holder plan s p.0)) [
              | inl w ↦ absurd (now (ap (λ (y : Seat). y.phase.dining) (sym w.1) ∙ e))
              | inr w ↦ inl (ap (λ (y : Seat). y.phase.dining) (sym w.1) ∙ e)
            ]
            | inr d ↦ inr d
          ])
          (λ u. elim u [
            | inl e ↦ elim (seat_cases s j x inside (fork_holder plan s p.0)) [
              | inl w ↦ inr (dirty p.0 (subst (λ k. IsOwn plan k p.0) w.0 (own_at plan p.0 (edge s p.0).fork p.1.is_edge)))
              | inr w ↦ inl (ap (λ (y : Seat). y.phase.dining) w.1 ∙ e)
            ]
            | inr d ↦ inr d
          ])
          p.1,
    )) jobs c)

-- the fork of an eating job gets dirty
soils : (plan : LabPlan) (s : State) (e0 : ℕ) (x : EdgeState) → e0 < length s.edges → x.fork ≡ (edge s e0).fork
    → x.dirty ≡ true → dining s (fork_holder plan s e0) ≡ Eating → IsAcyclic plan s → IsAcyclic plan (with_edge s e0 x)
soils plan s e0 x inside f t eats h jobs c =
    let s' = with_edge s e0 x in
    let fork : (e : ℕ) → (edge s' e).fork ≡ (edge s e).fork =
    λ e. elim (edge_cases s e0 x inside e) [
      | inl w ↦ ap (λ (y : EdgeState). y.fork) w.1 ∙ (f ∙ ap (λ n. (edge s n).fork) (sym w.0))
      | inr w ↦ ap (λ (y : EdgeState). y.fork) w.1
    ] in
    h jobs (cycle_same (Precedes plan s') (Precedes plan s) (λ a b p. (
      p.0,
      same_order plan s s' p.0 a b (fork p.0)
          (λ u. elim (edge_cases s e0 x inside p.0) [
            | inl w ↦ inl (ap (λ n. dining s (fork_holder plan s n)) w.0 ∙ eats)
            | inr w ↦ elim u [
              | inl e ↦ inl (ap (dining s) (ap (job_at_end plan p.0) (sym (fork p.0))) ∙ e)
              | inr d ↦ inr (ap (λ (y : EdgeState). y.dirty) (sym w.1) ∙ d)
            ]
          ])
          (λ u. elim u [
            | inl e ↦ inl (ap (dining s) (ap (job_at_end plan p.0) (fork p.0)) ∙ e)
            | inr d ↦ inr (elim
                (edge_cases s e0 x inside p.0) [ inl w ↦ ap (λ (y : EdgeState). y.dirty) w.1 ∙ t | inr w ↦ ap (λ (y : EdgeState). y.dirty) w.1 ∙ d ])
          ])
          p.1,
    )) jobs c)

-- a dirty fork is given and cleaned, to a job that does not eat
gives : (plan : LabPlan) (s : State) (e0 : ℕ) (x : EdgeState) → e0 < length s.edges → x.fork ≡ opposite (edge s e0).fork → x.dirty ≡ false
    → (edge s e0).dirty ≡ true → (dining s (fork_waiter plan s e0) ≡ Eating → ⊥) → IsAcyclic plan s → IsAcyclic plan (with_edge s e0 x)
gives plan s e0 x inside f clean dirty idle h jobs c =
    let s' = with_edge s e0 x in
    let at : edge s' e0 ≡ x = elim (edge_cases s e0 x inside e0) [ inl w ↦ w.1 | inr w ↦ absurd (w.0 refl) ] in
    let fork : (edge s' e0).fork ≡ opposite (edge s e0).fork = ap (λ (y : EdgeState). y.fork) at ∙ f in
    let unused : IsUsed plan s' e0 → ⊥ = λ u. elim u [
      | inl e ↦ idle (ap (dining s) (ap (job_at_end plan e0) (sym fork)) ∙ e)
      | inr d ↦ false≢true (sym (ap (λ (y : EdgeState). y.dirty) at ∙ clean) ∙ d)
    ] in
    let here : (a b : ℕ) → PrecedesOn plan s' e0 a b → PrecedesOn plan s e0 a b =
    λ a b p. elim p.order [
      | inl w ↦ absurd (unused w.0)
      | inr w ↦ record {
        is_edge = p.is_edge;
        order = inl (inr dirty, w.1 ∙ ap (job_at_end plan e0) fork, w.2 ∙ ap (job_at_end plan e0) (ap opposite fork ∙ opposite_twice (edge s e0).fork));
      }
    ] in
    h jobs (cycle_same (Precedes plan s') (Precedes plan s) (λ a b p. (
      p.0,
      elim (edge_cases s e0 x inside p.0) [
        | inl w ↦ subst (λ n. PrecedesOn plan s n a b) (sym w.0) (here a b (subst (λ n. PrecedesOn plan s' n a b) w.0 p.1))
        | inr w ↦ same_order plan s s' p.0 a b (ap (λ (y : EdgeState). y.fork) w.1)
            (λ u. elim u [
              | inl e ↦ inl (ap (dining s) (ap (job_at_end plan p.0) (ap (λ (y : EdgeState). y.fork) (sym w.1))) ∙ e)
              | inr d ↦ inr (ap (λ (y : EdgeState). y.dirty) (sym w.1) ∙ d)
            ])
            (λ u. elim u [
              | inl e ↦ inl (ap (dining s) (ap (job_at_end plan p.0) (ap (λ (y : EdgeState). y.fork) w.1)) ∙ e)
              | inr d ↦ inr (ap (λ (y : EdgeState). y.dirty) w.1 ∙ d)
            ])
            p.1
      ],
    )) jobs c)

pub acyclic_after : (plan : LabPlan) (s : State) (event : Event) → Fits plan s
    → HasForks plan s → IsAcyclic plan s → May plan s event → IsAcyclic plan (after plan s event)
acyclic_after plan s (Look j e seen) fit true_marks h may = other_seat plan s j _ (omega (arith, fit.seats_there, own_is_job plan j e may.0)) refl h
acyclic_after plan s (AskFork j e) fit true_marks h may = other_edge plan s e _ (omega (arith, may.0.is_edge, fit.edges_there)) refl refl h
acyclic_after plan s (GiveFork j e) fit true_marks h may =
    let idle : dining s (fork_waiter plan s e) ≡ Eating → ⊥ =
    λ eats. not_waiter plan s (fork_waiter plan s e) e may.0.is_edge
    (true_marks.eating _ e (own_at plan e (opposite (edge s e).fork) may.0.is_edge) eats) refl in
    other_seat plan (with_edge s e _) j _ (omega (arith, fit.seats_there, own_is_job plan j e may.0)) refl
    (gives plan s e _ (omega (arith, may.0.is_edge, fit.edges_there)) refl refl may.3 idle h)
acyclic_after plan s (Soil j e) fit true_marks h may =
    other_seat plan (with_edge s e _) j _ (omega (arith, fit.seats_there, own_is_job plan j e may.0)) refl
    (soils plan s e _ (omega (arith, may.0.is_edge, fit.edges_there)) refl refl (ap (dining s) (is_holder plan s j e may.0 may.2) ∙ may.1) h)
acyclic_after plan s (AskBottles j e set) fit true_marks h may = other_edge plan s e _ (omega (arith, may.0.is_edge, fit.edges_there)) refl refl h
acyclic_after plan s (GiveBottles j e set) fit true_marks h may =
    other_seat plan (with_edge s e _) j _ (omega (arith, fit.seats_there, own_is_job plan j e may.0)) refl
    (other_edge plan s e _ (omega (arith, may.0.is_edge, fit.edges_there)) refl refl h)
acyclic_after plan s (Thirst j) fit true_marks h may = other_seat plan s j _ (omega (arith, fit.seats_there, may.0)) refl h
acyclic_after plan s (Hunger j) fit true_marks h may = still_idle plan s j _ (omega (arith, fit.seats_there, may.0)) (λ eats. cc) (λ eats. cc) h
acyclic_after plan s (Sit j) fit true_marks h may =
    sits plan s j _ (omega (arith, fit.seats_there, may.0)) refl (λ e own. true_marks.marked j e own (may.2 e own)) h
acyclic_after plan s (Leave j) fit true_marks h may =
    leaves plan s j _ (omega (arith, fit.seats_there, may.0)) (λ eats. cc) (λ e own. true_marks.soiled j e own may.1 (may.3 e own)) h
acyclic_after plan s (Drink j) fit true_marks h may = other_seat plan s j _ (omega (arith, fit.seats_there, may.0)) refl h
acyclic_after plan s (Reach j) fit true_marks h may = other_seat plan s j _ (omega (arith, fit.seats_there, may.0)) refl h
acyclic_after plan s (Act j) fit true_marks h may =
    all_same plan (with_phase s j _) _ (λ e. refl) (λ e. refl) (λ k eats. eats)
    (λ k eats. eats) (other_seat plan s j _ (omega (arith, fit.seats_there, may.0)) refl h)
acyclic_after plan s (Quit j) fit true_marks h may = other_seat plan s j _ (omega (arith, fit.seats_there, may.0)) refl h
acyclic_after plan s (Retire j) fit true_marks h may = other_seat plan s j _ (omega (arith, fit.seats_there, may.0)) refl h
acyclic_after plan s (Glance j other seen) fit true_marks h may = h
acyclic_after plan s (Withdraw j) fit true_marks h may = other_seat plan s j _ (omega (arith, fit.seats_there, may.0)) refl h
