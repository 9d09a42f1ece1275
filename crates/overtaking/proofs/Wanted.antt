-- Forks are where they are wanted: after every legal event.
use Rattle.std.proofs.Common.{◌≡◌, ◌≢◌, ℕ, ◌<◌, length, false, List, [], ◌∷◌, arith, refl, sym, subst, ap, ◌∙◌, inl, inr}
use Rattle.std.proofs.lemmas.Bool.{cases_eq, false≢true}
use Rattle.lab_plan.specs.LabPlan.{LabPlan}
use Rattle.legal_steps.specs.declared.phase.Dining.TheVariants.{Thinking, Hungry}
use Rattle.legal_steps.specs.declared.edge_state.EdgeState.{EdgeState}
use Rattle.legal_steps.specs.declared.event.Event.{Event}
use Rattle.legal_steps.specs.declared.event.Event.TheVariants.{Look, AskFork, GiveFork, Soil, AskBottles, GiveBottles, Thirst, Hunger, Sit, Leave, Drink, Reach, Act, Quit, Retire, Glance, Withdraw}
use Rattle.legal_steps.specs.State.{State, Seat, fork, token, is_dirty, dining, IsOwn, end_of, opposite}
use Rattle.legal_steps.specs.Fitting.{Fits}
use Rattle.legal_steps.specs.Legal.{May, after, with_edge, with_seat, Here, There}
use Rattle.legal_steps.specs.Opening.{IsOpening}
use Rattle.legal_steps.specs.Run.{IsLegalFrom, after_all}
use Rattle.legal_steps.proofs.FitsWrites.{seat_cases, edge_cases}
use Rattle.legal_steps.proofs.FitsLaw.{own_is_job}
use Rattle.legal_steps.proofs.ForkEnds.{not_opposite, opposite_twice}
use Rattle.legal_steps.proofs.ForkLaw.{HasForks}
use Rattle.legal_steps.proofs.ReachedInvariant.{IsSound, sound_after}
use Rattle.overtaking.proofs.EdgeEnds.{at_opposite, across, not_both}

-- a job whose fork and token are both at the other end is hungry, and who has a clean fork is hungry or eats
pub record IsWanted (plan : LabPlan) (s : State) : Type 0 where
  pub asked : (j e : ℕ) → IsOwn plan j e → There plan j e (fork s e) → There plan j e (token s e) → dining s j ≡ Hungry
  pub clean : (j e : ℕ) → IsOwn plan j e → Here plan j e (fork s e) → is_dirty s e ≡ false → dining s j ≢ Thinking

-- a job dines in another way
dines : (plan : LabPlan) (s : State) (j : ℕ) (x : Seat) → j < length s.seats
    → ((e : ℕ) → IsOwn plan j e → There plan j e (fork s e) → There plan j e (token s e) → x.phase.dining ≡ Hungry)
    → ((e : ℕ) → IsOwn plan j e → Here plan j e (fork s e) → is_dirty s e ≡ false → x.phase.dining ≢ Thinking)
    → IsWanted plan s → IsWanted plan (with_seat s j x)
dines plan s j x inside asked clean h = record {
  asked = λ k e own f t. elim (seat_cases s j x inside k) [
    | inl w ↦ ap (λ (y : Seat). y.phase.dining) w.1
        ∙ asked e (subst (λ n. IsOwn plan n e) w.0 own) (subst (λ n. There plan n e (fork s e)) w.0 f) (subst (λ n. There plan n e (token s e)) w.0 t)
    | inr w ↦ ap (λ (y : Seat). y.phase.dining) w.1 ∙ h.asked k e own f t
  ];
  clean = λ k e own f d thinks. elim (seat_cases s j x inside k) [
    | inl w ↦ clean e (subst (λ n. IsOwn plan n e) w.0 own)
        (subst (λ n. Here plan n e (fork s e)) w.0 f) d (ap (λ (y : Seat). y.phase.dining) (sym w.1) ∙ thinks)
    | inr w ↦ h.clean k e own f d (ap (λ (y : Seat). y.phase.dining) (sym w.1) ∙ thinks)
  ];
}

-- another seat of a job that dines as before
other_seat : (plan : LabPlan) (s : State) (j : ℕ) (x : Seat) → j < length s.seats
    → x.phase.dining ≡ dining s j → IsWanted plan s → IsWanted plan (with_seat s j x)
other_seat plan s j x inside d h = dines plan s j x inside (λ e own f t. d ∙ h.asked j e own f t) (λ e own f c thinks. h.clean j e own f c (sym d ∙ thinks)) h

-- another edge, where it is wanted so too
changed : (plan : LabPlan) (s : State) (e0 : ℕ) (x : EdgeState) → e0 < length s.edges
    → ((k : ℕ) → IsOwn plan k e0 → There plan k e0 x.fork → There plan k e0 x.token → dining s k ≡ Hungry)
    → ((k : ℕ) → IsOwn plan k e0 → Here plan k e0 x.fork → x.dirty ≡ false → dining s k ≢ Thinking) → IsWanted plan s → IsWanted plan (with_edge s e0 x)
changed plan s e0 x inside asked clean h = record {
  asked = λ k e own f t. elim (edge_cases s e0 x inside e) [
    | inl w ↦ asked k (subst (IsOwn plan k) w.0 own) (subst (λ n. There plan k n x.fork) w.0 (subst (λ (y : EdgeState). There plan k e y.fork) w.1 f))
        (subst (λ n. There plan k n x.token) w.0 (subst (λ (y : EdgeState). There plan k e y.token) w.1 t))
    | inr w ↦ h.asked k e own (subst (λ (y : EdgeState). There plan k e y.fork) w.1 f) (subst (λ (y : EdgeState). There plan k e y.token) w.1 t)
  ];
  clean = λ k e own f d. elim (edge_cases s e0 x inside e) [
    | inl w ↦ clean k (subst (IsOwn plan k) w.0 own)
        (subst (λ n. Here plan k n x.fork) w.0 (subst (λ (y : EdgeState). Here plan k e y.fork) w.1 f)) (ap (λ (y : EdgeState). y.dirty) (sym w.1) ∙ d)
    | inr w ↦ h.clean k e own (subst (λ (y : EdgeState). Here plan k e y.fork) w.1 f) (ap (λ (y : EdgeState). y.dirty) (sym w.1) ∙ d)
  ];
}

-- another edge with the same fork, token and dirt
other_edge : (plan : LabPlan) (s : State) (e : ℕ) (x : EdgeState) → e < length s.edges → x.fork ≡ fork s e
    → x.token ≡ token s e → x.dirty ≡ is_dirty s e → IsWanted plan s → IsWanted plan (with_edge s e x)
other_edge plan s e x inside f t d h = changed plan s e x inside
    (λ k own away gone. h.asked k e own (subst (There plan k e) f away) (subst (There plan k e) t gone))
    (λ k own here c. h.clean k e own (subst (Here plan k e) f here) (sym d ∙ c)) h

pub wanted_after : (plan : LabPlan) (s : State) (event : Event) → Fits plan s
    → HasForks plan s → IsWanted plan s → May plan s event → IsWanted plan (after plan s event)
wanted_after plan s (Look j e seen) fit forks h may = other_seat plan s j _ (omega (arith, fit.seats_there, own_is_job plan j e may.0)) refl h
wanted_after plan s (AskFork j e) fit forks h may = changed plan s e _ (omega (arith, may.0.is_edge, fit.edges_there))
    (λ k own f t. elim (cases_eq k j) [
      | inl same ↦ ap (dining s) same ∙ may.1
      | inr other ↦ absurd (t (ap opposite may.3 ∙ across plan j k e may.0 own (λ same. other (sym same))))
    ])
    (λ k own f d. h.clean k e own f d) h
wanted_after plan s (GiveFork j e) fit forks h may =
    let hungry : (k : ℕ) → IsOwn plan k e → k ≢ j → dining s k ≡ Hungry =
    λ k own other. h.asked k e own (not_both plan j k e (fork s e) may.0 own (λ same. other (sym same)) may.2)
    (not_both plan j k e (token s e) may.0 own (λ same. other (sym same)) may.4) in
    other_seat plan (with_edge s e _) j _ (omega (arith, fit.seats_there, own_is_job plan j e may.0)) refl
    (changed plan s e _ (omega (arith, may.0.is_edge, fit.edges_there))
    (λ k own f t. elim (cases_eq k j) [
      | inl same ↦ absurd (t (may.4 ∙ ap (λ n. end_of plan n e) (sym same)))
      | inr other ↦ hungry k own other
    ])
    (λ k own f d thinks. elim (cases_eq k j) [
      | inl same ↦ not_opposite (fork s e) (f ∙ (ap (λ n. end_of plan n e) same ∙ sym may.2))
      | inr other ↦ hungry_thinks (sym (hungry k own other) ∙ thinks)
    ]) h)
  where
    hungry_thinks : Hungry ≡ Thinking → ⊥
    hungry_thinks e = cc
wanted_after plan s (Soil j e) fit forks h may = other_seat plan (with_edge s e _) j _ (omega (arith, fit.seats_there, own_is_job plan j e may.0)) refl
    (changed plan s e _ (omega (arith, may.0.is_edge, fit.edges_there)) (λ k own f t. h.asked k e own f t) (λ k own f d. absurd (false≢true (sym d))) h)
wanted_after plan s (AskBottles j e set) fit forks h may = other_edge plan s e _ (omega (arith, may.0.is_edge, fit.edges_there)) refl refl refl h
wanted_after plan s (GiveBottles j e set) fit forks h may =
    other_seat plan (with_edge s e _) j _ (omega (arith, fit.seats_there, own_is_job plan j e may.0)) refl
    (other_edge plan s e _ (omega (arith, may.0.is_edge, fit.edges_there)) refl refl refl h)
wanted_after plan s (Thirst j) fit forks h may = other_seat plan s j _ (omega (arith, fit.seats_there, may.0)) refl h
wanted_after plan s (Hunger j) fit forks h may = dines plan s j _ (omega (arith, fit.seats_there, may.0)) (λ e own f t. refl) (λ e own f d thinks. cc) h
wanted_after plan s (Sit j) fit forks h may =
    dines plan s j _ (omega (arith, fit.seats_there, may.0)) (λ e own f t. absurd (f (forks.marked j e own (may.2 e own)))) (λ e own f d thinks. cc) h
wanted_after plan s (Leave j) fit forks h may = dines plan s j _ (omega (arith, fit.seats_there, may.0))
    (λ e own f t. absurd (f (forks.eating j e own may.1))) (λ e own f d. absurd (false≢true (sym d ∙ forks.soiled j e own may.1 (may.3 e own)))) h
wanted_after plan s (Drink j) fit forks h may = other_seat plan s j _ (omega (arith, fit.seats_there, may.0)) refl h
wanted_after plan s (Reach j) fit forks h may = other_seat plan s j _ (omega (arith, fit.seats_there, may.0)) refl h
wanted_after plan s (Act j) fit forks h may =
    let acted = other_seat plan s j _ (omega (arith, fit.seats_there, may.0)) refl h in
    record { asked = acted.asked; clean = acted.clean }
wanted_after plan s (Quit j) fit forks h may = other_seat plan s j _ (omega (arith, fit.seats_there, may.0)) refl h
wanted_after plan s (Retire j) fit forks h may = other_seat plan s j _ (omega (arith, fit.seats_there, may.0)) refl h
wanted_after plan s (Glance j other seen) fit forks h may = h
wanted_after plan s (Withdraw j) fit forks h may = other_seat plan s j _ (omega (arith, fit.seats_there, may.0)) refl h

pub wanted_opening : (plan : LabPlan) (s : State) → IsOpening plan s → IsWanted plan s
wanted_opening plan s h = record {
  asked = λ j e own f t. absurd (t (h.token_opposite e own.is_edge
      ∙ (ap opposite (at_opposite (fork s e) (end_of plan j e) f) ∙ opposite_twice (end_of plan j e))));
  clean = λ j e own f d. absurd (false≢true (sym d ∙ h.dirty e own.is_edge));
}

pub wanted_after_all : (plan : LabPlan) (s : State) (events : List Event) → IsSound plan s
    → IsWanted plan s → IsLegalFrom plan s events → IsWanted plan (after_all plan s events)
wanted_after_all plan s [] sound h legal = h
wanted_after_all plan s (event ∷ events) sound h legal =
    wanted_after_all plan (after plan s event) events (sound_after plan s event sound legal.0)
    (wanted_after plan s event sound.fits sound.forks h legal.0) legal.1
