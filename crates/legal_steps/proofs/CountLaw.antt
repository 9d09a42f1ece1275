-- Each session that a job began it has ended, given up, or is in.
use Rattle.std.proofs.Common.{◌≡◌, ◌≢◌, ℕ, ◌+◌, ◌≤◌, cond, List, [], ◌∷◌, sym, ap, subst, ◌∙◌, inl, inr, refl, arith, add-zero, length}
use Rattle.std.proofs.lemmas.Bool.{eq-eqb, ne_eqb, cases_lt}
use Rattle.std.proofs.lemmas.List.{get_or_past}
use Rattle.std.proofs.lemmas.List.Sums.{sum_by-cons}
use Rattle.lab_plan.specs.LabPlan.{LabPlan}
use Rattle.lab_plan.specs.IsPlan.{IsPlan}
use Rattle.legal_steps.specs.declared.phase.Drinking.{Drinking}
use Rattle.legal_steps.specs.declared.phase.Drinking.TheVariants.{Tranquil, Thirsty, Drinking as Drinks, Reaching, Retired}
use Rattle.legal_steps.specs.declared.phase.JobState.{JobState}
use Rattle.legal_steps.specs.declared.event.Event.{Event}
use Rattle.legal_steps.specs.declared.event.Event.TheVariants.{Look, AskFork, GiveFork, Soil, AskBottles, GiveBottles, Thirst, Hunger, Sit, Leave, Drink, Reach, Act, Quit, Retire, Glance, Withdraw}
use Rattle.legal_steps.specs.State.{State, Seat, no_seat, phase, session, drinking, IsInSession}
use Rattle.legal_steps.specs.Fitting.{Fits}
use Rattle.legal_steps.specs.Legal.{May, after}
use Rattle.legal_steps.specs.Run.{IsLegalFrom, after_all, is_quit, is_withdraw, sessions_done_of, withdrawn_of, actor}
use Rattle.legal_steps.specs.Opening.{IsOpening}
use Rattle.legal_steps.proofs.FitsLaw.{fits_after, not_tranquil, not_retired}
use Rattle.legal_steps.proofs.OpeningLemmas.{fits_opening}
use Rattle.legal_steps.proofs.LogBooks.{put-cases}
use Rattle.legal_steps.proofs.LogRun.{opening_phase}
use Rattle.legal_steps.proofs.CountPhases.{phased, phases_after}

-- a job in this phase has ended or given up n sessions
pub record HasDone (x : JobState) (n : ℕ) : Type 0 where
  pub inside : IsInSession x.drinking → n + 1 ≡ x.session
  pub outside : ¬ IsInSession x.drinking → n ≡ x.session

-- how many sessions of the job the event ends or gives up
abbrev pub does : ℕ → Event → ℕ
does j event = cond (is_quit j event) 1 0 + cond (is_withdraw j event) 1 0

-- it stays in a session, or out of all
stays_inside : (x y : JobState) (n : ℕ) → HasDone x n → IsInSession x.drinking → IsInSession y.drinking → y.session ≡ x.session → HasDone y n
stays_inside x y n h before now same = record { inside = λ _. h.inside before ∙ sym same; outside = λ none. absurd (none now) }

-- it goes out of its session
goes_outside : (x y : JobState) (n : ℕ) → HasDone x n → IsInSession x.drinking → ¬ IsInSession y.drinking → y.session ≡ x.session → HasDone y (n + 1)
goes_outside x y n h before now same = record { inside = λ still. absurd (now still); outside = λ _. h.inside before ∙ sym same }

outside_of : (d e : Drinking) → d ≡ e → ¬ IsInSession e → ¬ IsInSession d
outside_of d e same none inside = none (subst IsInSession same inside)

nothing : (x : JobState) (n : ℕ) → HasDone x n → HasDone x (n + 0)
nothing x n h = subst (HasDone x) (sym (add-zero n)) h

-- the event's own job
done_own : (plan : LabPlan) (s : State) (event : Event) (n : ℕ) → May plan s event
    → HasDone (phase s (actor event)) n → HasDone (phased event (phase s (actor event))) (n + does (actor event) event)
done_own plan s (Look j e seen) n may h = nothing _ n h
done_own plan s (AskFork j e) n may h = nothing _ n h
done_own plan s (GiveFork j e) n may h = nothing _ n h
done_own plan s (Soil j e) n may h = nothing _ n h
done_own plan s (AskBottles j e set) n may h = nothing _ n h
done_own plan s (GiveBottles j e set) n may h = nothing _ n h
done_own plan s (Thirst j) n may h = nothing _ n (record {
  inside = λ _. ap (λ k. k + 1) (h.outside (outside_of (drinking s j) Tranquil may.1 not_tranquil));
  outside = λ none. absurd (none (inl refl));
})
done_own plan s (Hunger j) n may h = nothing _ n (record { inside = h.inside; outside = h.outside })
done_own plan s (Sit j) n may h = nothing _ n (record { inside = h.inside; outside = h.outside })
done_own plan s (Leave j) n may h = nothing _ n (record { inside = h.inside; outside = h.outside })
done_own plan s (Drink j) n may h = nothing _ n (stays_inside _ _ n h (inl may.1) (inr (inl refl)) refl)
done_own plan s (Reach j) n may h = nothing _ n (stays_inside _ _ n h (inr (inl may.1)) (inr (inr refl)) refl)
done_own plan s (Act j) n may h = nothing _ n (stays_inside _ _ n h (inr (inr may.1)) (inr (inl refl)) refl)
done_own plan s (Quit j) n may h =
    let one : does j (Quit j) ≡ 1 = ap (λ b. cond b 1 0 + 0) (eq-eqb j j refl) in
    subst (HasDone (phased (Quit j) (phase s j))) (omega (arith, one)) (goes_outside _ _ n h (inr (inl may.1)) not_tranquil refl)
done_own plan s (Retire j) n may h = nothing _ n (record {
  inside = λ still. absurd (not_retired still);
  outside = λ _. h.outside (outside_of (drinking s j) Tranquil may.2 not_tranquil);
})
done_own plan s (Glance j other seen) n may h = nothing _ n h
done_own plan s (Withdraw j) n may h =
    let one : does j (Withdraw j) ≡ 1 = ap (λ b. 0 + cond b 1 0) (eq-eqb j j refl) in
    subst (HasDone (phased (Withdraw j) (phase s j))) (omega (arith, one)) (goes_outside _ _ n h (inl may.1) not_tranquil refl)

-- another job's events
does_none : (j : ℕ) (event : Event) → j ≢ actor event → does j event ≡ 0
does_none j (Quit k) other = ap (λ b. cond b 1 0 + 0) (ne_eqb k j (λ e. other (sym e)))
does_none j (Withdraw k) other = ap (λ b. 0 + cond b 1 0) (ne_eqb k j (λ e. other (sym e)))
does_none j _ other = refl

done_after : (plan : LabPlan) (s : State) (event : Event) (j n : ℕ) → Fits plan s → May plan s event
    → HasDone (phase s j) n → HasDone (phase (after plan s event) j) (n + does j event)
done_after plan s event j n fit may h =
    subst (λ (x : JobState). HasDone x (n + does j event)) (sym (phases_after plan s event fit may j))
    (put-cases (λ k (x : JobState). HasDone (phase s k) n → HasDone x (n + does k event))
    (λ k. phase s k) (actor event) (phased event (phase s (actor event))) j
    (λ here. done_own plan s event n may)
    (λ other before. subst (HasDone (phase s j)) (omega (arith, does_none j event other)) before) h)

done_from : (plan : LabPlan) (s : State) (events : List Event) (j n : ℕ) → Fits plan s → IsLegalFrom plan s events
    → HasDone (phase s j) n → HasDone (phase (after_all plan s events) j) (n + (sessions_done_of j events + withdrawn_of j events))
done_from plan s [] j n fit legal h = nothing (phase s j) n h
done_from plan s (event ∷ events) j n fit legal h =
    let quits = sum_by-cons (λ e. cond (is_quit j e) 1 0) event events in
    let withdraws = sum_by-cons (λ e. cond (is_withdraw j e) 1 0) event events in
    subst (HasDone (phase (after_all plan (after plan s event) events) j)) (omega (arith, quits, withdraws))
    (done_from plan (after plan s event) events j (n + does j event) (fits_after plan s event fit legal.0) legal.1 (done_after plan s event j n fit legal.0 h))

pub sessions_counted : (plan : LabPlan) (opening : State) (events : List Event) (j : ℕ) → IsOpening plan opening
    → IsLegalFrom plan opening events → HasDone (phase (after_all plan opening events) j) (sessions_done_of j events + withdrawn_of j events)
sessions_counted plan opening events j opens legal =
    subst (HasDone (phase (after_all plan opening events) j)) (omega arith)
    (done_from plan opening events j 0 (fits_opening plan opening opens) legal
    (subst (λ (x : JobState). HasDone x 0) (sym (opening_phase plan opening j opens))
    (record { inside = λ still. absurd (not_tranquil still); outside = λ _. refl })))

-- ---- bounds

-- no job has begun more than 1000 sessions
pub sessions_few : (plan : LabPlan) (s : State) (j : ℕ) → IsPlan plan → Fits plan s → session s j ≤ 1000
sessions_few plan s j is_plan fit = elim (cases_lt j (length plan.jobs)) [
  | inl job ↦ omega (arith, (fit.seats_fit j job).phase_within.session_there, is_plan.draft.few_sessions j)
  | inr past ↦
      let none : session s j ≡ 0 = ap (λ (x : Seat). x.phase.session) (get_or_past s.seats j no_seat (omega (arith, past, fit.seats_there))) in
      omega (arith, none)
]

at_most : (d : Drinking) (n begun : ℕ) → (IsInSession d → n + 1 ≡ begun) → (¬ IsInSession d → n ≡ begun) → n ≤ begun
at_most Tranquil n begun inside outside = omega (arith, outside not_tranquil)
at_most Thirsty n begun inside outside = omega (arith, inside (inl refl))
at_most Drinks n begun inside outside = omega (arith, inside (inr (inl refl)))
at_most Reaching n begun inside outside = omega (arith, inside (inr (inr refl)))
at_most Retired n begun inside outside = omega (arith, outside not_retired)

-- a job has ended or given up no more sessions than it began
pub done_bounded : (plan : LabPlan) (opening : State) (events : List Event) (j : ℕ) → IsOpening plan opening → IsLegalFrom plan opening events →
    sessions_done_of j events + withdrawn_of j events ≤ session (after_all plan opening events) j
done_bounded plan opening events j opens legal =
    let h = sessions_counted plan opening events j opens legal in
    at_most (drinking (after_all plan opening events) j) _ _ h.inside h.outside

fits_all : (plan : LabPlan) (s : State) (events : List Event) → Fits plan s → IsLegalFrom plan s events → Fits plan (after_all plan s events)
fits_all plan s [] fit legal = fit
fits_all plan s (event ∷ events) fit legal = fits_all plan (after plan s event) events (fits_after plan s event fit legal.0) legal.1

-- and so at most 1000
pub begun_few : (plan : LabPlan) (opening : State) (events : List Event) (j : ℕ) → IsPlan plan
    → IsOpening plan opening → IsLegalFrom plan opening events → session (after_all plan opening events) j ≤ 1000
begun_few plan opening events j is_plan opens legal =
    sessions_few plan (after_all plan opening events) j is_plan (fits_all plan opening events (fits_opening plan opening opens) legal)

pub done_few : (plan : LabPlan) (opening : State) (events : List Event) (j : ℕ) → IsPlan plan
    → IsOpening plan opening → IsLegalFrom plan opening events → sessions_done_of j events + withdrawn_of j events ≤ 1000
done_few plan opening events j is_plan opens legal =
    omega (arith, done_bounded plan opening events j opens legal, begun_few plan opening events j is_plan opens legal)
