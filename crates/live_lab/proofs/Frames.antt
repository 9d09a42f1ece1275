-- What is done without a word from an owner begins, ends and gives up no session.
use Rattle.std.proofs.Common.{◌≡◌, ◌≢◌, ◌⊎◌, ℕ, zero, suc, ◌+◌, ◌<◌, ◌≤◌, Bool, true, false, if◌then◌else◌, List, [], ◌∷◌, length, refl, sym, ap, ◌∙◌, subst, inl, inr, arith}
use Rattle.std.proofs.lemmas.Bool.{cases_eq, false≢true}
use Rattle.std.proofs.lemmas.List.{get_or_past}
use Rattle.lab_plan.specs.LabPlan.{LabPlan}
use Rattle.lab_plan.specs.InstrumentSets.{holds}
use Rattle.legal_steps.specs.declared.event.Event.{Event}
use Rattle.legal_steps.specs.declared.event.Event.TheVariants.{Look, AskFork, GiveFork, Soil, AskBottles, GiveBottles, Thirst, Hunger, Sit, Leave, Drink, Reach, Act, Quit, Retire, Glance, Withdraw}
use Rattle.legal_steps.specs.declared.phase.JobState.{JobState}
use Rattle.legal_steps.specs.declared.phase.Drinking.TheVariants.{Thirsty, Drinking as Drinks}
use Rattle.legal_steps.specs.State.{State, Seat, no_seat, seat, phase}
use Rattle.legal_steps.specs.Legal.{May, after}
use Rattle.legal_steps.specs.Run.{IsLegalFrom, after_all, actor}
use Rattle.reasons.specs.Deeds.{IsBetween, AreBetween}
use Rattle.turns.specs.Changes.{seat_after}
use Rattle.turns.proofs.Frame.{as_many_seats, own_seat, other_seat}
use Rattle.turns.proofs.Runs.{after_all-append}
use Rattle.live_lab.specs.declared.words.Word.{Word}
use Rattle.live_lab.specs.declared.words.Word.TheVariants.{Begins, GivesUp}
use Rattle.live_lab.specs.Sets.{events_below}
use Rattle.live_lab.specs.Doing.{said}

-- the same session; and the job does as before, or drinks where it was thirsty
abbrev pub Goes : JobState → JobState → Type 0
Goes p q = (q.session ≡ p.session) × ((q.drinking ≡ p.drinking) ⊎ ((p.drinking ≡ Thirsty) × (q.drinking ≡ Drinks)))

pub goes_same : (p q : JobState) → q ≡ p → Goes p q
goes_same p q e = (ap (λ (x : JobState). x.session) e, inl (ap (λ (x : JobState). x.drinking) e))

pub goes_both : (p q r : JobState) → Goes p q → Goes q r → Goes p r
goes_both p q r (s, inl d) (t, inl e) = (t ∙ s, inl (e ∙ d))
goes_both p q r (s, inl d) (t, inr (u, v)) = (t ∙ s, inr (sym d ∙ u, v))
goes_both p q r (s, inr (u, v)) (t, inl e) = (t ∙ s, inr (u, e ∙ v))
goes_both p q r (s, inr (u, v)) (t, inr (w, x)) = (t ∙ s, inr (u, x))

goes_own : (plan : LabPlan) (s : State) (event : Event) → May plan s event → IsBetween event
    → Goes (phase s (actor event)) (seat_after plan (seat s (actor event)) event).phase
goes_own plan s (Look j e seen) may b = (refl, inl refl)
goes_own plan s (AskFork j e) may b = (refl, inl refl)
goes_own plan s (GiveFork j e) may b = (refl, inl refl)
goes_own plan s (Soil j e) may b = (refl, inl refl)
goes_own plan s (AskBottles j e set) may b = (refl, inl refl)
goes_own plan s (GiveBottles j e set) may b = (refl, inl refl)
goes_own plan s (Thirst j) may b = absurd b
goes_own plan s (Hunger j) may b = (refl, inl refl)
goes_own plan s (Sit j) may b = (refl, inl refl)
goes_own plan s (Leave j) may b = (refl, inl refl)
goes_own plan s (Drink j) may b = (refl, inr (may.1, refl))
goes_own plan s (Reach j) may b = absurd b
goes_own plan s (Act j) may b = absurd b
goes_own plan s (Quit j) may b = absurd b
goes_own plan s (Retire j) may b = absurd b
goes_own plan s (Glance j other seen) may b = (refl, inl refl)
goes_own plan s (Withdraw j) may b = absurd b

pub below_or : (a b : ℕ) → (a < b) ⊎ (b ≤ a)
below_or a zero = inr (omega arith)
below_or zero (suc b) = inl (omega arith)
below_or (suc a) (suc b) = elim (below_or a b) [ inl h ↦ inl (omega (arith, h)) | inr h ↦ inr (omega (arith, h)) ]

goes_actor : (plan : LabPlan) (s : State) (event : Event) → May plan s event → IsBetween event
    → Goes (phase s (actor event)) (phase (after plan s event) (actor event))
goes_actor plan s event may b = elim (below_or (actor event) (length s.seats)) [
  | inl there ↦ subst (λ (x : Seat). Goes (phase s (actor event)) x.phase) (sym (own_seat plan s event there)) (goes_own plan s event may b)
  | inr past ↦ goes_same (phase s (actor event)) (phase (after plan s event) (actor event)) (ap (λ (x : Seat). x.phase)
      (get_or_past (after plan s event).seats (actor event) no_seat (omega (arith, past, as_many_seats plan s event))
      ∙ sym (get_or_past s.seats (actor event) no_seat past)))
]

goes_one : (plan : LabPlan) (s : State) (event : Event) (j : ℕ) → May plan s event → IsBetween event → Goes (phase s j) (phase (after plan s event) j)
goes_one plan s event j may b = elim (cases_eq j (actor event)) [
  | inl same ↦ subst (λ k. Goes (phase s k) (phase (after plan s event) k)) (sym same) (goes_actor plan s event may b)
  | inr other ↦ goes_same (phase s j) (phase (after plan s event) j) (ap (λ (x : Seat). x.phase) (other_seat plan s event j other))
]

pub goes_all : (plan : LabPlan) (s : State) (events : List Event) (j : ℕ) → IsLegalFrom plan s events → AreBetween events
    → Goes (phase s j) (phase (after_all plan s events) j)
goes_all plan s [] j legal b = (refl, inl refl)
goes_all plan s (event ∷ events) j legal b =
    goes_both (phase s j) (phase (after plan s event) j) (phase (after_all plan (after plan s event) events) j)
    (goes_one plan s event j legal.0 b.0) (goes_all plan (after plan s event) events j legal.1 b.1)

-- ---- words of owners

said_by : (word : Word) (j : ℕ) → actor (said word j) ≡ j
said_by Begins j = refl
said_by GivesUp j = refl

one_other : (plan : LabPlan) (s : State) (word : Word) (n j : ℕ) (b : Bool) → (b ≡ true → j ≢ n)
    → phase (after_all plan s (if b then said word n ∷ [] else [])) j ≡ phase s j
one_other plan s word n j true other =
    ap (λ (x : Seat). x.phase) (other_seat plan s (said word n) j (λ is. other refl (is ∙ said_by word n)))
one_other plan s word n j false other = refl

-- who says nothing stays as it is
pub others_said : (plan : LabPlan) (s : State) (word : Word) (set n j : ℕ) → (j < n → holds set j ≡ false)
    → phase (after_all plan s (events_below (said word) set n)) j ≡ phase s j
others_said plan s word set zero j out = refl
others_said plan s word set (suc n) j out =
    let before = events_below (said word) set n in
    let now = if holds set n then said word n ∷ [] else [] in
    ap (λ (t : State). phase t j) (after_all-append plan s before now)
    ∙ (one_other plan (after_all plan s before) word n j (holds set n)
    (λ has is. false≢true (sym (out (omega (arith, is))) ∙ subst (λ k. holds set k ≡ true) (sym is) has))
    ∙ others_said plan s word set n j (λ below. out (omega (arith, below))))

-- who begins is thirsty, in its next session
abbrev pub Began : JobState → JobState → Type 0
Began p q = (q.drinking ≡ Thirsty) × (q.session ≡ p.session + 1)

one_began : (plan : LabPlan) (s : State) (n : ℕ) (b : Bool) → b ≡ true → n < length s.seats
    → Began (phase s n) (phase (after_all plan s (if b then Thirst n ∷ [] else [])) n)
one_began plan s n true has there =
    let x = seat s n in
    subst (λ (y : Seat). Began x.phase y.phase) (sym (own_seat plan s (Thirst n) there)) (refl, refl)
one_began plan s n false has there = absurd (false≢true has)

pub seats_below : (plan : LabPlan) (s : State) (events : List Event) → length (after_all plan s events).seats ≡ length s.seats
seats_below plan s [] = refl
seats_below plan s (event ∷ events) = seats_below plan (after plan s event) events ∙ as_many_seats plan s event

pub they_began : (plan : LabPlan) (s : State) (set n j : ℕ) → j < n → holds set j ≡ true → j < length s.seats
    → Began (phase s j) (phase (after_all plan s (events_below (said Begins) set n)) j)
they_began plan s set zero j below has there = absurd (omega (arith, below))
they_began plan s set (suc n) j below has there =
    let before = events_below (said Begins) set n in
    let now = if holds set n then Thirst n ∷ [] else [] in
    let mid = after_all plan s before in
    subst (λ (t : State). Began (phase s j) (phase t j)) (sym (after_all-append plan s before now)) (elim (cases_eq j n) [
      | inl same ↦
          let still : phase mid n ≡ phase s n = others_said plan s Begins set n n (λ l. absurd (omega (arith, l))) in
          let began = one_began plan mid n (holds set n) (subst (λ k. holds set k ≡ true) same has)
          (omega (arith, seats_below plan s before, there, same)) in
          subst (λ k. Began (phase s k) (phase (after_all plan mid now) k)) (sym same)
          (subst (λ (p : JobState). Began p (phase (after_all plan mid now) n)) still began)
      | inr other ↦
          let still = one_other plan mid Begins n j (holds set n) (λ h is. other is) in
          subst (Began (phase s j)) (sym still) (they_began plan s set n j (omega (arith, below, other)) has there)
    ])
