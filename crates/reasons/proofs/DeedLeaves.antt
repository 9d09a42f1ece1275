-- Each deed leaves one less.
use Rattle.std.proofs.Common.{◌≡◌, ◌≢◌, ◌⊎◌, ℕ, ◌+◌, ◌<◌, ◌≤◌, length, Bool, true, false, bit_xor, arith, refl, sym, subst, ap, ◌∙◌, inl, inr}
use Rattle.lab_plan.specs.LabPlan.{LabPlan, edges, ends, bottles}
use Rattle.lab_plan.proofs.Bits.{bit_cases}
use Rattle.legal_steps.specs.declared.end.End.{End}
use Rattle.legal_steps.specs.declared.end.End.TheVariants.{Lower, Higher}
use Rattle.legal_steps.specs.declared.phase.Dining.{Dining}
use Rattle.legal_steps.specs.declared.phase.Dining.TheVariants.{Thinking, Hungry, Eating}
use Rattle.legal_steps.specs.declared.phase.Drinking.{Drinking}
use Rattle.legal_steps.specs.declared.phase.Drinking.TheVariants.{Tranquil, Thirsty, Drinking as Drinks, Reaching, Retired}
use Rattle.legal_steps.specs.declared.phase.JobState.{JobState}
use Rattle.legal_steps.specs.declared.edge_state.EdgeState.{EdgeState}
use Rattle.legal_steps.specs.declared.event.Event.{Event}
use Rattle.legal_steps.specs.declared.event.Event.TheVariants.{Look, AskFork, GiveFork, Soil, AskBottles, GiveBottles, Thirst, Hunger, Sit, Leave, Drink, Reach, Act, Quit, Retire, Glance, Withdraw}
use Rattle.legal_steps.specs.State.{State, Seat, Has, edge, phase, dining, drinking, IsOwn, end_of, opposite, job_at_end, bottle_end}
use Rattle.legal_steps.specs.Legal.{May, after, IsBottleSet, MayAskBottle, MayGiveBottle, with_edge, with_seat, instrument_of, fork_asked, fork_given, fork_soiled, bottles_asked, bottles_given}
use Rattle.legal_steps.specs.Fitting.{Fits}
use Rattle.legal_steps.proofs.FitsWrites.{seat_cases, edge_same, edge_other}
use Rattle.legal_steps.proofs.FitsLaw.{own_is_job}
use Rattle.legal_steps.proofs.ForkEnds.{at_own, own_at, one_at_end}
use Rattle.legal_steps.proofs.ForkLaw.{HasForks}
use Rattle.legal_steps.proofs.BottleSets.{bottle_end_flips, bottle_end_stays, some_bottle}
use Rattle.overtaking.proofs.EdgeEnds.{at_opposite}
use Rattle.reasons.specs.Deeds.{IsBetween, is_deed, sum_below}
use Rattle.reasons.proofs.Sums.{sum_less, sum_lower}
use Rattle.reasons.proofs.Measures.{one_if, acts_left, soils_left, few_soils, soiled_less, soils_same, pick, bottle_less, bottle_moved, bottle_given, bottle_asked, fork_asked_one, fork_given_one, soiled_one}
use Rattle.reasons.proofs.Left.{is_thirsty, in_session, need, need_is, is_need, soils_of, soils_at, gives_at, fork_part, bottle_part, left_on, left_at, deeds_left, act_leaves, exchange_leaves, marks_leave}

-- ---- numbers

plus_less : (a less b : ℕ) → less + 1 ≤ a → (less + b) + 1 ≤ a + b
plus_less a less b h = omega (arith, h)

both_less : (a less b c : ℕ) → less + 1 ≤ a → c ≤ b → (less + c) + 1 ≤ a + b
both_less a less b c h k = omega (arith, h, k)

less_plus : (a b less : ℕ) → less + 1 ≤ b → (a + less) + 1 ≤ a + b
less_plus a b less h = omega (arith, h)

hunger_soils : (d : Dining) (t b : Bool) → d ≡ Thinking → t ≡ true → soils_left Hungry t b ≤ soils_left d t b
hunger_soils d t b is thirsty = rw is (rw thirsty (omega arith))

hunger_acts : (d : Dining) (t : Bool) → d ≡ Thinking → t ≡ true → acts_left Hungry t + 1 ≤ acts_left d t
hunger_acts d t is thirsty = rw is (rw thirsty (omega arith))

sit_soils : (d : Dining) (t b : Bool) → d ≡ Hungry → soils_left Eating t b ≤ soils_left d t b
sit_soils d t b is = rw is (few_soils Eating t b)

sit_acts : (d : Dining) (t : Bool) → d ≡ Hungry → acts_left Eating t + 1 ≤ acts_left d t
sit_acts d true is = rw is (omega arith)
sit_acts d false is = rw is (omega arith)

leave_soils : (d : Dining) (t b : Bool) → t ≡ false → soils_left Thinking t b ≤ soils_left d t b
leave_soils d t b dry = rw dry (omega arith)

leave_acts : (d : Dining) (t : Bool) → d ≡ Eating → t ≡ false → acts_left Thinking t + 1 ≤ acts_left d t
leave_acts d t is dry = rw is (rw dry (omega arith))

drink_soils : (d : Dining) (t b : Bool) → t ≡ true → soils_left d false b ≤ soils_left d t b
drink_soils Thinking t b thirsty = omega arith
drink_soils Hungry t b thirsty = omega arith
drink_soils Eating t true thirsty = omega arith
drink_soils Eating t false thirsty = omega arith

drink_acts : (d : Dining) (t : Bool) → t ≡ true → acts_left d false + 1 ≤ acts_left d t
drink_acts Thinking t thirsty = rw thirsty (omega arith)
drink_acts Hungry t thirsty = rw thirsty (omega arith)
drink_acts Eating t thirsty = rw thirsty (omega arith)

not_thirsty : (d : Drinking) → d ≢ Thirsty → is_thirsty d ≡ false
not_thirsty Thirsty other = absurd (other refl)
not_thirsty Tranquil other = refl
not_thirsty Drinks other = refl
not_thirsty Reaching other = refl
not_thirsty Retired other = refl

eater_soils : (d : Dining) (t : Bool) → d ≡ Eating → soils_left d t true + 1 ≤ soils_left d t false
eater_soils d t is = rw is (omega arith)

-- ---- one edge

module _ (plan : LabPlan) (e : ℕ) (low high : JobState) (x : EdgeState) where
  abbrev bottles_left : EdgeState → ℕ
  bottles_left y = sum_below (bottle_part plan e low high y) (length (bottles plan e))

  ask_on : (z : End) → x.fork ≢ z → x.token ≡ z → left_on plan e low high (fork_asked x) + 1 ≤ left_on plan e low high x
  ask_on z there token =
      plus_less (fork_part low high x) (fork_part low high (fork_asked x)) (bottles_left x)
      (fork_asked_one (soils_at low high x) x.dirty z x.fork x.token there token)

  give_on : (z : End) → low.dining ≢ Eating → high.dining ≢ Eating → x.dirty ≡ true → x.fork ≡ z → x.token ≡ z
      → left_on plan e low high (fork_given x) + 1 ≤ left_on plan e low high x
  give_on z l h is here token =
      let same : (d : Bool) → d ≡ true → soils_of low false + soils_of high false ≤ soils_of low d + soils_of high d =
      λ d dirty. rw dirty (rw (soils_same low.dining (is_thirsty low.drinking) l) (rw (soils_same high.dining (is_thirsty high.drinking) h) (omega arith))) in
      let soils = same x.dirty is in
      let less : (d : Bool) → d ≡ true → soils_of low false + soils_of high false + 0 + 1 ≤ soils_of low d + soils_of high d + one_if d =
      λ d dirty. let before = same d dirty in rw dirty (let now = subst (λ b. soils_of low false + soils_of high false ≤ soils_of low b + soils_of high b) dirty before in omega (arith, now)) in
      both_less (fork_part low high x) (fork_part low high (fork_given x)) (bottles_left x) (bottles_left (fork_given x))
      (fork_given_one (soils_at low high x) (soils_at low high (fork_given x)) x.dirty z x.fork x.token soils is here token)
      (sum_less (bottle_part plan e low high (fork_given x)) (bottle_part plan e low high x) (length (bottles plan e)) (λ k inside.
      bottle_moved (need plan (ends plan e).0 low (instrument_of plan e k)) (need plan (ends plan e).1 high (instrument_of plan e k))
      (gives_at low high x) (gives_at low high (fork_given x)) x.fork (bottle_end x.bottles k) (bottle_end x.bottle_tokens k) (less x.dirty is)))

  soil_on : (low.dining ≡ Eating) ⊎ (high.dining ≡ Eating) → x.dirty ≡ false → left_on plan e low high (fork_soiled x) + 1 ≤ left_on plan e low high x
  soil_on eats clean =
      let fewer : soils_of low true + soils_of high true + 1 ≤ soils_of low false + soils_of high false =
      elim eats [
        | inl l ↦ omega (arith, eater_soils low.dining (is_thirsty low.drinking) l, soiled_less high.dining (is_thirsty high.drinking))
        | inr h ↦ omega (arith, eater_soils high.dining (is_thirsty high.drinking) h, soiled_less low.dining (is_thirsty low.drinking))
      ] in
      let soils : soils_at low high (fork_soiled x) + 1 ≤ soils_at low high x =
      subst (λ d. soils_of low true + soils_of high true + 1 ≤ soils_of low d + soils_of high d) (sym clean) fewer in
      both_less (fork_part low high x) (fork_part low high (fork_soiled x)) (bottles_left x) (bottles_left (fork_soiled x))
      (soiled_one (soils_at low high x) (soils_at low high (fork_soiled x)) x.dirty x.fork x.token soils clean)
      (sum_less (bottle_part plan e low high (fork_soiled x)) (bottle_part plan e low high x) (length (bottles plan e)) (λ k inside.
      bottle_less (need plan (ends plan e).0 low (instrument_of plan e k)) (need plan (ends plan e).1 high (instrument_of plan e k))
      (gives_at low high x) (gives_at low high (fork_soiled x)) x.fork (bottle_end x.bottles k) (bottle_end x.bottle_tokens k)
      (omega (arith, soils))))

  -- what the job at an end needs
  abbrev needs_at : End → ℕ → Bool
  needs_at z k = pick z (need plan (ends plan e).0 low (instrument_of plan e k)) (need plan (ends plan e).1 high (instrument_of plan e k))

  ask_bottles_on : (z : End) (set : ℕ) → IsBottleSet plan e set
      → ((k : ℕ) → Has set k → (bottle_end x.bottles k ≡ opposite z) × (bottle_end x.bottle_tokens k ≡ z) × (needs_at z k ≡ true))
      → left_on plan e low high (bottles_asked set x) + 1 ≤ left_on plan e low high x
  unfolding Has
  ask_bottles_on z set members each =
      let (some, small, has) = some_bottle plan e set members in
      let one : (k : ℕ) → Has set k → bottle_part plan e low high (bottles_asked set x) k + 1 ≤ bottle_part plan e low high x k =
      λ k in_set. let w = each k in_set in
      bottle_asked (need plan (ends plan e).0 low (instrument_of plan e k)) (need plan (ends plan e).1 high (instrument_of plan e k))
      (gives_at low high x) x.fork z (bottle_end x.bottles k) (bottle_end x.bottle_tokens k) (bottle_end (bit_xor x.bottle_tokens set) k)
      w.0 w.1 (bottle_end_flips x.bottle_tokens set k in_set) w.2 in
      less_plus (fork_part low high x) (bottles_left x) (bottles_left (bottles_asked set x))
      (sum_lower (bottle_part plan e low high (bottles_asked set x)) (bottle_part plan e low high x) (length (bottles plan e)) some small (λ k inside.
      elim (bit_cases set k) [
        | inr in_set ↦ omega (arith, one k in_set)
        | inl none ↦ rw (bottle_end_stays x.bottle_tokens set k (λ h. omega (arith, h, none))) (omega arith)
      ]) (one some has))

  give_bottles_on : (z : End) (set : ℕ) → IsBottleSet plan e set
      → ((k : ℕ) → Has set k → (bottle_end x.bottles k ≡ z) × (bottle_end x.bottle_tokens k ≡ z) × (needs_at z k ≡ true → x.fork ≡ z → ⊥))
      → left_on plan e low high (bottles_given set x) + 1 ≤ left_on plan e low high x
  unfolding Has
  give_bottles_on z set members each =
      let (some, small, has) = some_bottle plan e set members in
      let one : (k : ℕ) → Has set k → bottle_part plan e low high (bottles_given set x) k + 1 ≤ bottle_part plan e low high x k =
      λ k in_set. let w = each k in_set in
      bottle_given (need plan (ends plan e).0 low (instrument_of plan e k)) (need plan (ends plan e).1 high (instrument_of plan e k))
      (gives_at low high x) x.fork z (bottle_end x.bottles k) (bottle_end x.bottle_tokens k) (bottle_end (bit_xor x.bottles set) k)
      w.0 w.1 (bottle_end_flips x.bottles set k in_set) w.2 in
      less_plus (fork_part low high x) (bottles_left x) (bottles_left (bottles_given set x))
      (sum_lower (bottle_part plan e low high (bottles_given set x)) (bottle_part plan e low high x) (length (bottles plan e)) some small (λ k inside.
      elim (bit_cases set k) [
        | inr in_set ↦ omega (arith, one k in_set)
        | inl none ↦ rw (bottle_end_stays x.bottles set k (λ h. omega (arith, h, none))) (omega arith)
      ]) (one some has))

-- ---- in a state

-- what the job at its own end of an edge needs
own_needs : (plan : LabPlan) (s : State) (j e k : ℕ) (z : End) → job_at_end plan e z ≡ j
    → needs_at plan e (phase s (ends plan e).0) (phase s (ends plan e).1) (edge s e) z k ≡ need plan j (phase s j) (instrument_of plan e k)
own_needs plan s j e k Lower is = subst (λ n. need plan (ends plan e).0 (phase s (ends plan e).0) (instrument_of plan e k) ≡ need plan n (phase s n) (instrument_of plan e k)) is refl
own_needs plan s j e k Higher is = subst (λ n. need plan (ends plan e).1 (phase s (ends plan e).1) (instrument_of plan e k) ≡ need plan n (phase s n) (instrument_of plan e k)) is refl

-- an edge alone changes
edge_leaves : (plan : LabPlan) (s : State) (e : ℕ) (x : EdgeState) → Fits plan s → e < length (edges plan)
    → left_on plan e (phase s (ends plan e).0) (phase s (ends plan e).1) x + 1 ≤ left_at plan s e → deeds_left plan (with_edge s e x) + 1 ≤ deeds_left plan s
edge_leaves plan s e x fit inside less =
    exchange_leaves plan s (with_edge s e x) e inside (record { phases = λ j. refl; others = λ f other. edge_other s e x f other })
    (subst (λ y. left_on plan e (phase s (ends plan e).0) (phase s (ends plan e).1) y + 1 ≤ left_at plan s e)
    (sym (edge_same s e x (omega (arith, inside, fit.edges_there)))) less)

-- and marks
marked_phase : (s : State) (j : ℕ) (x : Seat) → j < length s.seats → x.phase ≡ phase s j → (k : ℕ) → phase (with_seat s j x) k ≡ phase s k
marked_phase s j x inside same k = elim (seat_cases s j x inside k) [
  | inl w ↦ ap (λ (y : Seat). y.phase) w.1 ∙ (same ∙ ap (phase s) (sym w.0))
  | inr w ↦ ap (λ (y : Seat). y.phase) w.1
]

edge_and_marks_leave : (plan : LabPlan) (s : State) (e : ℕ) (x : EdgeState) (j : ℕ) (y : Seat) → Fits plan s → e < length (edges plan) → j < length s.seats
    → y.phase ≡ phase s j → left_on plan e (phase s (ends plan e).0) (phase s (ends plan e).1) x + 1 ≤ left_at plan s e
    → deeds_left plan (with_seat (with_edge s e x) j y) + 1 ≤ deeds_left plan s
edge_and_marks_leave plan s e x j y fit inside there same less =
    exchange_leaves plan s (with_seat (with_edge s e x) j y) e inside
    (record { phases = marked_phase (with_edge s e x) j y there same; others = λ f other. edge_other s e x f other })
    (subst (λ w. left_on plan e (phase s (ends plan e).0) (phase s (ends plan e).1) w + 1 ≤ left_at plan s e)
    (sym (edge_same s e x (omega (arith, inside, fit.edges_there)))) less)

pub deed_leaves : (plan : LabPlan) (s : State) (event : Event) → Fits plan s → HasForks plan s → May plan s event → IsBetween event
    → deeds_left plan (after plan s event) + one_if (is_deed event) ≤ deeds_left plan s
deed_leaves plan s (Look j e seen) fit forks may between =
    omega (
      arith,
      marks_leave plan s (after plan s (Look j e seen))
          (marked_phase s j _ (omega (arith, fit.seats_there, own_is_job plan j e may.0)) refl) (λ f. refl),
    )
deed_leaves plan s (Glance j other seen) fit forks may between = omega arith
deed_leaves plan s (AskFork j e) fit forks may between =
    edge_leaves plan s e _ fit may.0.is_edge (ask_on plan e (phase s (ends plan e).0) (phase s (ends plan e).1) (edge s e) (end_of plan j e) may.2 may.3)
deed_leaves plan s (GiveFork j e) fit forks may between =
    let idle : (k : ℕ) → IsOwn plan k e → dining s k ≢ Eating =
    λ k own eats. may.1 (ap (dining s) (one_at_end plan j k e may.0 own (sym may.2 ∙ forks.eating k e own eats)) ∙ eats) in
    edge_and_marks_leave plan s e _ j _ fit may.0.is_edge (omega (arith, fit.seats_there, own_is_job plan j e may.0)) refl
    (give_on plan e (phase s (ends plan e).0) (phase s (ends plan e).1) (edge s e) (end_of plan j e) (idle (ends plan e).0 (own_at plan e Lower may.0.is_edge))
    (idle (ends plan e).1 (own_at plan e Higher may.0.is_edge)) may.3 may.2 may.4)
deed_leaves plan s (Soil j e) fit forks may between =
    let eats : (dining s (ends plan e).0 ≡ Eating) ⊎ (dining s (ends plan e).1 ≡ Eating) =
    elim may.0.at_end [ inl low ↦ inl (ap (dining s) low ∙ may.1) | inr high ↦ inr (ap (dining s) high ∙ may.1) ] in
    edge_and_marks_leave plan s e _ j _ fit may.0.is_edge (omega (arith, fit.seats_there, own_is_job plan j e may.0)) refl
    (soil_on plan e (phase s (ends plan e).0) (phase s (ends plan e).1) (edge s e) eats may.3)
deed_leaves plan s (AskBottles j e set) fit forks may between =
    edge_leaves plan s e _ fit may.0.is_edge (ask_bottles_on plan e (phase s (ends plan e).0) (phase s (ends plan e).1) (edge s e) (end_of plan j e) set may.2 (λ k has.
    let m : MayAskBottle plan s j e k = may.3 k has in (
      at_opposite (bottle_end (edge s e).bottles k) (end_of plan j e) m.bottle_there,
      m.token_here,
      own_needs plan s j e k (end_of plan j e) (at_own plan j e may.0) ∙ is_need plan s j (instrument_of plan e k) m.needed,
    )))
deed_leaves plan s (GiveBottles j e set) fit forks may between =
    edge_and_marks_leave plan s e _ j _ fit may.0.is_edge (omega (arith, fit.seats_there, own_is_job plan j e may.0)) refl
    (give_bottles_on plan e (phase s (ends plan e).0) (phase s (ends plan e).1) (edge s e) (end_of plan j e) set may.1 (λ k has.
    let m : MayGiveBottle plan s j e k = may.2 k has in (
      m.bottle_here,
      m.token_here,
      λ needs here. m.not_kept
          (need_is plan s j (instrument_of plan e k) (sym (own_needs plan s j e k (end_of plan j e) (at_own plan j e may.0)) ∙ needs), inr here),
    )))
deed_leaves plan s (Hunger j) fit forks may between =
    act_leaves plan s j _ may.0 (omega (arith, fit.seats_there, may.0))
    (record { needs = refl; session = refl; soils = λ b. hunger_soils (dining s j) (is_thirsty (drinking s j)) b may.1 (ap is_thirsty may.2) })
    (hunger_acts (dining s j) (is_thirsty (drinking s j)) may.1 (ap is_thirsty may.2))
deed_leaves plan s (Sit j) fit forks may between =
    act_leaves plan s j _ may.0 (omega (arith, fit.seats_there, may.0))
    (record { needs = refl; session = refl; soils = λ b. sit_soils (dining s j) (is_thirsty (drinking s j)) b may.1 })
    (sit_acts (dining s j) (is_thirsty (drinking s j)) may.1)
deed_leaves plan s (Leave j) fit forks may between =
    let dry = not_thirsty (drinking s j) may.2 in
    act_leaves plan s j _ may.0 (omega (arith, fit.seats_there, may.0))
    (record { needs = refl; session = refl; soils = λ b. leave_soils (dining s j) (is_thirsty (drinking s j)) b dry })
    (leave_acts (dining s j) (is_thirsty (drinking s j)) may.1 dry)
deed_leaves plan s (Drink j) fit forks may between =
    act_leaves plan s j _ may.0 (omega (arith, fit.seats_there, may.0))
    (record { needs = sym (ap in_session may.1); session = refl; soils = λ b. drink_soils (dining s j) (is_thirsty (drinking s j)) b (ap is_thirsty may.1) })
    (drink_acts (dining s j) (is_thirsty (drinking s j)) (ap is_thirsty may.1))
deed_leaves plan s (Thirst j) fit forks may between = absurd between
deed_leaves plan s (Reach j) fit forks may between = absurd between
deed_leaves plan s (Act j) fit forks may between = absurd between
deed_leaves plan s (Quit j) fit forks may between = absurd between
deed_leaves plan s (Retire j) fit forks may between = absurd between
deed_leaves plan s (Withdraw j) fit forks may between = absurd between
