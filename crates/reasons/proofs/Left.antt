-- How many deeds are left in a state, and that each deed leaves one less.
use Rattle.std.proofs.Common.{◌≡◌, ◌≢◌, ℕ, ◌+◌, ◌<◌, ◌≤◌, ◌&&◌, length, Bool, true, false, arith, refl, sym, subst, ap, ◌∙◌, inl, inr}
use Rattle.std.proofs.lemmas.Bool.{cases_eq, false≢true}
use Rattle.lab_plan.specs.LabPlan.{LabPlan, edges, ends, bottles, session_names}
use Rattle.legal_steps.specs.declared.phase.Drinking.{Drinking}
use Rattle.legal_steps.specs.declared.phase.Drinking.TheVariants.{Tranquil, Thirsty, Drinking as Drinks, Reaching, Retired}
use Rattle.legal_steps.specs.declared.phase.JobState.{JobState}
use Rattle.legal_steps.specs.declared.edge_state.EdgeState.{EdgeState}
use Rattle.legal_steps.specs.State.{State, Seat, edge, phase, dining, drinking, IsInSession, bottle_end}
use Rattle.legal_steps.specs.Legal.{Needs, with_seat, instrument_of}
use Rattle.legal_steps.proofs.FitsWrites.{seat_cases}
use Rattle.reasons.specs.Deeds.{sum_below}
use Rattle.reasons.proofs.Sums.{sum_less, sum_lower}
use Rattle.reasons.proofs.Measures.{one_if, acts_left, soils_left, bottle_left, forks_left, bottle_less, forks_less}

abbrev pub is_thirsty : Drinking → Bool
is_thirsty Thirsty = true
is_thirsty Tranquil = false
is_thirsty Drinks = false
is_thirsty Reaching = false
is_thirsty Retired = false

abbrev pub in_session : Drinking → Bool
in_session Thirsty = true
in_session Drinks = true
in_session Reaching = true
in_session Tranquil = false
in_session Retired = false

pub is_in_session : (d : Drinking) → in_session d ≡ true → IsInSession d
is_in_session Thirsty h = inl refl
is_in_session Drinks h = inr (inl refl)
is_in_session Reaching h = inr (inr refl)
is_in_session Tranquil h = absurd (cc)
is_in_session Retired h = absurd (cc)

pub in_session_is : (d : Drinking) → IsInSession d → in_session d ≡ true
in_session_is d h = elim h [
  | inl is ↦ ap in_session is
  | inr other ↦ elim other [ inl is ↦ ap in_session is | inr is ↦ ap in_session is ]
]

-- a job that is so far needs the instrument
abbrev pub need : LabPlan → ℕ → JobState → ℕ → Bool
need plan j p i = in_session p.drinking && session_names plan j p.session i

both : (a b : Bool) → (a && b) ≡ true → (a ≡ true) × (b ≡ true)
both true b h = (refl, h)
both false b h = absurd (false≢true h)

pub need_is : (plan : LabPlan) (s : State) (j i : ℕ) → need plan j (phase s j) i ≡ true → Needs plan s j i
need_is plan s j i h =
    let w = both (in_session (drinking s j)) (session_names plan j (phase s j).session i) h in
    record { in_session = is_in_session (drinking s j) w.0; named = w.1 }

pub is_need : (plan : LabPlan) (s : State) (j i : ℕ) → Needs plan s j i → need plan j (phase s j) i ≡ true
is_need plan s j i h = ap (λ b. b && session_names plan j (phase s j).session i) (in_session_is (drinking s j) h.in_session) ∙ h.named

-- ---- on one edge

abbrev pub soils_of : JobState → Bool → ℕ
soils_of p dirty = soils_left p.dining (is_thirsty p.drinking) dirty

-- the soils that are left to its two jobs
abbrev pub soils_at : JobState → JobState → EdgeState → ℕ
soils_at low high x = soils_of low x.dirty + soils_of high x.dirty

-- and how often the fork may yet be given
abbrev pub gives_at : JobState → JobState → EdgeState → ℕ
gives_at low high x = soils_at low high x + one_if x.dirty

abbrev pub fork_part : JobState → JobState → EdgeState → ℕ
fork_part low high x = forks_left (soils_at low high x) x.dirty x.fork x.token

abbrev pub bottle_part : LabPlan → ℕ → JobState → JobState → EdgeState → ℕ → ℕ
bottle_part plan e low high x k =
    bottle_left (need plan (ends plan e).0 low (instrument_of plan e k)) (need plan (ends plan e).1 high (instrument_of plan e k))
    (gives_at low high x) x.fork (bottle_end x.bottles k) (bottle_end x.bottle_tokens k)

-- what is left on an edge whose jobs are so far
abbrev pub left_on : LabPlan → ℕ → JobState → JobState → EdgeState → ℕ
left_on plan e low high x = fork_part low high x + sum_below (bottle_part plan e low high x) (length (bottles plan e))

-- what is left in a state
abbrev pub left_at : LabPlan → State → ℕ → ℕ
left_at plan s e = left_on plan e (phase s (ends plan e).0) (phase s (ends plan e).1) (edge s e)

abbrev pub left_for : State → ℕ → ℕ
left_for s j = acts_left (dining s j) (is_thirsty (drinking s j))

abbrev pub deeds_left : LabPlan → State → ℕ
deeds_left plan s = sum_below (left_for s) (length plan.jobs) + sum_below (left_at plan s) (length (edges plan))

-- ---- an act of a job

-- what a job's act leaves: it needs the same, and soils no fork more often
pub record IsFurther (p p' : JobState) : Type 0 where
  pub needs : in_session p'.drinking ≡ in_session p.drinking
  pub session : p'.session ≡ p.session
  pub soils : (dirty : Bool) → soils_of p' dirty ≤ soils_of p dirty

same_further : (p : JobState) → IsFurther p p
same_further p = record { needs = refl; session = refl; soils = λ dirty. omega arith }

need_same : (plan : LabPlan) (j i : ℕ) (p p' : JobState) → IsFurther p p' → need plan j p' i ≡ need plan j p i
need_same plan j i p p' h = rw h.needs (rw h.session refl)

further_on : (plan : LabPlan) (e : ℕ) (low high low' high' : JobState) (x : EdgeState) → IsFurther low low' → IsFurther high high'
    → left_on plan e low' high' x ≤ left_on plan e low high x
further_on plan e low high low' high' x l h =
    let soils : soils_at low' high' x ≤ soils_at low high x = omega (arith, l.soils x.dirty, h.soils x.dirty) in
    let gives : gives_at low' high' x ≤ gives_at low high x = omega (arith, soils) in
    omega (
      arith,
      forks_less (soils_at low high x) (soils_at low' high' x) x.dirty x.fork x.token soils,
      sum_less (bottle_part plan e low' high' x) (bottle_part plan e low high x) (length (bottles plan e)) (λ k inside.
          rw (need_same plan (ends plan e).0 (instrument_of plan e k) low low' l)
          (rw (need_same plan (ends plan e).1 (instrument_of plan e k) high high' h)
          (bottle_less (need plan (ends plan e).0 low (instrument_of plan e k)) (need plan (ends plan e).1 high (instrument_of plan e k))
          (gives_at low high x) (gives_at low' high' x) x.fork (bottle_end x.bottles k) (bottle_end x.bottle_tokens k) gives))),
    )

pub act_leaves : (plan : LabPlan) (s : State) (j : ℕ) (x : Seat) → j < length plan.jobs → j < length s.seats → IsFurther (phase s j) x.phase
    → acts_left x.phase.dining (is_thirsty x.phase.drinking) + 1 ≤ left_for s j → deeds_left plan (with_seat s j x) + 1 ≤ deeds_left plan s
act_leaves plan s j x job inside further less =
    let t = with_seat s j x in
    let each : (k : ℕ) → IsFurther (phase s k) (phase t k) =
    λ k. elim (seat_cases s j x inside k) [
      | inl w ↦ subst (λ (y : Seat). IsFurther (phase s k) y.phase) (sym w.1) (subst (λ n. IsFurther (phase s n) x.phase) (sym w.0) further)
      | inr w ↦ subst (λ (y : Seat). IsFurther (phase s k) y.phase) (sym w.1) (same_further (phase s k))
    ] in
    let own : left_for t j + 1 ≤ left_for s j =
    elim (seat_cases s j x inside j) [
      | inl w ↦ subst (λ (y : Seat). acts_left y.phase.dining (is_thirsty y.phase.drinking) + 1 ≤ left_for s j) (sym w.1) less
      | inr w ↦ absurd (w.0 refl)
    ] in
    let acts = sum_lower (left_for t) (left_for s) (length plan.jobs) j job
    (λ k small. elim (seat_cases s j x inside k) [
      | inl w ↦ subst (λ n. left_for t n ≤ left_for s n) (sym w.0) (omega (arith, own))
      | inr w ↦ subst (λ (y : Seat). acts_left y.phase.dining (is_thirsty y.phase.drinking) ≤ left_for s k) (sym w.1) (omega arith)
    ]) own in
    let there = sum_less (left_at plan t) (left_at plan s) (length (edges plan))
    (λ e small. further_on plan e (phase s (ends plan e).0) (phase s (ends plan e).1) (phase t (ends plan e).0) (phase t (ends plan e).1) (edge s e)
    (each (ends plan e).0) (each (ends plan e).1)) in
    omega (arith, acts, there)

-- ---- an exchange on an edge

-- the state is t after it: all jobs are as far, and all other edges as they were
pub record IsChangedAt (s t : State) (e : ℕ) : Type 0 where
  pub phases : (j : ℕ) → phase t j ≡ phase s j
  pub others : (f : ℕ) → f ≢ e → edge t f ≡ edge s f

same_acts : (plan : LabPlan) (s t : State) → ((j : ℕ) → phase t j ≡ phase s j)
    → sum_below (left_for t) (length plan.jobs) ≤ sum_below (left_for s) (length plan.jobs)
same_acts plan s t same =
    sum_less (left_for t) (left_for s) (length plan.jobs)
    (λ j small. subst (λ (p : JobState). acts_left p.dining (is_thirsty p.drinking) ≤ left_for s j) (sym (same j)) (omega arith))

same_left : (plan : LabPlan) (s t : State) (f : ℕ) → ((j : ℕ) → phase t j ≡ phase s j) → edge t f ≡ edge s f → left_at plan t f ≡ left_at plan s f
same_left plan s t f same there = rw there (rw (same (ends plan f).0) (rw (same (ends plan f).1) refl))

pub exchange_leaves : (plan : LabPlan) (s t : State) (e : ℕ) → e < length (edges plan) → IsChangedAt s t e
    → left_on plan e (phase s (ends plan e).0) (phase s (ends plan e).1) (edge t e) + 1 ≤ left_at plan s e → deeds_left plan t + 1 ≤ deeds_left plan s
exchange_leaves plan s t e inside h less =
    let own : left_at plan t e + 1 ≤ left_at plan s e = rw (h.phases (ends plan e).0) (rw (h.phases (ends plan e).1) less) in
    omega (
      arith,
      same_acts plan s t h.phases,
      sum_lower (left_at plan t) (left_at plan s) (length (edges plan)) e inside
          (λ f small. elim (cases_eq f e) [
            | inl same ↦ subst (λ n. left_at plan t n ≤ left_at plan s n) (sym same) (omega (arith, own))
            | inr other ↦ rw (same_left plan s t f h.phases (h.others f other)) (omega arith)
          ]) own,
    )

-- nothing but marks changes
pub marks_leave : (plan : LabPlan) (s t : State) → ((j : ℕ) → phase t j ≡ phase s j) → ((f : ℕ) → edge t f ≡ edge s f) → deeds_left plan t ≤ deeds_left plan s
marks_leave plan s t same there =
    omega (
      arith,
      same_acts plan s t same,
      sum_less (left_at plan t) (left_at plan s) (length (edges plan))
          (λ f small. rw (same_left plan s t f same (there f)) (omega arith)),
    )
