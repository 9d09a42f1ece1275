-- Counts of all sessions of a job are together those of the whole run.
use Rattle.std.proofs.Common.{◌≡◌, ℕ, zero, suc, ◌+◌, ◌-◌, ◌==◌, ◌<◌, ◌≤◌, Bool, true, false, ◌&&◌, List, length, refl, sym, ap, ◌∙◌, inl, inr, arith, if◌then◌else◌}
use Rattle.std.specs.List.{sum_by, range_with_len}
use Rattle.std.proofs.lemmas.Bool.{cases_eq, eq-eqb, ne_eqb}
use Rattle.std.proofs.lemmas.List.Sums.{sum_by-cons}
use Rattle.lab_plan.specs.LabPlan.{LabPlan, sessions, session_names}
use Rattle.legal_steps.specs.declared.event.Event.{Event}
use Rattle.legal_steps.specs.declared.phase.Drinking.{Drinking}
use Rattle.legal_steps.specs.declared.phase.Drinking.TheVariants.{Tranquil, Thirsty, Drinking as Drinks, Reaching, Retired}
use Rattle.legal_steps.specs.Fitting.{IsPhaseOf}
use Rattle.legal_steps.specs.State.{State, IsInSession, phase, session}
use Rattle.legal_steps.specs.Legal.{instrument_of}
use Rattle.turns.specs.History.{IsHistory}
use Rattle.turns.specs.Patience.{is_waiting}
use Rattle.rounds.specs.Rounds.{known_in}
use Rattle.blocking.specs.declared.places.Place.{Place}
use Rattle.blocking.specs.Waiting.{waits_at, waits_for}
use Rattle.blocking.specs.Blocks.{history_after, rounds_where, is_blocked, is_held}
use Rattle.blocking.specs.Keepers.{in_session}
use Rattle.blocking.specs.Watching.{IsPlace}
use Rattle.blocking.specs.Laws.{SessionsAddUp}
use Rattle.blocking.proofs.Rises.{within}
use Rattle.blocking.proofs.Histories.{legal_at}

-- ---- sums over numbers

no_sum : (a n : ℕ) → sum_by (λ (i : ℕ). 0) (range_with_len a n) ≡ 0
no_sum a zero = refl
no_sum a (suc n) = no_sum (a + 1) n

shifted : (m n : ℕ) → m + 1 + n ≡ m + n + 1
shifted m n = omega arith

add_assoc_one : (m n : ℕ) → m + (n + 1) ≡ m + n + 1
add_assoc_one m n = omega arith

module _ (f g : ℕ → ℕ) where
  same_sum : (a n : ℕ) → ((i : ℕ) → a ≤ i → g i ≡ f i) → sum_by g (range_with_len a n) ≡ sum_by f (range_with_len a n)
  same_sum a zero same = refl
  same_sum a (suc n) same =
      sum_by-cons g a (range_with_len (a + 1) n)
      ∙ ((λ z. same a (omega arith) z + same_sum (a + 1) n (λ i from. same i (omega (arith, from))) z) ∙ sym (sum_by-cons f a (range_with_len (a + 1) n)))

  -- all are the same but for one, which is one more
  one_more : (a n k : ℕ) → a ≤ k → k < a + n → g k ≡ f k + 1 → ((i : ℕ) → ¬ (i ≡ k) → g i ≡ f i)
      → sum_by g (range_with_len a n) ≡ sum_by f (range_with_len a n) + 1
  one_more a zero k from to here other = absurd (omega (arith, from, to))
  one_more a (suc n) k from to here other =
      let first = sum_by-cons g a (range_with_len (a + 1) n) in let second = sum_by-cons f a (range_with_len (a + 1) n) in
      elim (cases_eq a k) [
        | inl is ↦
            let up : g a ≡ f a + 1 = ap g is ∙ (here ∙ ap (λ i. f i + 1) (sym is)) in
            let rest = same_sum (a + 1) n (λ i more. other i (λ e. omega (arith, e, is, more))) in
            first ∙ ((λ z. up z + rest z) ∙ (shifted (f a) (sum_by f (range_with_len (a + 1) n)) ∙ ap (λ m. m + 1) (sym second)))
        | inr ne ↦
            let same = other a ne in
            let rest = one_more (a + 1) n k (omega (arith, from, ne)) (omega (arith, to)) here other in
            first ∙ ((λ z. same z + rest z) ∙ (add_assoc_one (f a) (sum_by f (range_with_len (a + 1) n)) ∙ ap (λ m. m + 1) (sym second)))
      ]

-- ---- counts of rounds

and_false : (b : Bool) → (b && false) ≡ false
and_false true = refl
and_false false = refl

module _ (plan : LabPlan) (j most : ℕ) (test : List Event → List Event → Bool) (rounds : List (List Event)) where
  abbrev number : ℕ → ℕ
  number k = session (known_in plan (history_after rounds (suc k)) j) j

  abbrev passes : ℕ → Bool
  passes k = test (history_after rounds k) (history_after rounds (suc k))

  abbrev of_session : ℕ → ℕ → ℕ
  of_session m i = rounds_where (in_session plan j (i + 1) test) rounds m

  last_round : (m total : ℕ) (b : Bool) → passes m ≡ b → (passes m ≡ true → (1 ≤ number m) × (number m ≤ most))
      → sum_by (of_session m) (range_with_len 0 most) ≡ total
      → sum_by (of_session (suc m)) (range_with_len 0 most) ≡ (if passes m then total + 1 else total)
  last_round m total true is inside before =
      let bounds = inside is in let low = bounds.0 in let high = bounds.1 in
      let changed : (i : ℕ) (c : Bool) → (number m == i + 1) ≡ c → of_session (suc m) i ≡ (if c then of_session m i + 1 else of_session m i) =
      λ i c e. (λ z. if e z && is z then of_session m i + 1 else of_session m i) ∙ and_true c (of_session m i) in
      one_more (of_session m) (of_session (suc m)) 0 most (number m - 1) (omega arith) (omega (arith, low, high))
      (changed (number m - 1) true (eq-eqb (number m) (number m - 1 + 1) (omega (arith, low))))
      (λ i other. changed i false (ne_eqb (number m) (i + 1) (λ e. other (omega (arith, e)))))
      ∙ (ap (λ n. n + 1) before ∙ (λ z. if sym is z then total + 1 else total)) where
        and_true : (c : Bool) (n : ℕ) → (if c && true then n + 1 else n) ≡ (if c then n + 1 else n)
        and_true true n = refl
        and_true false n = refl
  last_round m total false is inside before =
      same_sum (of_session m) (of_session (suc m)) 0 most
      (λ i from. (λ z. if (number m == i + 1) && is z then of_session m i + 1 else of_session m i)
      ∙ (λ z. if and_false (number m == i + 1) z then of_session m i + 1 else of_session m i))
      ∙ (before ∙ (λ z. if sym is z then total + 1 else total))

  all_sessions : (m : ℕ) → ((k : ℕ) → k < m → passes k ≡ true → (1 ≤ number k) × (number k ≤ most))
      → sum_by (of_session m) (range_with_len 0 most) ≡ rounds_where test rounds m
  all_sessions zero inside = no_sum 0 most
  all_sessions (suc m) inside =
      last_round m (rounds_where test rounds m) (passes m) refl (inside m (omega arith)) (all_sessions m (λ k less. inside k (omega (arith, less))))

-- ---- a job that waits is in one of its sessions

left : (a b : Bool) → (a && b) ≡ true → a ≡ true
left true b both = refl
left false b both = absurd (cc)

right : (a b : Bool) → (a && b) ≡ true → b ≡ true
right true b both = both
right false b both = absurd (cc)

thirsty : (d : Drinking) → is_waiting d ≡ true → IsInSession d
thirsty Tranquil is = absurd (cc)
thirsty Thirsty is = inl refl
thirsty Drinks is = absurd (cc)
thirsty Reaching is = absurd (cc)
thirsty Retired is = absurd (cc)

module _ (plan : LabPlan) (h : List Event) (legal : IsHistory plan h) (x : Place) (place : IsPlace plan x) where
  abbrev s : State
  s = known_in plan h x.job

  in_one : waits_at plan s x ≡ true → (1 ≤ session s x.job) × (session s x.job ≤ length (sessions plan x.job))
  in_one waits =
      let fit : IsPhaseOf plan x.job (phase s x.job) = within plan h x.job legal place.job in
      let thirst : is_waiting (phase s x.job).drinking ≡ true =
      left (is_waiting (phase s x.job).drinking) (session_names plan x.job (phase s x.job).session (instrument_of plan x.edge x.bottle))
      (right _ (waits_for plan x.job (phase s x.job) (instrument_of plan x.edge x.bottle)) waits) in
      (fit.begun (thirsty (phase s x.job).drinking thirst), fit.session_there)

pub sessions_add_up : SessionsAddUp
sessions_add_up plan limit retired rounds are x place =
    let most = length (sessions plan x.job) in
    let inside : (k : ℕ) → is_blocked plan x (history_after rounds k) (history_after rounds (suc k)) ≡ true
    → (1 ≤ session (known_in plan (history_after rounds (suc k)) x.job) x.job) × (session (known_in plan (history_after rounds (suc k)) x.job) x.job ≤ most) =
    λ k is. in_one plan (history_after rounds (suc k)) (legal_at plan rounds are.ran.legal (suc k)) x place is in (
      all_sessions plan x.job most (is_blocked plan x) rounds (length rounds) (λ k less is. inside k is),
      all_sessions plan x.job most (is_held plan x) rounds (length rounds)
          (λ k less is. inside k (left (is_blocked plan x (history_after rounds k) (history_after rounds (suc k))) _ is)),
    )
