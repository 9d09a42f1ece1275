-- A set from a test of its members; so there is a set of the instruments in use, and one of those that a session needs.
use Rattle.std.proofs.Common.{◌≡◌, ◌⊎◌, ℕ, zero, suc, ◌+◌, ◌-◌, ◌*◌, ◌^◌, ◌<◌, ◌≤◌, ◌==◌, ◌||◌, ◌&&◌, Bool, true, false, length, Option, Some, None, refl, sym, ap, ◌∙◌, subst, inl, inr, arith}
use Rattle.std.specs.Int.{bit_at}
use native.Mathlib.Numerals.{unary_clauses}
use Rattle.std.proofs.lemmas.Bool.{cases_eq, cases_lt, false≢true}
use Rattle.std.proofs.lemmas.Nat.Bits.{bit_at_above, bit_at_cat_low, bit_at_cat_high}
use Rattle.lab_plan.specs.LabPlan.{LabPlan, sessions, session_names}
use Rattle.lab_plan.specs.IsPlan.{IsPlan}
use Rattle.lab_plan.specs.InstrumentSets.{holds}
use Rattle.lab_plan.proofs.Shared.{session-instrument}
use Rattle.legal_steps.specs.declared.phase.Drinking.{Drinking}
use Rattle.legal_steps.specs.declared.phase.Drinking.TheVariants.{Tranquil, Thirsty, Drinking as Drinks, Reaching, Retired}
use Rattle.legal_steps.specs.State.{State, IsInSession, drinking, session}
use Rattle.legal_steps.specs.Legal.{Needs}
use Rattle.interleaving.specs.World.{WorldView}
use Rattle.late_thirst.specs.declared.asker.Asker.{Asker}
use Rattle.late_thirst.proofs.NextIn.{zero_lacks}
use Rattle.live_lab.specs.Admitting.{AreInUse, IsPlaceFor, IsPlaceThen, MayAsk}

-- ---- a set of bits

abbrev bit_if : Bool → ℕ
bit_if true = 1
bit_if false = 0

-- the numbers below n that pass the test
abbrev gather : (ℕ → Bool) → ℕ → ℕ
gather f zero = 0
gather f (suc n) = bit_if (f n) * 2 ^ n + gather f n

twice : (n : ℕ) → 2 ^ suc n ≡ 2 * 2 ^ n
twice n = simp unary_clauses (omega arith)

below_step : (b : Bool) (g p : ℕ) → g < p → bit_if b * p + g < 2 * p
below_step true g p h = omega (arith, h)
below_step false g p h = omega (arith, h)

gather_below : (f : ℕ → Bool) (n : ℕ) → gather f n < 2 ^ n
gather_below f zero = omega arith
gather_below f (suc n) = subst (λ m. gather f (suc n) < m) (sym (twice n)) (below_step (f n) (gather f n) (2 ^ n) (gather_below f n))

gather_past : (f : ℕ → Bool) (n i : ℕ) → n ≤ i → holds (gather f n) i ≡ false
gather_past f n i past = zero_lacks (gather f n) i (bit_at_above (gather f n) n i (gather_below f n) past)

first_bit : (b : Bool) → bit_at (bit_if b) 0 ≡ bit_if b
first_bit true = refl
first_bit false = refl

is_bit : (b : Bool) → (bit_if b == 1) ≡ b
is_bit true = refl
is_bit false = refl

none_left : (n : ℕ) → n - n ≡ 0
none_left n = omega arith

gather_has : (f : ℕ → Bool) (n i : ℕ) → i < n → holds (gather f n) i ≡ f i
unfolding holds
gather_has f zero i less = absurd (omega (arith, less))
gather_has f (suc n) i less = elim (cases_eq i n) [
  | inl same ↦ subst (λ k. holds (gather f (suc n)) k ≡ f k) (sym same) (ap (λ x. x == 1) (bit_at_cat_high (bit_if (f n)) n (gather f n) n (gather_below f n) (omega arith)
      ∙ ap (bit_at (bit_if (f n))) (none_left n) ∙ first_bit (f n)) ∙ is_bit (f n))
  | inr other ↦ ap (λ x. x == 1) (bit_at_cat_low (bit_if (f n)) n (gather f n) i (omega (arith, less, other))) ∙ gather_has f n i (omega (arith, less, other))
]

gathered : (f : ℕ → Bool) (n : ℕ) → ((i : ℕ) → n ≤ i → f i ≡ false) → (i : ℕ) → holds (gather f n) i ≡ f i
gathered f n none i = elim (cases_lt i n) [ inl low ↦ gather_has f n i low | inr high ↦ gather_past f n i high ∙ sym (none i high) ]

-- ---- instruments

not_true : (b : Bool) → (b ≡ true → ⊥) → b ≡ false
not_true true h = absurd (h refl)
not_true false h = refl

none_named : (plan : LabPlan) (j s i : ℕ) → IsPlan plan → 64 ≤ i → session_names plan j s i ≡ false
none_named plan j s i is high = not_true (session_names plan j s i) (λ h.
    let below = session-instrument plan j s i is.draft.named h in let few = is.draft.few_instruments in omega (arith, below, few, high))

-- the set of those that a session needs
pub session_set : (plan : LabPlan) → IsPlan plan → (j s : ℕ) → (needs : ℕ) × ((i : ℕ) → holds needs i ≡ session_names plan j s i)
session_set plan is j s =
    (gather (session_names plan j s) 64, gathered (session_names plan j s) 64 (λ i high. none_named plan j s i is high))

abbrev in_session : Drinking → Bool
in_session Tranquil = false
in_session Thirsty = true
in_session Drinks = true
in_session Reaching = true
in_session Retired = false

session_is : (d : Drinking) → in_session d ≡ true → IsInSession d
session_is Thirsty h = inl refl
session_is Drinks h = inr (inl refl)
session_is Reaching h = inr (inr refl)
session_is Tranquil h = absurd (false≢true h)
session_is Retired h = absurd (false≢true h)

is_session : (d : Drinking) → IsInSession d → in_session d ≡ true
is_session d (inl h) = ap in_session h
is_session d (inr (inl h)) = ap in_session h
is_session d (inr (inr h)) = ap in_session h

abbrev needs_it : LabPlan → State → ℕ → ℕ → Bool
needs_it plan s i j = in_session (drinking s j) && session_names plan j (session s j) i

-- one of the first n jobs does
abbrev in_need : LabPlan → State → ℕ → ℕ → Bool
in_need plan s zero i = false
in_need plan s (suc n) i = in_need plan s n i || needs_it plan s i n

both : (a b : Bool) → a ≡ true → b ≡ true → (a && b) ≡ true
both true b p q = q
both false b p q = p

first_of : (a b : Bool) → (a && b) ≡ true → a ≡ true
first_of true b h = refl
first_of false b h = h

second_of : (a b : Bool) → (a && b) ≡ true → b ≡ true
second_of true b h = h
second_of false b h = absurd (false≢true h)

one_of : (a b : Bool) → (a || b) ≡ true → (a ≡ true) ⊎ (b ≡ true)
one_of true b h = inl refl
one_of false b h = inr h

left_of : (a b : Bool) → a ≡ true → (a || b) ≡ true
left_of true b h = refl
left_of false b h = absurd (false≢true h)

right_of : (a b : Bool) → b ≡ true → (a || b) ≡ true
right_of true b h = refl
right_of false b h = h

needed_by : (plan : LabPlan) (s : State) (n i : ℕ) → in_need plan s n i ≡ true → (k : ℕ) × (k < n) × Needs plan s k i
needed_by plan s zero i h = absurd (false≢true h)
needed_by plan s (suc n) i h = elim (one_of (in_need plan s n i) (needs_it plan s i n) h) [
  | inl before ↦ let k = needed_by plan s n i before in (k.0, (let low = k.1 in omega (arith, low)), k.2)
  | inr here ↦ (
    n,
    omega arith,
    record {
      in_session = session_is (drinking s n) (first_of (in_session (drinking s n)) (session_names plan n (session s n) i) here);
      named = second_of (in_session (drinking s n)) (session_names plan n (session s n) i) here;
    },
  )
]

is_needed : (plan : LabPlan) (s : State) (n i k : ℕ) → k < n → Needs plan s k i → in_need plan s n i ≡ true
is_needed plan s zero i k below needs = absurd (omega (arith, below))
is_needed plan s (suc n) i k below needs = elim (cases_eq k n) [
  | inl same ↦ right_of (in_need plan s n i) (needs_it plan s i n) (subst (λ m. needs_it plan s i m ≡ true) same
      (both (in_session (drinking s k)) (session_names plan k (session s k) i) (is_session (drinking s k) needs.in_session) needs.named))
  | inr other ↦ left_of (in_need plan s n i) (needs_it plan s i n) (is_needed plan s n i k (omega (arith, below, other)) needs)
]

none_needed : (plan : LabPlan) (s : State) (n i : ℕ) → IsPlan plan → 64 ≤ i → in_need plan s n i ≡ false
none_needed plan s n i is high = not_true (in_need plan s n i) (λ h.
    let k = needed_by plan s n i h in false≢true (sym (none_named plan k.0 (session s k.0) i is high) ∙ k.2.named))

-- the set of those in use
pub used_set : (w : WorldView) → IsPlan w.plan → (used : ℕ) × AreInUse w used × (used < 2 ^ 64)
used_set w is =
    let f = in_need w.plan w.state (length w.plan.jobs) in
    let just = gathered f 64 (λ i high. none_needed w.plan w.state (length w.plan.jobs) i is high) in (
      gather f 64,
      λ i. (
        λ h. needed_by w.plan w.state (length w.plan.jobs) i (sym (just i) ∙ h),
        λ k. just i ∙ is_needed w.plan w.state (length w.plan.jobs) i k.0 k.1 k.2,
      ),
      gather_below f 64,
    )

-- ---- one that has no place and isn't waited for gets none

tranquil_or : (d : Drinking) → (d ≡ Tranquil) ⊎ (d ≡ Tranquil → ⊥)
tranquil_or Tranquil = inl refl
tranquil_or Thirsty = inr (λ h. cc)
tranquil_or Drinks = inr (λ h. cc)
tranquil_or Reaching = inr (λ h. cc)
tranquil_or Retired = inr (λ h. cc)

pub stays_out : (waiting : ℕ) (w : WorldView) (calls j : ℕ) (old new : Option Asker) → IsPlan w.plan → (MayAsk waiting w j → ⊥) → old ≡ None → new ≡ None
    → IsPlaceThen waiting w calls j old new
stays_out waiting w calls j old new is never before after = elim (tranquil_or (drinking w.state j)) [
  | inl calm ↦ elim (cases_lt (session w.state j) (length (sessions w.plan j))) [
    | inl more ↦
        let set = session_set w.plan is j (session w.state j + 1) in
        (Some set.0, record { tranquil = calm; left = more; names = set.1 }, inr (inr (subst (λ (o : Option Asker). IsPlaceFor set.0 o → ⊥) (sym before) (λ h. h), never, after)))
    | inr over ↦ (None, (λ calm. over), after)
  ]
  | inr busy ↦ (None, (λ calm. absurd (busy calm)), after)
]
