-- Counts of the rounds of one session.
use Rattle.std.proofs.Common.{◌≡◌, ℕ, zero, suc, ◌+◌, ◌==◌, ◌<◌, ◌≤◌, Bool, true, false, ◌&&◌, List, [], ◌∷◌, length, map, nat_lt, refl, sym, ap, ◌∙◌, arith}
use Rattle.std.specs.List.{All}
use Rattle.std.proofs.lemmas.Bool.{eq-eqb, ne_eqb}
use Rattle.std.proofs.lemmas.List.Elements.{All-head, All-tail}
use Rattle.lab_plan.specs.LabPlan.{LabPlan}
use Rattle.legal_steps.specs.declared.event.Event.{Event}
use Rattle.legal_steps.specs.State.{neighbour, session}
use Rattle.legal_steps.specs.Legal.{instrument_of}
use Rattle.rounds.specs.Rounds.{known_in}
use Rattle.waiting.specs.Rounds.{joined}
use Rattle.blocking.specs.declared.places.Place.{Place}
use Rattle.blocking.specs.Waiting.{waits_at}
use Rattle.blocking.specs.Blocks.{history_after, rounds_where, is_blocked, is_held, block_of}
use Rattle.blocking.specs.Keepers.{in_session, session_block}
use Rattle.blocking.specs.Watching.{AreHeld, holds_then, block_then, blocks_then}
use Rattle.blocking.specs.Owing.{cleared}
use Rattle.blocking.proofs.Counts.{counted, holds_when}

-- what no round passes
none_where : (test : List Event → List Event → Bool) (rounds : List (List Event)) (m : ℕ)
    → ((k : ℕ) → k < m → test (history_after rounds k) (history_after rounds (suc k)) ≡ false) → rounds_where test rounds m ≡ 0
none_where test rounds zero none = refl
none_where test rounds (suc m) none =
    rw (none m (omega arith)) (none_where test rounds m (λ k less. none k (omega (arith, less))))

module _ (plan : LabPlan) (rounds : List (List Event)) (s : ℕ) where
  -- of a session that isn't begun
  pub none_yet : (x : Place) → ((k : ℕ) → k ≤ length rounds → session (known_in plan (history_after rounds k) x.job) x.job < s)
      → block_of plan [] x ≡ session_block plan rounds s x
  none_yet x before =
      let other : (k : ℕ) → k < length rounds → (session (known_in plan (history_after rounds (suc k)) x.job) x.job == s) ≡ false =
      λ k less. ne_eqb (session (known_in plan (history_after rounds (suc k)) x.job) x.job) s
      (λ e. let q = before (suc k) (omega (arith, less)) in omega (arith, e, q)) in
      let none : (test : List Event → List Event → Bool) → rounds_where (in_session plan x.job s test) rounds (length rounds) ≡ 0 =
      λ test. none_where (in_session plan x.job s test) rounds (length rounds)
      (λ k less. ap (λ (b : Bool). b && test (history_after rounds k) (history_after rounds (suc k))) (other k less)) in
      λ i. record {
        job = x.job;
        neighbour = neighbour plan x.job x.edge;
        instrument = instrument_of plan x.edge x.bottle;
        rounds = sym (none (is_blocked plan x)) i;
        held = sym (none (is_held plan x)) i;
      }

module _ (plan : LabPlan) (old new : List (List Event)) (n : ℕ) (old_long : length old ≡ n) (new_long : length new ≡ n + 1)
    (same : (k : ℕ) → k ≤ n → history_after old k ≡ history_after new k) (small : n < 4294967295)
    (before after : List ℕ) (held_before : AreHeld plan (joined old) before) (held_after : AreHeld plan (joined new) after) (s : ℕ) where
  -- the last round is of the session
  one_more : (x : Place) → neighbour plan x.job x.edge < length plan.jobs → session (known_in plan (joined new) x.job) x.job ≡ s
      → block_then plan (joined new) before after x (session_block plan old s x) ≡ session_block plan new s x
  one_more x inside is =
      let k = neighbour plan x.job x.edge in let i = instrument_of plan x.edge x.bottle in
      let yes : (session (known_in plan (joined new) x.job) x.job == s) ≡ true = eq-eqb (session (known_in plan (joined new) x.job) x.job) s is in
      let waits = waits_at plan (known_in plan (joined new) x.job) x in
      let rounds = counted plan old new n old_long new_long same small before after held_before held_after
      (in_session plan x.job s (is_blocked plan x)) waits (ap (λ (b : Bool). b && waits) (sym yes)) in
      let held = counted plan old new n old_long new_long same small before after held_before held_after
      (in_session plan x.job s (is_held plan x)) (waits && holds_then plan before after x)
      (ap (λ (b : Bool). waits && b)
      (holds_when plan old new n old_long new_long same small before after held_before held_after (nat_lt k x.job) k i inside)
      ∙ ap (λ (b : Bool). b && is_held plan x (joined old) (joined new)) (sym yes)) in
      λ z. record { job = x.job; neighbour = k; instrument = i; rounds = rounds z; held = held z }

  pub all_more : (j : ℕ) → session (known_in plan (joined new) j) j ≡ s → (places : List Place)
      → All (λ (x : Place). (neighbour plan x.job x.edge < length plan.jobs) × (x.job ≡ j)) places
      → blocks_then plan (joined new) before after places (map (session_block plan old s) places) ≡ map (session_block plan new s) places
  all_more j is [] all = refl
  all_more j is (x ∷ places) all =
      let P : Place → Type 0 = λ x. (neighbour plan x.job x.edge < length plan.jobs) × (x.job ≡ j) in
      let here : P x = All-head P x places all in
      λ i. one_more x here.0 (ap (λ k. session (known_in plan (joined new) k) k) here.1 ∙ is) i ∷ all_more j is places (All-tail P x places all) i

  -- it is of another
  one_same : (x : Place) → ¬ (session (known_in plan (joined new) x.job) x.job ≡ s) → session_block plan old s x ≡ session_block plan new s x
  one_same x other =
      let no : (session (known_in plan (joined new) x.job) x.job == s) ≡ false = ne_eqb (session (known_in plan (joined new) x.job) x.job) s other in
      let one : (test : List Event → List Event → Bool)
      → rounds_where (in_session plan x.job s test) old (length old) ≡ rounds_where (in_session plan x.job s test) new (length new) =
      λ test. counted plan old new n old_long new_long same small before after held_before held_after (in_session plan x.job s test) false
      (ap (λ (b : Bool). b && test (joined old) (joined new)) (sym no)) in
      λ z. record {
        job = x.job;
        neighbour = neighbour plan x.job x.edge;
        instrument = instrument_of plan x.edge x.bottle;
        rounds = one (is_blocked plan x) z;
        held = one (is_held plan x) z;
      }

  pub all_same : (j : ℕ) → ¬ (session (known_in plan (joined new) j) j ≡ s) → (places : List Place) → All (λ (x : Place). x.job ≡ j) places
      → map (session_block plan old s) places ≡ map (session_block plan new s) places
  all_same j other [] all = refl
  all_same j other (x ∷ places) all =
      let P : Place → Type 0 = λ x. x.job ≡ j in
      let here : x.job ≡ j = All-head P x places all in
      λ i. one_same x (λ e. other (sym (ap (λ k. session (known_in plan (joined new) k) k) here) ∙ e)) i ∷ all_same j other places (All-tail P x places all) i

-- what was counted of another session is cleared, and of this none was
pub none_counted : (plan : LabPlan) (rounds : List (List Event)) (t s j : ℕ)
    → ((k : ℕ) → k ≤ length rounds → session (known_in plan (history_after rounds k) j) j < s) → (places : List Place) → All (λ (x : Place). x.job ≡ j) places
    → map cleared (map (session_block plan rounds t) places) ≡ map (session_block plan rounds s) places
none_counted plan rounds t s j before [] all = refl
none_counted plan rounds t s j before (x ∷ places) all =
    let P : Place → Type 0 = λ x. x.job ≡ j in
    let here : x.job ≡ j = All-head P x places all in
    λ i. none_yet plan rounds s x
    (λ k few. let q = before k few in omega (arith, q, ap (λ m. session (known_in plan (history_after rounds k) m) m) here)) i
    ∷ none_counted plan rounds t s j before places (All-tail P x places all) i
