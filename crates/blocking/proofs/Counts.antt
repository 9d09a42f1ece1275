-- Counts of rounds, by the histories that the rounds lead to.
use Rattle.std.proofs.Common.{◌≡◌, ℕ, zero, suc, ◌+◌, ◌<◌, ◌≤◌, Bool, true, false, ◌&&◌, List, [], ◌∷◌, length, map, take, nat_lt, refl, sym, ap, ◌∙◌, arith, if◌then◌else◌}
use Rattle.std.specs.List.{All}
use Rattle.std.proofs.lemmas.List.Elements.{All-head, All-tail}
use Rattle.lab_plan.specs.LabPlan.{LabPlan}
use Rattle.lab_plan.specs.InstrumentSets.{holds}
use Rattle.legal_steps.specs.declared.event.Event.{Event}
use Rattle.legal_steps.specs.State.{neighbour, phase}
use Rattle.legal_steps.specs.Legal.{instrument_of}
use Rattle.rounds.specs.Rounds.{known_in}
use Rattle.waiting.specs.Rounds.{joined}
use Rattle.blocking.specs.declared.places.Place.{Place}
use Rattle.waiting.specs.Holding.{holds_in}
use Rattle.blocking.specs.Waiting.{waits_at}
use Rattle.blocking.specs.Blocks.{history_after, rounds_where, is_blocked, is_held, block_of}
use Rattle.blocking.specs.Watching.{AreHeld, set_at, holds_then, counted_if, block_then, blocks_then}

-- rounds that lead to the same histories have the same counts
pub same_where : (test : List Event → List Event → Bool) (a b : List (List Event)) (n : ℕ) → ((k : ℕ) → k ≤ n → history_after a k ≡ history_after b k)
    → rounds_where test a n ≡ rounds_where test b n
same_where test a b zero same = refl
same_where test a b (suc n) same =
    let before = same n (omega arith) in let after = same (suc n) (omega arith) in
    let less = same_where test a b n (λ k small. same k (omega (arith, small))) in
    λ i. if test (before i) (after i) then less i + 1 else less i

few_if : (b : Bool) (m n : ℕ) → m ≤ n → (if b then m + 1 else m) ≤ suc n
few_if true m n few = omega (arith, few)
few_if false m n few = omega (arith, few)

pub few : (test : List Event → List Event → Bool) (rounds : List (List Event)) (n : ℕ) → rounds_where test rounds n ≤ n
few test rounds zero = omega arith
few test rounds (suc n) = few_if (test (history_after rounds n) (history_after rounds (suc n))) (rounds_where test rounds n) n (few test rounds n)

small_if : (b : Bool) (m : ℕ) → m < 4294967295 → counted_if b 1 m ≡ (if b then m + 1 else m)
small_if true m small = omega (arith, small)
small_if false m small = refl

all_taken : {A : Type 0} (l : List A) → take (length l) l ≡ l
all_taken [] = refl
all_taken (x ∷ l) = ap (λ z. x ∷ z) (all_taken l)

pub all_joined : (rounds : List (List Event)) (n : ℕ) → length rounds ≡ n → history_after rounds n ≡ joined rounds
all_joined rounds n long = ap joined (ap (λ k. take k rounds) (sym long) ∙ all_taken rounds)

-- one round more
module _ (plan : LabPlan) (old new : List (List Event)) (n : ℕ) (old_long : length old ≡ n) (new_long : length new ≡ n + 1)
    (same : (k : ℕ) → k ≤ n → history_after old k ≡ history_after new k) (small : n < 4294967295)
    (before after : List ℕ) (held_before : AreHeld plan (joined old) before) (held_after : AreHeld plan (joined new) after) where
  start : history_after new n ≡ joined old
  start = sym (same n (omega arith)) ∙ all_joined old n old_long

  end : history_after new (suc n) ≡ joined new
  end = all_joined new (suc n) (omega (arith, new_long))

  -- what passes a test in the last round
  pub counted : (test : List Event → List Event → Bool) (b : Bool) → b ≡ test (joined old) (joined new)
      → counted_if b 1 (rounds_where test old (length old)) ≡ rounds_where test new (length new)
  counted test b is =
      let lengths : length new ≡ suc n = omega (arith, new_long) in
      let so_far : rounds_where test old (length old) ≡ rounds_where test new n = ap (rounds_where test old) old_long ∙ same_where test old new n same in
      let less : rounds_where test old (length old) < 4294967295 = let q = few test old (length old) in omega (arith, q, old_long, small) in
      small_if b (rounds_where test old (length old)) less
      ∙ ((λ i. if (is ∙ (λ k. test (sym start k) (sym end k))) i then so_far i + 1 else so_far i)
      ∙ ap (rounds_where test new) (sym lengths))

  pub holds_when : (b : Bool) (k i : ℕ) → k < length plan.jobs
      → holds (set_at (if b then after else before) k) i ≡ holds_in plan k (phase (known_in plan (if b then joined new else joined old) k) k) i
  holds_when true k i inside = held_after.each k inside i
  holds_when false k i inside = held_before.each k inside i

  pub one_block : (x : Place) → neighbour plan x.job x.edge < length plan.jobs
      → block_then plan (joined new) before after x (block_of plan old x) ≡ block_of plan new x
  one_block x inside =
      let k = neighbour plan x.job x.edge in let i = instrument_of plan x.edge x.bottle in
      let waits = waits_at plan (known_in plan (joined new) x.job) x in
      let rounds = counted (is_blocked plan x) waits refl in
      let held = counted (is_held plan x) (waits && holds_then plan before after x)
      (ap (λ (b : Bool). waits && b) (holds_when (nat_lt k x.job) k i inside)) in
      λ z. record { job = x.job; neighbour = k; instrument = i; rounds = rounds z; held = held z }

  pub all_blocks : (places : List Place) → All (λ (x : Place). neighbour plan x.job x.edge < length plan.jobs) places
      → blocks_then plan (joined new) before after places (map (block_of plan old) places) ≡ map (block_of plan new) places
  all_blocks [] all = refl
  all_blocks (x ∷ places) all =
      let P : Place → Type 0 = λ x. neighbour plan x.job x.edge < length plan.jobs in
      λ i. one_block x (All-head P x places all) i ∷ all_blocks places (All-tail P x places all) i
