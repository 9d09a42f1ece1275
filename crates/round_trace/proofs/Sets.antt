-- One bottle as a set, and all bottles that may go.
use Rattle.std.proofs.Common.{◌≡◌, ◌≢◌, ◌↔◌, ℕ, ◌*◌, ◌%◌, ◌^◌, ◌<◌, ◌==◌, Bool, true, false, not, length, arith, inl, inr, refl, sym, ap, ◌∙◌, subst}
use Rattle.std.proofs.lemmas.Bool.{cases_eq, eq-eqb, ne_eqb}
use Rattle.std.proofs.lemmas.Nat.{pow_pos}
use Rattle.std.proofs.Math.Pow.{pow-lt}
use Rattle.std.proofs.lemmas.Nat.Bits.{bit_at-pow_same, bit_at-pow_other}
use Rattle.lab_plan.specs.LabPlan.{LabPlan, bottles}
use Rattle.legal_steps.specs.declared.event.Event.TheVariants.{AskBottles, GiveBottles}
use Rattle.legal_steps.specs.declared.phase.Drinking.{Drinking}
use Rattle.legal_steps.specs.declared.phase.Drinking.TheVariants.{Tranquil, Thirsty, Drinking as Drinks, Reaching, Retired}
use Rattle.legal_steps.specs.State.{State, Has, IsOwn, drinking}
use Rattle.legal_steps.specs.Legal.{May, IsBottleSet, MayAskBottle, MayGiveBottle}
use Rattle.turns.specs.Due.{IsGreatest}
use Rattle.legal_steps.proofs.BottleSets.{member_below, empty_set}

itself : (k : ℕ) → Has (2 ^ k) k
unfolding Has
itself k = bit_at-pow_same k

one_bottle : (plan : LabPlan) (e k : ℕ) → k < length (bottles plan e) → IsBottleSet plan e (2 ^ k)
one_bottle plan e k small = record { not_empty = λ none. omega (arith, pow_pos k, none); of_edge = pow-lt small }

only_one : (k i : ℕ) → Has (2 ^ k) i → i ≡ k
unfolding Has
only_one k i has = elim (cases_eq i k) [ inl same ↦ same | inr other ↦ absurd (omega (arith, has, bit_at-pow_other k i other)) ]

shifted : (k : ℕ) → k < 32 → 1 * 2 ^ k % 2 ^ 32 ≡ 2 ^ k
shifted k small = let below : 2 ^ k < 2 ^ 32 = pow-lt small in omega (arith, below)

module _ (plan : LabPlan) (s : State) (j e k : ℕ) (own : IsOwn plan j e) (small : k < length (bottles plan e)) where
  pub give_one : May plan s (GiveBottles j e (2 ^ k)) → MayGiveBottle plan s j e k
  give_one may = may.2 k (itself k)

  pub one_given : MayGiveBottle plan s j e k → May plan s (GiveBottles j e (2 ^ k))
  one_given may = (own, one_bottle plan e k small, λ i is. subst (MayGiveBottle plan s j e) (sym (only_one k i is)) may)

  pub ask_one : May plan s (AskBottles j e (2 ^ k)) → (drinking s j ≡ Thirsty) × MayAskBottle plan s j e k
  ask_one may = (may.1, may.3 k (itself k))

  pub one_asked : (drinking s j ≡ Thirsty) × MayAskBottle plan s j e k → May plan s (AskBottles j e (2 ^ k))
  one_asked may = (own, may.0, one_bottle plan e k small, λ i is. subst (MayAskBottle plan s j e) (sym (only_one k i is)) may.1)

  -- the same of a set as the code makes it
  module _ (few : k < 32) where
    pub gives : May plan s (GiveBottles j e (1 * 2 ^ k % 2 ^ 32)) → MayGiveBottle plan s j e k
    gives may = give_one (subst (λ set. May plan s (GiveBottles j e set)) (shifted k few) may)

    pub given : MayGiveBottle plan s j e k → May plan s (GiveBottles j e (1 * 2 ^ k % 2 ^ 32))
    given may = subst (λ set. May plan s (GiveBottles j e set)) (sym (shifted k few)) (one_given may)

    pub asks : May plan s (AskBottles j e (1 * 2 ^ k % 2 ^ 32)) → (drinking s j ≡ Thirsty) × MayAskBottle plan s j e k
    asks may = ask_one (subst (λ set. May plan s (AskBottles j e set)) (shifted k few) may)

    pub asked : (drinking s j ≡ Thirsty) × MayAskBottle plan s j e k → May plan s (AskBottles j e (1 * 2 ^ k % 2 ^ 32))
    asked may = subst (λ set. May plan s (AskBottles j e set)) (sym (shifted k few)) (one_asked may)

thirsts : (d : Drinking) → ¬ ¬ (d ≡ Thirsty) → d ≡ Thirsty
thirsts Thirsty n = refl
thirsts Tranquil n = absurd (n (λ is. cc))
thirsts Drinks n = absurd (n (λ is. cc))
thirsts Reaching n = absurd (n (λ is. cc))
thirsts Retired n = absurd (n (λ is. cc))

-- ---- all of them at once are legal where there are some

module _ (plan : LabPlan) (s : State) (j e set : ℕ) (own : IsOwn plan j e) where
  abbrev asked_for : ℕ → Type 0
  asked_for k = (drinking s j ≡ Thirsty) × MayAskBottle plan s j e k

  member_may : (P : ℕ → Type 0) → IsGreatest plan e set P → (k : ℕ) → Has set k → P k
  member_may P g k has = (g.just k (member_below set (length (bottles plan e)) k g.of_edge has)).0 has

  may_give : IsGreatest plan e set (MayGiveBottle plan s j e) → set ≢ 0 → May plan s (GiveBottles j e set)
  may_give g some = (own, record { not_empty = some; of_edge = g.of_edge }, member_may (MayGiveBottle plan s j e) g)

  may_ask : IsGreatest plan e set asked_for → set ≢ 0 → May plan s (AskBottles j e set)
  may_ask g some = (
    own,
    thirsts (drinking s j) (λ other. some (empty_set (length (bottles plan e)) set g.of_edge (λ k inside has. other
        (member_may asked_for g k has).0))),
    record { not_empty = some; of_edge = g.of_edge },
    λ k has. (member_may asked_for g k has).1,
  )

  decided : (done : Bool) (M : Type 0) → (done ≡ true) ↔ M → (set ≢ 0 → M) → (M → set ≢ 0) → done ≡ not (set == 0)
  decided done M test some none = elim (cases_eq set 0) [
    | inl is ↦ falsely done (λ yes. none (test.0 yes) is) ∙ ap not (sym (eq-eqb set 0 is))
    | inr other ↦ test.1 (some other) ∙ ap not (sym (ne_eqb set 0 other))
  ] where
    falsely : (b : Bool) → ¬ (b ≡ true) → b ≡ false
    falsely true not_true = absurd (not_true refl)
    falsely false not_true = refl

  pub gave : IsGreatest plan e set (MayGiveBottle plan s j e) → (done : Bool) → (done ≡ true) ↔ May plan s (GiveBottles j e set) → done ≡ not (set == 0)
  gave g done test = decided done (May plan s (GiveBottles j e set)) test (may_give g) (λ may. may.1.not_empty)

  pub wanted : IsGreatest plan e set asked_for → (done : Bool) → (done ≡ true) ↔ May plan s (AskBottles j e set) → done ≡ not (set == 0)
  wanted g done test = decided done (May plan s (AskBottles j e set)) test (may_ask g) (λ may. may.2.not_empty)
