-- A set of bottles may be given, or asked for, just where it isn't empty and is part of the greatest such set.
use Rattle.std.proofs.Common.{◌≡◌, ◌≢◌, ◌↔◌, ℕ, IsTrue, nat_eq, length, bit_and, sym, ap, ◌∙◌, arith}
use Rattle.std.proofs.lemmas.Bool.{eqb-true, eq-eqb}
use Rattle.std.proofs.lemmas.Nat.{and_le_r}
use Rattle.std.specs.Int.Bits.{and_zero_r}
use Rattle.lab_plan.specs.LabPlan.{LabPlan, bottles}
use Rattle.legal_steps.specs.declared.event.Event.TheVariants.{GiveBottles, AskBottles}
use Rattle.legal_steps.specs.declared.phase.Drinking.TheVariants.{Thirsty}
use Rattle.legal_steps.specs.State.{State, IsOwn, IsOfEdge, Has, drinking}
use Rattle.legal_steps.specs.Legal.{May, MayGiveBottle, MayAskBottle, IsBottleSet}
use Rattle.turns.specs.Due.{IsGreatest}
use Rattle.legal_steps.proofs.BottleSets.{subset, member_below}
use Rattle.drinking_layer.proofs.AllAtOnce.{may_ask_all}

module _ (plan : LabPlan) (s : State) (j e set all : ℕ) where
  within : (P : ℕ → Type 0) → IsGreatest plan e all P → bit_and set all ≡ set → (k : ℕ) → Has set k → P k
  within P g part k member = let there = (subset set all).0 part k member in (g.just k (member_below all (length (bottles plan e)) k g.of_edge there)).0 there

  part_of : (P : ℕ → Type 0) → IsGreatest plan e all P → IsOfEdge plan e set → ((k : ℕ) → Has set k → P k) → bit_and set all ≡ set
  part_of P g fits each = (subset set all).1 (λ k member. (g.just k (member_below set (length (bottles plan e)) k fits member)).1 (each k member))

  fits_edge : (P : ℕ → Type 0) → IsGreatest plan e all P → bit_and set all ≡ set → set ≢ 0 → IsBottleSet plan e set
  fits_edge P g part some = record { not_empty = some; of_edge = let fits = g.of_edge in let small = and_le_r set all in omega (arith, fits, small, part) }

  pub may_give : IsOwn plan j e → IsGreatest plan e all (MayGiveBottle plan s j e)
      → set ≢ 0 → IsTrue (nat_eq (bit_and set all) set) ↔ May plan s (GiveBottles j e set)
  may_give own g some = (
    λ t. (
      own,
      fits_edge (MayGiveBottle plan s j e) g (eqb-true (bit_and set all) set t) some,
      within (MayGiveBottle plan s j e) g (eqb-true (bit_and set all) set t),
    ),
    λ may. eq-eqb (bit_and set all) set (part_of (MayGiveBottle plan s j e) g may.1.of_edge may.2),
  )

  abbrev Asks : ℕ → Type 0
  Asks k = (drinking s j ≡ Thirsty) × MayAskBottle plan s j e k

  all_some : bit_and set all ≡ set → set ≢ 0 → all ≢ 0
  all_some part some none = some (sym part ∙ (ap (bit_and set) none ∙ and_zero_r set))

  pub may_ask : IsOwn plan j e → IsGreatest plan e all (λ k. (drinking s j ≡ Thirsty) × MayAskBottle plan s j e k)
      → set ≢ 0 → IsTrue (nat_eq (bit_and set all) set) ↔ May plan s (AskBottles j e set)
  may_ask own g some = (
    λ t. let part = eqb-true (bit_and set all) set t in
        (own, (may_ask_all plan s j e all own g (all_some part some)).1, fits_edge Asks g part some, λ k member. (within Asks g part k member).1),
    λ may. eq-eqb (bit_and set all) set (part_of Asks g may.2.of_edge (λ k member. (may.1, may.3 k member))),
  )
