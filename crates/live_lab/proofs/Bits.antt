-- The two ways of saying that a job is in a set.
use Rattle.std.proofs.Common.{◌≡◌, ◌⊎◌, bit_or, max, inl, inr, ℕ, ◌<◌, Bool, true, false, ◌==◌, arith, sym, ◌∙◌}
use Rattle.std.specs.Int.{bit_at}
use Rattle.std.proofs.lemmas.Bool.{cases_eq, eq-eqb, false≢true}
use Rattle.std.proofs.lemmas.Nat.Bits.{bit_at_or, bit_at-lt}
use Rattle.std.proofs.lemmas.Bool.Decides.{nat_tests}
use Rattle.lab_plan.specs.InstrumentSets.{holds}
use Rattle.legal_steps.specs.State.{Has, IsDrinking, phase}
use Rattle.interleaving.specs.World.{WorldView}
use Rattle.live_lab.specs.Sets.{AreJobs}
use Rattle.live_lab.specs.Keepers.{IsHoldingOf}

test_is : (n : ℕ) → (n == 1) ≡ true → n ≡ 1
test_is n h = grind (arith, nat_tests, h)

pub holds_has : (set j : ℕ) → holds set j ≡ true → Has set j
unfolding holds Has
holds_has set j h = test_is (bit_at set j) h

pub has_holds : (set j : ℕ) → Has set j → holds set j ≡ true
unfolding holds Has
has_holds set j h = eq-eqb (bit_at set j) 1 h

pub lacks : (set j : ℕ) → holds set j ≡ false → Has set j → ⊥
lacks set j out h = false≢true (sym out ∙ has_holds set j h)

-- a test that decides a fact that another decides has the same answer
pub same_test : (a b : Bool) → (a ≡ true → b ≡ true) → (b ≡ true → a ≡ true) → a ≡ b
same_test true true f g = λ i. true
same_test false false f g = λ i. false
same_test true false f g = sym (f (λ i. true))
same_test false true f g = g (λ i. true)

-- a set of all that are in either of two
bit_or_of : (a b : ℕ) → max a b ≡ 1 → a < 2 → b < 2 → (a ≡ 1) ⊎ (b ≡ 1)
bit_or_of a b h p q = elim (cases_eq a 1) [ inl is ↦ inl is | inr other ↦ inr (omega (arith, h, p, q, other)) ]

pub in_either : (a b i : ℕ) → holds (bit_or a b) i ≡ true → (holds a i ≡ true) ⊎ (holds b i ≡ true)
unfolding Has
in_either a b i h = elim (bit_or_of (bit_at a i) (bit_at b i) (sym (bit_at_or a b i) ∙ holds_has (bit_or a b) i h) (bit_at-lt a i) (bit_at-lt b i)) [
  | inl x ↦ inl (has_holds a i x)
  | inr x ↦ inr (has_holds b i x)
]

most_of : (a b : ℕ) → (a ≡ 1) ⊎ (b ≡ 1) → a < 2 → b < 2 → max a b ≡ 1
most_of a b (inl h) p q = omega (arith, h, p, q)
most_of a b (inr h) p q = omega (arith, h, p, q)

has_either : (a b i : ℕ) → (holds a i ≡ true) ⊎ (holds b i ≡ true) → (bit_at a i ≡ 1) ⊎ (bit_at b i ≡ 1)
unfolding Has
has_either a b i (inl h) = inl (holds_has a i h)
has_either a b i (inr h) = inr (holds_has b i h)

pub either_in : (a b i : ℕ) → (holds a i ≡ true) ⊎ (holds b i ≡ true) → holds (bit_or a b) i ≡ true
unfolding Has
either_in a b i h = has_holds (bit_or a b) i (bit_at_or a b i ∙ most_of (bit_at a i) (bit_at b i) (has_either a b i h) (bit_at-lt a i) (bit_at-lt b i))

-- those of a set that hold, of a set of all of which something is so
pub among : (w : WorldView) (set : ℕ) (P : ℕ → Type 0) (holding : ℕ) → AreJobs w.plan set P → AreJobs w.plan holding (IsHoldingOf set w.state)
    → AreJobs w.plan holding (λ k. P k × IsDrinking (phase w.state k))
among w set P holding all held = record {
  of_plan = held.of_plan;
  just = λ j job. (
    λ h. let x = (held.just j job).0 h in ((all.just j job).0 x.0, x.1),
    λ q. (held.just j job).1 ((all.just j job).1 q.0, q.1),
  );
}
