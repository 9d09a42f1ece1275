-- What a look sees.
use Rattle.std.proofs.Common.{◌≡◌, ◌≢◌, ◌⊎◌, ℕ, ◌<◌, length, not, ◌&&◌, ◌||◌, Bool, true, false, arith, refl, sym, ap, ◌∙◌, inl, inr}
use Rattle.std.specs.Int.{bit_at}
use Rattle.std.proofs.lemmas.Nat.Bits.{bit_at_xor, bit_at_ones}
use Rattle.lab_plan.specs.LabPlan.{LabPlan, bottles}
use Rattle.legal_steps.specs.declared.end.End.{End}
use Rattle.legal_steps.specs.declared.end.End.TheVariants.{Lower, Higher}
use Rattle.legal_steps.specs.declared.phase.Dining.TheVariants.{Hungry, Eating}
use Rattle.legal_steps.specs.declared.edge_state.EdgeState.{EdgeState}
use Rattle.legal_steps.specs.State.{Has, bottle_end, bottles_at, all_bottles}
use Rattle.legal_steps.specs.Legal.{fork_mark_seen, is_at}
use Rattle.lab_plan.proofs.Bits.{bit_cases}

-- ---- forks

-- an eating job marks a dirty fork that is here
pub eating_seen : (here : End) (x : EdgeState) → x.fork ≡ here → x.dirty ≡ true → fork_mark_seen Eating here x ≡ true
unfolding fork_mark_seen
eating_seen Lower x f d = ap (λ t. is_at Lower t && x.dirty) f ∙ d
eating_seen Higher x f d = ap (λ t. is_at Higher t && x.dirty) f ∙ d

not_at : (a b : End) → b ≢ a → is_at a b ≡ false
not_at Lower Lower h = absurd (h refl)
not_at Lower Higher h = refl
not_at Higher Lower h = refl
not_at Higher Higher h = absurd (h refl)

or_true : (b : Bool) → (b || true) ≡ true
or_true true = refl
or_true false = refl

-- a hungry job marks a fork that is here and clean or not asked for
unasked : (here : End) (x : EdgeState) → (x.dirty ≡ false) ⊎ (x.token ≢ here) → (not x.dirty || not (is_at here x.token)) ≡ true
unasked here x h = elim h [
  | inl clean ↦ ap (λ b. not b || not (is_at here x.token)) clean
  | inr away ↦ ap (λ b. not x.dirty || not b) (not_at here x.token away) ∙ or_true (not x.dirty)
]

pub hungry_seen : (here : End) (x : EdgeState) → x.fork ≡ here → (x.dirty ≡ false) ⊎ (x.token ≢ here) → fork_mark_seen Hungry here x ≡ true
unfolding fork_mark_seen
hungry_seen Lower x f h = ap (λ t. is_at Lower t && (not x.dirty || not (is_at Lower x.token))) f ∙ unasked Lower x h
hungry_seen Higher x f h = ap (λ t. is_at Higher t && (not x.dirty || not (is_at Higher x.token))) f ∙ unasked Higher x h

-- ---- bottles

low_end : (set k : ℕ) → bit_at set k ≡ 0 → bottle_end set k ≡ Lower
unfolding bottle_end
low_end set k none = rw none refl

high_end : (set k : ℕ) → bit_at set k ≡ 1 → bottle_end set k ≡ Higher
unfolding bottle_end
high_end set k one = rw one refl

apart : Lower ≡ Higher → ⊥
apart h = cc

-- a look marks each bottle that is here
pub bottle_seen : (plan : LabPlan) (e k : ℕ) (here : End) (x : EdgeState)
    → k < length (bottles plan e) → bottle_end x.bottles k ≡ here → Has (bottles_at plan e here x) k
unfolding Has bottles_at
bottle_seen plan e k Higher x small h = elim (bit_cases x.bottles k) [ inr one ↦ one | inl none ↦ absurd (apart (sym (low_end x.bottles k none) ∙ h)) ]
bottle_seen plan e k Lower x small h = elim (bit_cases x.bottles k) [
  | inl none ↦ omega (arith, bit_at_xor (all_bottles plan e) x.bottles k, bit_at_ones (length (bottles plan e)) k small, none)
  | inr one ↦ absurd (apart (sym h ∙ high_end x.bottles k one))
]
