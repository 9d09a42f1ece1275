-- Reasons to wait, followed to their end.
use Rattle.std.proofs.Common.{◌≡◌, ℕ, zero, suc, ◌<◌, ◌≤◌, true, nat_le, List, length, None, sym, ◌∙◌, inl, inr, arith}
use Rattle.std.proofs.lemmas.Bool.{cases_Bool, false≢true}
use Rattle.bay_line.specs.declared.wish.Wish.{Wish}
use Rattle.bay_line.specs.Wishes.{wish_at, common, is_ready, is_kept}
use Rattle.bay_line.specs.Turns.{KeepsFrom, IsBefore}
use Rattle.bay_line.specs.Lines.{IsChosen}
use Rattle.bay_line.specs.Chains.{HoldsUp, LeadsToUse, EachReasonEnds}
use Rattle.bay_line.proofs.Kept.{and_true_first}

-- whoever keeps an instrument from somebody goes before it
goes_before : (most free : ℕ) (wishes : List Wish) (i k : ℕ) → KeepsFrom most free wishes i k → IsBefore most free wishes i k
goes_before most free wishes i k keeps = (
  keeps.0,
  elim keeps.2 [
    | inl less ↦ inl (less, λ h. keeps.1)
    | inr isnt ↦ inr (keeps.1, isnt)
  ],
)

holds_up : (most free : ℕ) (wishes : List Wish) (i k : ℕ) → KeepsFrom most free wishes i k → common (wish_at wishes k).needs (wish_at wishes i).needs ≡ true
    → HoldsUp most free wishes i k
holds_up most free wishes i k keeps shares = record { before = goes_before most free wishes i k keeps; keeps = keeps; shares = shares }

-- one for which its instruments are kept is held up by one that stands before it
kept_leads : (most in_use free : ℕ) (wishes : List Wish) → IsChosen most in_use free wishes None → (m k : ℕ) → k < m → k < length wishes
    → is_kept most free (wish_at wishes k) ≡ true → (n : ℕ) × (n ≤ k) × LeadsToUse most in_use free wishes n k
kept_leads most in_use free wishes all zero k below inside kept = absurd (omega (arith, below))
kept_leads most in_use free wishes all (suc m) k below inside kept = elim (all k inside) [
  | inl not_ready ↦ absurd (false≢true (sym not_ready ∙ and_true_first (is_ready free (wish_at wishes k)) (nat_le most (wish_at wishes k).passed) kept))
  | inr more ↦ elim more [
    | inl used ↦ (0, omega arith, used)
    | inr one ↦ elim one.1.2 [
      | inl less ↦
          let rest = kept_leads most in_use free wishes all m one.0 (omega (arith, less, below)) one.1.0 one.1.1 in
          (suc rest.0, omega (arith, less, rest.1), (one.0, holds_up most free wishes one.0 k one.1 one.2, rest.2))
      | inr isnt ↦ absurd (false≢true (sym isnt ∙ kept))
    ]
  ]
]

pub each_reason_ends : EachReasonEnds
each_reason_ends most in_use free wishes all k inside = elim (cases_Bool (is_kept most free (wish_at wishes k))) [
  | inl kept ↦ let it = kept_leads most in_use free wishes all (suc k) k (omega arith) inside kept in inr (it.0, omega (arith, it.1, inside), it.2)
  | inr isnt ↦ elim (all k inside) [
    | inl not_ready ↦ inl not_ready
    | inr more ↦ elim more [
      | inl used ↦ inr (0, omega arith, used)
      | inr one ↦
          let rest = kept_leads most in_use free wishes all (suc one.0) one.0 (omega arith) one.1.0 one.1.1 in
          inr (suc rest.0, omega (arith, rest.1, one.1.0), (one.0, holds_up most free wishes one.0 k one.1 one.2, rest.2))
    ]
  ]
]
