-- Each word is the one number that has the bits of its table.
use Rattle.std.proofs.Common.{◌≡◌, ℕ, ◌+◌, ◌-◌, ◌/◌, ◌%◌, ◌^◌, ◌≤◌, arith, sym, ap, ◌∙◌, inl, inr, subst}
use Rattle.std.specs.Int.{bit_at}
use Rattle.std.proofs.lemmas.Bool.{cases_lt}
use Rattle.std.proofs.lemmas.Nat.{shr-shr, shr_split}
use Rattle.std.proofs.lemmas.Nat.Bits.{bit_at_cat_low, bit_at_above, same_from_bits}
use Rattle.legal_steps.specs.declared.edge_state.EdgeState.{EdgeState}
use Rattle.edge_word.specs.Words.{end_bit, flag_bit, word_of, IsOfBottles}
use Rattle.edge_word.proofs.WordLemmas.{end_bit-lt, flag_bit-lt, word_fields, IsEdgeWord-word_of, IsOfBottles-28}
use Rattle.edge_word.specs.Table.{Spells, SpellsPhase}
use Rattle.edge_word.specs.WordLaws.{HasTheBitsOfTheTable, HasTheFieldsOfTheTable}
use Rattle.edge_word.proofs.PhaseLemmas.{phase_fields, phase_word-fields}

-- the word of a state has the bits of the table
Spells-word_of : (n : ℕ) (x : EdgeState) → n ≤ 28 → IsOfBottles n x → Spells n (word_of x) x
Spells-word_of n x few h =
    let fit = IsOfBottles-28 n x few h in
    let w = word_of x in
    let e = word_fields (end_bit x.fork) (flag_bit x.dirty) (end_bit x.token) x.bottles x.bottle_tokens
    (end_bit-lt x.fork) (flag_bit-lt x.dirty) (end_bit-lt x.token) fit.bottles_fit in
    record {
      fork = ap (λ n. n % 2) (omega arith) ∙ e.0;
      dirty = e.1;
      token = e.2;
      zero = e.3;
      bottles = λ k inside. rw (← shr-shr w 4 k) (ap (λ n. bit_at n k) (sym (shr_split (w / 2 ^ 4) 28))
          ∙ (bit_at_cat_low (w / 2 ^ 4 / 2 ^ 28) 28 (w / 2 ^ 4 % 2 ^ 28) k inside ∙ ap (λ n. bit_at n k) e.4));
      bottle_tokens = λ k inside. rw (← shr-shr w 32 k) (ap (λ n. bit_at n k) e.5);
      top = λ i above. bit_at_above w 60 i (IsEdgeWord-word_of x fit).top_bits above;
      no_other_bottle = λ k past. (bit_at_above x.bottles n k h.bottles_fit past, bit_at_above x.bottle_tokens n k h.tokens_fit past);
    }

-- two words that spell one state are one
same_bits : (n w v : ℕ) (x : EdgeState) → Spells n w x → Spells n v x → (i : ℕ) → bit_at w i ≡ bit_at v i
same_bits n w v x a b i = elim (cases_lt i 4) [
  | inl low ↦ elim (cases_lt i 1) [
    | inl h ↦ at 0 i (omega arith) (a.fork ∙ sym b.fork)
    | inr h1 ↦ elim (cases_lt i 2) [
      | inl h ↦ at 1 i (omega arith) (a.dirty ∙ sym b.dirty)
      | inr h2 ↦ elim (cases_lt i 3) [ inl h ↦ at 2 i (omega arith) (a.token ∙ sym b.token) | inr h ↦ at 3 i (omega arith) (a.zero ∙ sym b.zero) ]
    ]
  ]
  | inr g ↦ elim (cases_lt i 32) [
    | inl h ↦ at (4 + (i - 4)) i (omega arith) (a.bottles (i - 4) (omega arith) ∙ sym (b.bottles (i - 4) (omega arith)))
    | inr g2 ↦ elim (cases_lt i 60) [
      | inl h ↦ at (32 + (i - 32)) i (omega arith) (a.bottle_tokens (i - 32) (omega arith) ∙ sym (b.bottle_tokens (i - 32) (omega arith)))
      | inr h ↦ a.top i h ∙ sym (b.top i h)
    ]
  ]
]
  where
    at : (k i : ℕ) → k ≡ i → bit_at w k ≡ bit_at v k → bit_at w i ≡ bit_at v i
    at k i e same = subst (λ m. bit_at w m ≡ bit_at v m) e same

Spells-is : (n w : ℕ) (x : EdgeState) → n ≤ 28 → IsOfBottles n x → Spells n w x → w ≡ word_of x
Spells-is n w x few h s = same_from_bits w (word_of x) (same_bits n w (word_of x) x s (Spells-word_of n x few h))

pub has_the_bits : HasTheBitsOfTheTable
has_the_bits = λ n w x few h. (λ e. subst (λ v. Spells n v x) (sym e) (Spells-word_of n x few h), Spells-is n w x few h)

pub has_the_fields : HasTheFieldsOfTheTable
has_the_fields = λ w x h. (λ e. subst (λ v. SpellsPhase v x) (sym e) (phase_fields x h), λ s. sym (phase_word-fields w x s))
