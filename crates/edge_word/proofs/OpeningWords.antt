-- An edge as it opens.
use Rattle.std.proofs.Common.{◌≡◌, ℕ, ◌+◌, ◌-◌, ◌*◌, ◌%◌, ◌^◌, ◌<◌, ◌≤◌, length, replicate, arith, ap, ◌∙◌, lit<}
use Rattle.std.proofs.Math.Nat.{pow-le-pow_right}
use Rattle.std.proofs.lemmas.Nat.{pow_pos}
use Rattle.std.specs.Int.Bits.{xor_zero_r}
use Rattle.std.proofs.lemmas.List.{length-replicate, get_or-replicate}
use Rattle.lab_plan.specs.LabPlan.{LabPlan, edges, bottles}
use Rattle.legal_steps.specs.declared.end.End.TheVariants.{Lower}
use Rattle.legal_steps.specs.declared.edge_state.EndChoice.{EndChoice}
use Rattle.legal_steps.specs.State.{all_bottles}
use Rattle.legal_steps.specs.Opening.{chosen_edge}
use Rattle.legal_steps.proofs.OpeningChoices.{opening_edge as opened_edge}
use Rattle.edge_word.specs.WordLaws.{OpensAsTheOpening}
use Rattle.edge_word.specs.Words.{opening_edge, word_of, word_of_fields, state_of, IsEdgeWord, IsOfBottles}
use Rattle.edge_word.proofs.WordLemmas.{IsEdgeWord-word_of, state_of-word_of}

abbrev lower : EndChoice
lower = record { fork = Lower; bottles = 0 }

lower_edge : (plan : LabPlan) (e : ℕ) → chosen_edge plan e lower ≡ opening_edge (length (bottles plan e))
lower_edge plan e = ap (λ (tokens : ℕ). record (chosen_edge plan e lower) { bottle_tokens = tokens }) (xor_zero_r (all_bottles plan e))

pub opens_as_the_opening : OpensAsTheOpening
opens_as_the_opening = λ plan e here.
    let choices = replicate (length (edges plan)) lower in
    opened_edge plan choices e lower (omega (arith, here, length-replicate (length (edges plan)) lower))
    ∙ (ap (chosen_edge plan e) (get_or-replicate (length (edges plan)) e lower lower here) ∙ lower_edge plan e)

-- ---- its word, as it is computed in 64 bits

abbrev computed : ℕ → ℕ
computed n = (1 * 2 ^ n % 2 ^ 64 - 1) * 2 ^ 32 % 2 ^ 64 + 6

computed-word_of : (n : ℕ) → n ≤ 28 → computed n ≡ word_of (opening_edge n)
unfolding word_of_fields
computed-word_of n few = let most : 2 ^ n ≤ 2 ^ 28 = pow-le-pow_right (lit< tt) few in let some : 0 < 2 ^ n = pow_pos n in omega (arith, most, some)

pub opening_word : (n : ℕ) → n ≤ 28
    → IsEdgeWord ((1 * 2 ^ n % 2 ^ 64 - 1) * 2 ^ 32 % 2 ^ 64 + 6) × (state_of ((1 * 2 ^ n % 2 ^ 64 - 1) * 2 ^ 32 % 2 ^ 64 + 6) ≡ opening_edge n)
opening_word n few =
    let most : 2 ^ n ≤ 2 ^ 28 = pow-le-pow_right (lit< tt) few in
    let some : 0 < 2 ^ n = pow_pos n in
    let fits : IsOfBottles 28 (opening_edge n) = record { bottles_fit = omega arith; tokens_fit = omega (arith, most, some) } in
    let same : (1 * 2 ^ n % 2 ^ 64 - 1) * 2 ^ 32 % 2 ^ 64 + 6 ≡ word_of (opening_edge n) = computed-word_of n few in
    (rw same (IsEdgeWord-word_of (opening_edge n) fits), rw same (state_of-word_of (opening_edge n) fits.bottles_fit))
