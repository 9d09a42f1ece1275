-- An edge word is that of the state that it spells.
use Rattle.std.proofs.Common.{◌≡◌, ℕ, ◌/◌, ◌%◌, ◌<◌, arith}
use Rattle.std.proofs.lemmas.Bool.Decides.{nat_tests}
use Rattle.edge_word.specs.Words.{end_bit, flag_bit, end_at, flag_at, word_of, word_of_fields, state_of, IsEdgeWord}

-- a bit and its end, or its flag
end_bit-end_at : (b : ℕ) → b < 2 → end_bit (end_at b) ≡ b
unfolding end_at
end_bit-end_at b h = grind (arith, nat_tests)

flag_bit-flag_at : (b : ℕ) → b < 2 → flag_bit (flag_at b) ≡ b
unfolding flag_at
flag_bit-flag_at b h = grind (arith, nat_tests)

pub word_of-state_of : (w : ℕ) → IsEdgeWord w → word_of (state_of w) ≡ w
unfolding word_of_fields state_of
word_of-state_of w h = rw (end_bit-end_at (w % 2) (omega arith), flag_bit-flag_at (w / 2 % 2) (omega arith), end_bit-end_at (w / 4 % 2) (omega arith))
    (omega (arith, h.bit_three, h.top_bits))
