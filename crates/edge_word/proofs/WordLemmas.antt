-- The word of an edge and its state are one and the same.
use Rattle.std.proofs.Common.{◌≡◌, ℕ, ◌/◌, ◌%◌, ◌^◌, ◌<◌, ◌≤◌, Bool, true, false, arith, refl, sym, ap, ◌∙◌, lit<}
use Rattle.std.proofs.Math.Nat.{pow-le-pow_right}
use Rattle.legal_steps.specs.declared.end.End.{End}
use Rattle.legal_steps.specs.declared.end.End.TheVariants.{Lower, Higher}
use Rattle.legal_steps.specs.declared.edge_state.EdgeState.{EdgeState}
use Rattle.edge_word.specs.Words.{end_bit, flag_bit, end_at, flag_at, word_of, word_of_fields, state_of, IsEdgeWord, IsOfBottles, IsSetOf}
use Rattle.edge_word.specs.declared.moves.EdgeMoves.{EdgeMoves}
use Rattle.edge_word.specs.Moves.{AreOfBottles}

end_at-end_bit : (x : End) → end_at (end_bit x) ≡ x
unfolding end_at
end_at-end_bit Lower = refl
end_at-end_bit Higher = refl

flag_at-flag_bit : (x : Bool) → flag_at (flag_bit x) ≡ x
unfolding flag_at
flag_at-flag_bit false = refl
flag_at-flag_bit true = refl

pub end_bit-lt : (x : End) → end_bit x < 2
end_bit-lt Lower = omega arith
end_bit-lt Higher = omega arith

pub flag_bit-lt : (x : Bool) → flag_bit x < 2
flag_bit-lt false = omega arith
flag_bit-lt true = omega arith

-- the fields of a word
pub word_fields : (f d t b k : ℕ) → f < 2 → d < 2 → t < 2 → b < 2 ^ 28 → (word_of_fields f d t b k % 2 ≡ f)
    × (word_of_fields f d t b k / 2 % 2 ≡ d) × (word_of_fields f d t b k / 4 % 2 ≡ t) × (word_of_fields f d t b k / 8 % 2 ≡ 0)
    × (word_of_fields f d t b k / 2 ^ 4 % 2 ^ 28 ≡ b) × (word_of_fields f d t b k / 2 ^ 32 ≡ k)
unfolding word_of_fields
word_fields f d t b k p q r s = (omega arith, omega arith, omega arith, omega arith, omega arith, omega arith)

pub state_of-word_of : (x : EdgeState) → x.bottles < 2 ^ 28 → state_of (word_of x) ≡ x
unfolding state_of
state_of-word_of x h =
    let e = word_fields (end_bit x.fork) (flag_bit x.dirty) (end_bit x.token) x.bottles x.bottle_tokens
    (end_bit-lt x.fork) (flag_bit-lt x.dirty) (end_bit-lt x.token) h in
    rw (e.0, e.1, e.2, e.4, e.5, end_at-end_bit x.fork, flag_at-flag_bit x.dirty, end_at-end_bit x.token) refl

-- the word of a state is an edge word, and no other state has it
pub IsEdgeWord-word_of : (x : EdgeState) → IsOfBottles 28 x → IsEdgeWord (word_of x)
unfolding word_of_fields
IsEdgeWord-word_of x h =
    let f = end_bit-lt x.fork in let d = flag_bit-lt x.dirty in let t = end_bit-lt x.token in
    record { bit_three = omega (arith, h.bottles_fit, h.tokens_fit); top_bits = omega (arith, h.bottles_fit, h.tokens_fit) }

pub word_of-injective : (x y : EdgeState) → x.bottles < 2 ^ 28 → y.bottles < 2 ^ 28 → word_of x ≡ word_of y → x ≡ y
word_of-injective x y h g e = sym (state_of-word_of x h) ∙ (ap state_of e ∙ state_of-word_of y g)

-- sets of fewer bottles than 28 fit their fields
pub within : (n set : ℕ) → n ≤ 28 → set < 2 ^ n → set < 2 ^ 28
within n set few h = let most : 2 ^ n ≤ 2 ^ 28 = pow-le-pow_right (lit< tt) few in omega (arith, h, most)

pub IsOfBottles-28 : (n : ℕ) (x : EdgeState) → n ≤ 28 → IsOfBottles n x → IsOfBottles 28 x
IsOfBottles-28 n x few h = record { bottles_fit = within n x.bottles few h.bottles_fit; tokens_fit = within n x.bottle_tokens few h.tokens_fit }

pub IsSetOf-28 : (n set : ℕ) → n ≤ 28 → IsSetOf n set → IsSetOf 28 set
IsSetOf-28 n set few h = record { not_empty = h.not_empty; of_edge = within n set few h.of_edge }

pub AreOfBottles-28 : (n : ℕ) (m : EdgeMoves) → n ≤ 28 → AreOfBottles n m → AreOfBottles 28 m
AreOfBottles-28 n m few h = record { give_fits = within n m.give_bottles few h.give_fits; ask_fits = within n m.ask_bottles few h.ask_fits }
