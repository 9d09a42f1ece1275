-- The bits of a word that change.
use Rattle.std.proofs.Common.{◌≡◌, ℕ, ◌+◌, ◌*◌, ◌/◌, ◌%◌, ◌^◌, ◌<◌, ◌≤◌, Bool, true, false, arith, refl, sym, ap, ◌∙◌, subst, lit<, bit_xor}
use Rattle.std.specs.Int.{bit_at}
use Rattle.std.proofs.lemmas.Nat.{xor_block, xor_lt, shr_split, mod_below, pow_pos, shr-shr}
use Rattle.std.proofs.lemmas.Nat.Bits.{bit_at_cat_low}
use Rattle.std.proofs.Math.Nat.{pow-le-pow_right, div-eq_of_lt}
use Rattle.legal_steps.specs.declared.end.End.{End}
use Rattle.legal_steps.specs.declared.end.End.TheVariants.{Lower, Higher}
use Rattle.legal_steps.specs.declared.edge_state.EdgeState.{EdgeState}
use Rattle.edge_word.specs.Words.{stray_bits, end_bit, flag_bit, end_at, word_of, word_of_fields, state_of, IsEdgeWord, IsOfBottles}
use Rattle.edge_word.specs.WordCodec.{word_of-state_of}
use Rattle.edge_word.proofs.WordLemmas.{end_bit-lt, flag_bit-lt, state_of-word_of, word_of-injective, IsEdgeWord-word_of, word_fields}
use Rattle.legal_steps.specs.State.{bottle_end}
use Rattle.edge_word.specs.Moves.{mask, flipped, end_moved, flag_turned}
use Rattle.edge_word.specs.declared.edge.Flips.{Flips}

-- two words differ where their fields do
pub word_xor : (f d t b k f' d' t' b' k' : ℕ) → f < 2 → d < 2 → t < 2 → b < 2 ^ 28 → f' < 2 → d' < 2 → t' < 2 → b' < 2 ^ 28
    → bit_xor (word_of_fields f d t b k) (word_of_fields f' d' t' b' k')
    ≡ word_of_fields (bit_xor f f') (bit_xor d d') (bit_xor t t') (bit_xor b b') (bit_xor k k')
unfolding word_of_fields
word_xor f d t b k f' d' t' b' k' p q r s p' q' r' s' =
    let steps : (f d t b k : ℕ) → k * 2 ^ 32 + b * 2 ^ 4 + t * 4 + d * 2 + f ≡ (k * 2 ^ 28 + b) * 2 ^ 4 + (t * 2 ^ 2 + (d * 2 ^ 1 + f)) =
    λ f d t b k. omega arith in
    rw (
      steps f d t b k,
      steps f' d' t' b' k',
      xor_block 4 (k * 2 ^ 28 + b) (k' * 2 ^ 28 + b') (t * 2 ^ 2 + (d * 2 ^ 1 + f)) (t' * 2 ^ 2 + (d' * 2 ^ 1 + f')) (omega arith) (omega arith),
      xor_block 28 k k' b b' s s',
      xor_block 2 t t' (d * 2 ^ 1 + f) (d' * 2 ^ 1 + f') (omega arith) (omega arith),
      xor_block 1 d d' f f' p p',
    ) (omega arith)

-- what a flag adds to the bit of an end, or of a flag
end_moved-bit : (m : Bool) (x : End) → bit_xor (end_bit x) (flag_bit m) ≡ end_bit (end_moved m x)
end_moved-bit false Lower = refl
end_moved-bit false Higher = refl
end_moved-bit true Lower = refl
end_moved-bit true Higher = refl

flag_turned-bit : (m x : Bool) → bit_xor (flag_bit x) (flag_bit m) ≡ flag_bit (flag_turned m x)
flag_turned-bit false false = refl
flag_turned-bit false true = refl
flag_turned-bit true false = refl
flag_turned-bit true true = refl

-- the word of the edge after the change
pub word_of-flipped : (x : EdgeState) (m : Flips) → x.bottles < 2 ^ 28 → m.bottles < 2 ^ 28 → bit_xor (word_of x) (mask m) ≡ word_of (flipped m x)
word_of-flipped x m h g =
    word_xor (end_bit x.fork) (flag_bit x.dirty) (end_bit x.token) x.bottles x.bottle_tokens
    (flag_bit m.fork) (flag_bit m.dirty) (flag_bit m.token) m.bottles m.bottle_tokens
    (end_bit-lt x.fork) (flag_bit-lt x.dirty) (end_bit-lt x.token) h (flag_bit-lt m.fork) (flag_bit-lt m.dirty) (flag_bit-lt m.token) g
    ∙ rw (end_moved-bit m.fork x.fork, flag_turned-bit m.dirty x.dirty, end_moved-bit m.token x.token) refl

pub IsOfBottles-flipped : (n : ℕ) (x : EdgeState) (m : Flips) → IsOfBottles n x → m.bottles < 2 ^ n → m.bottle_tokens < 2 ^ n → IsOfBottles n (flipped m x)
IsOfBottles-flipped n x m h p q = record {
  bottles_fit = xor_lt n x.bottles m.bottles h.bottles_fit p;
  tokens_fit = xor_lt n x.bottle_tokens m.bottle_tokens h.tokens_fit q;
}

-- the state of an edge word has no bottle from 28 on
pub IsOfBottles-state_of : (w : ℕ) → IsEdgeWord w → IsOfBottles 28 (state_of w)
unfolding state_of
IsOfBottles-state_of w h = record { bottles_fit = omega arith; tokens_fit = omega (arith, h.top_bits) }

-- the word behind a state
pub word_behind : (w : ℕ) (x : EdgeState) → IsEdgeWord w → state_of w ≡ x → w ≡ word_of x
word_behind w x h e = sym (word_of-state_of w h) ∙ ap word_of e

-- a word that is changed spells the changed state
pub state_of-flipped : (w n : ℕ) (x : EdgeState) (m : Flips) → IsEdgeWord w → state_of w ≡ x → m.bottles < 2 ^ 28
    → m.bottle_tokens < 2 ^ 28 → n ≡ mask m → IsEdgeWord (bit_xor w n) × (state_of (bit_xor w n) ≡ flipped m x)
state_of-flipped w n x m h e p q k =
    let fits : IsOfBottles 28 x = subst (IsOfBottles 28) e (IsOfBottles-state_of w h) in
    let after = IsOfBottles-flipped 28 x m fits p q in
    let same : bit_xor w n ≡ word_of (flipped m x) =
    ap (bit_xor w) k ∙ (ap (λ a. bit_xor a (mask m)) (word_behind w x h e) ∙ word_of-flipped x m fits.bottles_fit p) in
    (rw same (IsEdgeWord-word_of (flipped m x) after), rw same (state_of-word_of (flipped m x) after.bottles_fit))

-- ---- the test of a word

pub below : (x n : ℕ) → x / 2 ^ n ≡ 0 → x < 2 ^ n
below x n e = let whole : x / 2 ^ n * 2 ^ n + x % 2 ^ n ≡ x = shr_split x n in let left = mod_below x (2 ^ n) (pow_pos n) in omega (arith, rw e at whole, left)

pub above : (x n : ℕ) → x < 2 ^ n → x / 2 ^ n ≡ 0
above x n h = div-eq_of_lt h

-- a word that passes the test is an edge word of n bottles
pub IsEdgeWord-tested : (w n : ℕ) → n ≤ 28 → stray_bits w n ≡ 0 → IsEdgeWord w × IsOfBottles n (state_of w)
unfolding state_of
IsEdgeWord-tested w n few e =
    let tokens = below (w / 2 ^ 32) n (omega arith) in
    let most : 2 ^ n ≤ 2 ^ 28 = pow-le-pow_right (lit< tt) few in (
      record { bit_three = omega arith; top_bits = omega (arith, tokens, most) },
      record { bottles_fit = below (w / 2 ^ 4 % 2 ^ 28) n (omega arith); tokens_fit = tokens },
    )

-- a word of n bottles passes the test
pub tested : (x : EdgeState) (w n : ℕ) → n ≤ 28 → IsOfBottles n x → word_of x ≡ w → stray_bits w n ≡ 0
tested x w n few h same =
    let most : 2 ^ n ≤ 2 ^ 28 = pow-le-pow_right (lit< tt) few in
    let b : x.bottles < 2 ^ 28 = omega (arith, h.bottles_fit) in
    let e = word_fields (end_bit x.fork) (flag_bit x.dirty) (end_bit x.token) x.bottles x.bottle_tokens
    (end_bit-lt x.fork) (flag_bit-lt x.dirty) (end_bit-lt x.token) b in
    let y : w / 2 ^ 4 % 2 ^ 28 / 2 ^ n ≡ 0 = rw (← same, e.4) (above x.bottles n h.bottles_fit) in
    let z : w / 2 ^ 32 / 2 ^ n ≡ 0 = rw (← same, e.5) (above x.bottle_tokens n h.tokens_fit) in
    let v : w / 8 % 2 ≡ 0 = rw (← same) e.3 in
    omega (arith, v, y, z)

-- ---- one bottle
pub bottle_read : (w k : ℕ) (x : EdgeState) → k < 28 → state_of w ≡ x → end_at (w / 2 ^ (4 + k) % 2) ≡ bottle_end x.bottles k
unfolding state_of bottle_end end_at
bottle_read w k x h e =
    let bit : w / 2 ^ (4 + k) % 2 ≡ bit_at (w / 2 ^ 4 % 2 ^ 28) k =
    rw (← shr-shr w 4 k) (ap (λ n. bit_at n k) (sym (shr_split (w / 2 ^ 4) 28)) ∙ bit_at_cat_low (w / 2 ^ 4 / 2 ^ 28) 28 (w / 2 ^ 4 % 2 ^ 28) k h) in
    ap end_at bit ∙ ap (λ (y : EdgeState). bottle_end y.bottles k) e

pub token_read : (w k : ℕ) (x : EdgeState) → state_of w ≡ x → end_at (w / 2 ^ (32 + k) % 2) ≡ bottle_end x.bottle_tokens k
unfolding state_of bottle_end end_at
token_read w k x e = ap (λ n. end_at (n % 2)) (sym (shr-shr w 32 k)) ∙ ap (λ (y : EdgeState). bottle_end y.bottle_tokens k) e

-- ---- laws

pub no_two_edges : (x y : EdgeState) → IsOfBottles 28 x → IsOfBottles 28 y → word_of x ≡ word_of y → x ≡ y
no_two_edges x y h g e = word_of-injective x y h.bottles_fit g.bottles_fit e
