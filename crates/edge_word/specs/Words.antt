-- For readers: what an edge word spells: the table of its bits, as a number and as the state of an edge.
use Rattle.std.specs.Prelude.{◌≡◌, ◌≢◌, ℕ, ◌+◌, ◌-◌, ◌*◌, ◌/◌, ◌%◌, ◌^◌, ◌<◌, Bool, true, false, not, if◌then◌else◌, ◌==◌}
use Rattle.legal_steps.specs.declared.end.End.{End}
use Rattle.legal_steps.specs.declared.end.End.TheVariants.{Lower, Higher}
use Rattle.legal_steps.specs.declared.edge_state.EdgeState.{EdgeState}

-- the bit of an end, and of a flag
abbrev pub end_bit : End → ℕ
end_bit Lower = 0
end_bit Higher = 1

abbrev pub flag_bit : Bool → ℕ
flag_bit false = 0
flag_bit true = 1

-- the word of five fields: bit 0, bit 1, bit 2, bits 4 to 31, bits 32 to 59
unfoldable pub word_of_fields : ℕ → ℕ → ℕ → ℕ → ℕ → ℕ
word_of_fields fork dirty token bottles tokens = tokens * 2 ^ 32 + bottles * 2 ^ 4 + token * 4 + dirty * 2 + fork

-- the word of an edge
abbrev pub word_of : EdgeState → ℕ
word_of x = word_of_fields (end_bit x.fork) (flag_bit x.dirty) (end_bit x.token) x.bottles x.bottle_tokens

-- the sets name bottles of an edge that has n
pub record IsOfBottles (n : ℕ) (x : EdgeState) : Type 0 where
  pub bottles_fit : x.bottles < 2 ^ n
  pub tokens_fit : x.bottle_tokens < 2 ^ n

-- a nonempty set of bottles of an edge that has n
pub record IsSetOf (n set : ℕ) : Type 0 where
  pub not_empty : set ≢ 0
  pub of_edge : set < 2 ^ n

-- an edge of n bottles as it opens: all but the tokens at the lower end, the fork dirty
abbrev pub opening_edge : ℕ → EdgeState
opening_edge n = record { fork = Lower; dirty = true; token = Higher; bottles = 0; bottle_tokens = 2 ^ n - 1 }

-- ---- the other way

-- the end and the flag of a bit
unfoldable pub end_at : ℕ → End
end_at bit = if bit == 0 then Lower else Higher

unfoldable pub flag_at : ℕ → Bool
flag_at bit = not (bit == 0)

-- the state that a word spells
unfoldable pub state_of : ℕ → EdgeState
state_of w = record {
  fork = end_at (w % 2);
  dirty = flag_at (w / 2 % 2);
  token = end_at (w / 4 % 2);
  bottles = w / 2 ^ 4 % 2 ^ 28;
  bottle_tokens = w / 2 ^ 32;
}

-- no bit is set that is zero in every edge word
pub record IsEdgeWord (w : ℕ) : Type 0 where
  pub bit_three : w / 8 % 2 ≡ 0
  pub top_bits : w < 2 ^ 60

-- bit 3, and the bits of bottles and tokens that an edge of n bottles doesn't have, added up
abbrev pub stray_bits : ℕ → ℕ → ℕ
stray_bits w n = w / 8 % 2 + w / 2 ^ 4 % 2 ^ 28 / 2 ^ n + w / 2 ^ 32 / 2 ^ n
