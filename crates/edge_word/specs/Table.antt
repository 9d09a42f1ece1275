-- For readers: the tables of both words: of an edge word bit by bit, of a phase word field by field.
use Rattle.std.specs.Prelude.{◌≡◌, ℕ, ◌+◌, ◌/◌, ◌%◌, ◌^◌, ◌<◌, ◌≤◌}
use Rattle.std.specs.Int.{bit_at}
use Rattle.lab_plan.specs.Limits.{most_bottles}
use Rattle.legal_steps.specs.declared.edge_state.EdgeState.{EdgeState}
use Rattle.legal_steps.specs.declared.phase.JobState.{JobState}
use Rattle.edge_word.specs.Words.{end_bit, flag_bit}
use Rattle.edge_word.specs.Phases.{dining_code, drinking_code}

-- the word w of an edge with n bottles spells the state x
pub record Spells (n w : ℕ) (x : EdgeState) : Type 0 where
  pub fork : bit_at w 0 ≡ end_bit x.fork
  pub dirty : bit_at w 1 ≡ flag_bit x.dirty
  pub token : bit_at w 2 ≡ end_bit x.token
  pub zero : bit_at w 3 ≡ 0
  pub bottles : (k : ℕ) → k < most_bottles → bit_at w (4 + k) ≡ bit_at x.bottles k
  pub bottle_tokens : (k : ℕ) → k < most_bottles → bit_at w (32 + k) ≡ bit_at x.bottle_tokens k
  pub top : (i : ℕ) → 60 ≤ i → bit_at w i ≡ 0
  pub no_other_bottle : (k : ℕ) → n ≤ k → (bit_at x.bottles k ≡ 0) × (bit_at x.bottle_tokens k ≡ 0)

-- the word w spells the phase x: bits 0 and 1, 2 to 4, 5 to 7, 8 to 31, 32 to 63
pub record SpellsPhase (w : ℕ) (x : JobState) : Type 0 where
  pub dining : w % 4 ≡ dining_code x.dining
  pub drinking : w / 4 % 8 ≡ drinking_code x.drinking
  pub zeros : w / 32 % 8 ≡ 0
  pub session : w / 2 ^ 8 % 2 ^ 24 ≡ x.session
  pub position : w / 2 ^ 32 ≡ x.position
