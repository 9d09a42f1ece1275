-- For readers: what a phase word spells: the table of its bits, as a number and as how far a job is.
use Rattle.std.specs.Prelude.{◌≡◌, ℕ, ◌+◌, ◌*◌, ◌/◌, ◌%◌, ◌^◌, ◌<◌, if◌then◌else◌, ◌==◌}
use Rattle.legal_steps.specs.declared.phase.Dining.{Dining}
use Rattle.legal_steps.specs.declared.phase.Dining.TheVariants.{Thinking, Hungry, Eating}
use Rattle.legal_steps.specs.declared.phase.Drinking.{Drinking}
use Rattle.legal_steps.specs.declared.phase.Drinking.TheVariants.{Tranquil, Thirsty, Drinking as Drinks, Reaching, Retired}
use Rattle.legal_steps.specs.declared.phase.JobState.{JobState}

abbrev pub dining_code : Dining → ℕ
dining_code Thinking = 0
dining_code Hungry = 1
dining_code Eating = 2

abbrev pub drinking_code : Drinking → ℕ
drinking_code Tranquil = 0
drinking_code Thirsty = 1
drinking_code Drinks = 2
drinking_code Reaching = 3
drinking_code Retired = 4

-- the word of a phase: bits 0 and 1 dining, 2 to 4 drinking, 8 to 31 the session, 32 to 63 the position
unfoldable pub phase_word_of : JobState → ℕ
phase_word_of x = x.position * 2 ^ 32 + x.session * 2 ^ 8 + drinking_code x.drinking * 4 + dining_code x.dining

-- the numbers fit their fields
pub record FitsPhaseWord (x : JobState) : Type 0 where
  pub session_fits : x.session < 2 ^ 24
  pub position_fits : x.position < 2 ^ 32

-- ---- the other way

-- what a code stands for; codes above the last are refused before
unfoldable pub dining_at : ℕ → Dining
dining_at code = if code == 0 then Thinking else if code == 1 then Hungry else Eating

unfoldable pub drinking_at : ℕ → Drinking
drinking_at code = if code == 0 then Tranquil else if code == 1 then Thirsty else if code == 2 then Drinks else if code == 3 then Reaching else Retired

-- the phase that a word spells
unfoldable pub phase_of : ℕ → JobState
phase_of w = record {
  dining = dining_at (w % 4);
  drinking = drinking_at (w / 4 % 8);
  session = w / 2 ^ 8 % 2 ^ 24;
  position = w / 2 ^ 32;
}

-- a word with known codes, and with no bit that is zero in every phase word
pub record IsPhaseWord (w : ℕ) : Type 0 where
  pub dining_known : w % 4 < 3
  pub drinking_known : w / 4 % 8 < 5
  pub zeros : w / 32 % 8 ≡ 0
