-- A phase word is that of the phase that it spells.
use Rattle.std.proofs.Common.{◌≡◌, ℕ, ◌/◌, ◌%◌, ◌<◌, arith}
use Rattle.std.proofs.lemmas.Bool.Decides.{nat_tests}
use Rattle.edge_word.specs.Phases.{dining_code, drinking_code, dining_at, drinking_at, phase_word_of, phase_of, IsPhaseWord}

-- a code and what it stands for
dining_code-dining_at : (c : ℕ) → c < 3 → dining_code (dining_at c) ≡ c
unfolding dining_at
dining_code-dining_at c h = grind (arith, nat_tests)

drinking_code-drinking_at : (c : ℕ) → c < 5 → drinking_code (drinking_at c) ≡ c
unfolding drinking_at
drinking_code-drinking_at c h = grind (arith, nat_tests)

pub phase_word_of-phase_of : (w : ℕ) → IsPhaseWord w → phase_word_of (phase_of w) ≡ w
unfolding phase_word_of phase_of
phase_word_of-phase_of w h = rw (dining_code-dining_at (w % 4) h.dining_known, drinking_code-drinking_at (w / 4 % 8) h.drinking_known) (omega (arith, h.zeros))
