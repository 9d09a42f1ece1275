-- The fields of a phase word.
use Rattle.std.proofs.Common.{◌≡◌, ℕ, ◌^◌, ◌<◌, arith, refl, sym, ap, ◌∙◌, subst}
use Rattle.legal_steps.specs.declared.phase.Dining.{Dining}
use Rattle.legal_steps.specs.declared.phase.Dining.TheVariants.{Thinking, Hungry, Eating}
use Rattle.legal_steps.specs.declared.phase.Drinking.{Drinking}
use Rattle.legal_steps.specs.declared.phase.Drinking.TheVariants.{Tranquil, Thirsty, Drinking as Drinks, Reaching, Retired}
use Rattle.legal_steps.specs.declared.phase.JobState.{JobState}
use Rattle.edge_word.specs.Phases.{dining_code, drinking_code, dining_at, drinking_at, phase_word_of, phase_of, FitsPhaseWord, IsPhaseWord}
use Rattle.edge_word.specs.PhaseCodec.{phase_word_of-phase_of}
use Rattle.edge_word.specs.Table.{SpellsPhase}

pub dining_code-lt : (x : Dining) → dining_code x < 3
dining_code-lt Thinking = omega arith
dining_code-lt Hungry = omega arith
dining_code-lt Eating = omega arith

pub drinking_code-lt : (x : Drinking) → drinking_code x < 5
drinking_code-lt Tranquil = omega arith
drinking_code-lt Thirsty = omega arith
drinking_code-lt Drinks = omega arith
drinking_code-lt Reaching = omega arith
drinking_code-lt Retired = omega arith

dining_at-dining_code : (x : Dining) → dining_at (dining_code x) ≡ x
unfolding dining_at
dining_at-dining_code Thinking = refl
dining_at-dining_code Hungry = refl
dining_at-dining_code Eating = refl

drinking_at-drinking_code : (x : Drinking) → drinking_at (drinking_code x) ≡ x
unfolding drinking_at
drinking_at-drinking_code Tranquil = refl
drinking_at-drinking_code Thirsty = refl
drinking_at-drinking_code Drinks = refl
drinking_at-drinking_code Reaching = refl
drinking_at-drinking_code Retired = refl

-- the fields of the word of a phase
pub phase_fields : (x : JobState) → FitsPhaseWord x → SpellsPhase (phase_word_of x) x
unfolding phase_word_of
phase_fields x h =
    let a = dining_code-lt x.dining in let b = drinking_code-lt x.drinking in let c = h.session_fits in
    record { dining = omega arith; drinking = omega arith; zeros = omega arith; session = omega arith; position = omega arith }

-- a word with these fields is that of the phase
pub phase_word-fields : (w : ℕ) (x : JobState) → SpellsPhase w x → phase_word_of x ≡ w
unfolding phase_word_of
phase_word-fields w x h = omega (arith, h.dining, h.drinking, h.zeros, h.session, h.position)

-- a word with these fields spells the phase
spelled : (w : ℕ) (x : JobState) → SpellsPhase w x → phase_of w ≡ x
unfolding phase_of
spelled w x h = rw (h.dining, h.drinking, h.session, h.position, dining_at-dining_code x.dining, drinking_at-drinking_code x.drinking) refl

pub phase_of-phase_word_of : (x : JobState) → FitsPhaseWord x → phase_of (phase_word_of x) ≡ x
phase_of-phase_word_of x h = spelled (phase_word_of x) x (phase_fields x h)

-- the word of a phase is a phase word
pub IsPhaseWord-phase_word_of : (x : JobState) → FitsPhaseWord x → IsPhaseWord (phase_word_of x)
IsPhaseWord-phase_word_of x h =
    let f = phase_fields x h in let a = dining_code-lt x.dining in let b = drinking_code-lt x.drinking in
    record { dining_known = omega (arith, f.dining, a); drinking_known = omega (arith, f.drinking, b); zeros = f.zeros }

-- a word that passes the test is that of a phase, and only such a word
pub passed : (w : ℕ) → w < 2 ^ 64 → IsPhaseWord w → (phase_word_of (phase_of w) ≡ w) × FitsPhaseWord (phase_of w)
unfolding phase_of
passed w small h = (phase_word_of-phase_of w h, record { session_fits = omega arith; position_fits = omega (arith, small) })

pub passes : (w : ℕ) (x : JobState) → FitsPhaseWord x → phase_word_of x ≡ w → IsPhaseWord w
passes w x h e = subst IsPhaseWord e (IsPhaseWord-phase_word_of x h)

-- the word behind a phase
pub phase_behind : (w : ℕ) (x : JobState) → IsPhaseWord w → phase_of w ≡ x → w ≡ phase_word_of x
phase_behind w x h e = sym (phase_word_of-phase_of w h) ∙ ap phase_word_of e

pub no_two_phases : (x y : JobState) → FitsPhaseWord x → FitsPhaseWord y → phase_word_of x ≡ phase_word_of y → x ≡ y
no_two_phases x y h g e = sym (phase_of-phase_word_of x h) ∙ (ap phase_of e ∙ phase_of-phase_word_of y g)
