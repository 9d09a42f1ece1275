-- Turns that were counted.
use Rattle.std.specs.Prelude.{◌≡◌, ℕ, ◌||◌, List, length, slice_index_or, if◌then◌else◌}
use Rattle.lab_plan.specs.InstrumentSets.{holds}
use Rattle.legal_steps.specs.State.{phase}
use Rattle.legal_steps.specs.Legal.{IsJob}
use Rattle.interleaving.specs.World.{WorldView}
use Rattle.live_lab.specs.declared.clock.Clock.{Clock}
use Rattle.live_lab.specs.Clocks.{no_clock, after_turn}

-- the clock of each job of either set goes on, and those of the second set were thirsty at the start
pub record AreTurnsCounted (w : WorldView) (waiting thirsty : ℕ) (old new : List Clock) : Type 0 where
  pub as_many : length new ≡ length old
  pub each : (j : ℕ) → IsJob w.plan j
      → slice_index_or new j no_clock ≡ (if holds waiting j || holds thirsty j
      then after_turn (holds thirsty j) (phase w.state j) (slice_index_or old j no_clock) else slice_index_or old j no_clock)
