-- For readers: what a settle is to a job that waits outside. By how many it is passed meanwhile, the line's law says.
use Rattle.std.specs.Prelude.{ℕ, List}
use Rattle.legal_steps.specs.declared.event.Event.{Event}
use Rattle.interleaving.specs.World.{WorldView}
use Rattle.late_thirst.specs.Outside.{LineView, IsOutside}
use Rattle.late_thirst.specs.Overtaking.{Waits}
use Rattle.live_lab.specs.declared.settle.Came.{Came}
use Rattle.live_lab.specs.Labs.{LabView}
use Rattle.live_lab.specs.Admitting.{Admits}
use Rattle.live_lab.specs.Settles.{Settles}

-- Letting-ins of a settle, as many as you like from its first on, are a time in which each job waits that is outside behind them
abbrev pub LettingsInAreWaited : Type 0
LettingsInAreWaited =
    (waiting m j : ℕ) (old : WorldView) (line : LineView) (events : List Event) (new : WorldView) (line' : LineView)
    → Admits waiting m old line events new line' → IsOutside line'.places j → Waits j m line line'

-- So is a whole settle, from where the jobs asked
abbrev pub SettlesAreWaited : Type 0
SettlesAreWaited =
    (waiting j : ℕ) (old : LabView) (came : Came) (new : LabView) (s : Settles waiting old came new) → IsOutside new.line.places j
    → (n : ℕ) × Waits j n s.asking new.line
