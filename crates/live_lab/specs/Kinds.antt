-- Jobs of which something is asked.
use Rattle.std.specs.Prelude.{◌≡◌, ℕ, true, List}
use Rattle.legal_steps.specs.declared.event.Event.TheVariants.{Thirst}
use Rattle.legal_steps.specs.State.{Has, IsDrinking, phase, drinking}
use Rattle.legal_steps.specs.Legal.{May}
use Rattle.interleaving.specs.World.{WorldView}
use Rattle.turns.specs.Patience.{is_waiting}
use Rattle.live_lab.specs.declared.clock.Clock.{Clock}
use Rattle.live_lab.specs.declared.kinds.Kind.{Kind}
use Rattle.live_lab.specs.declared.kinds.Kind.TheVariants.{Waits, Begins, IsImpatient, Holds, NoneLeft}
use Rattle.live_lab.specs.Settles.{IsOutOfPatience, IsThrough}

abbrev pub IsOf : Kind → ℕ → List Clock → WorldView → ℕ → Type 0
IsOf Waits waiting clocks w j = is_waiting (drinking w.state j) ≡ true
IsOf Begins waiting clocks w j = Has waiting j × May w.plan w.state (Thirst j)
IsOf IsImpatient waiting clocks w j = IsOutOfPatience clocks w j
IsOf Holds waiting clocks w j = IsDrinking (phase w.state j)
IsOf NoneLeft waiting clocks w j = Has waiting j × IsThrough w.plan w.state j
