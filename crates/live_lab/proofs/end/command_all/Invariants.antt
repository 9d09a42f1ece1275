-- so many commands were done, and the job is so many further
use Rattle.std.proofs.Common.{◌≡◌, ◌+◌}
use Rattle.legal_steps.specs.State.{phase, position}
use Rattle.interleaving.specs.World.{LeadsTo}
use Rattle.live_lab.specs.Ends.{commands_by}
use Rattle.live_lab.proofs.Phases.{HasSeat}
use Rattle.live_lab.proofs.end.command_all.Given as goal

abbrev pub invariant-loop-number : goal.invariant-loop-number
invariant-loop-number g l =
    LeadsTo l.fn.world (commands_by l.job l._number) l.world × HasSeat l.world.state l.job
    × (phase l.world.state l.job ≡ record (phase l.fn.world.state l.job) { position = position l.fn.world.state l.job + l._number })
