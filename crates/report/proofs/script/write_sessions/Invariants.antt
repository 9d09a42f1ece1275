-- the sessions so far went out, and nothing failed
use Rattle.std.proofs.Common.{◌≡◌, take}
use Rattle.std.specs.List.{flat_map}
use Rattle.std.specs.Io.KnownBytes.{Appends}
use Rattle.lab_plan.specs.LabPlan.{sessions}
use Rattle.lab_plan.specs.Upgrade.{session_text}
use Rattle.report.proofs.script.write_sessions.Given as goal

abbrev pub invariant-loop-session : goal.invariant-loop-session
invariant-loop-session g l =
    Appends (g.W.Sink.taken l.fn.sink) (g.W.Sink.taken l.sink) (flat_map (session_text l.plan) (take l.session (sessions l.plan l.job)))
    × (g.W.Sink.failures l.sink ≡ g.W.Sink.failures l.fn.sink)
