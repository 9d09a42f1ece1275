-- what is gone from `rest` was taken, and no write has failed
use Rattle.std.proofs.Common.{◌≡◌, List, ℕ, ◌++◌, length}
use Rattle.std.specs.Io.KnownBytes.{Appends}
use Rattle.report.proofs.outlet.offer.Given as goal

abbrev pub invariant-loop-rest : goal.invariant-loop-rest
invariant-loop-rest g l =
    (done : List ℕ) × (l.text ≡ done ++ l.rest) × Appends (g.W.Sink.taken l.fn.sink) (g.W.Sink.taken l.sink) done
    × (g.W.Sink.failures l.sink ≡ g.W.Sink.failures l.fn.sink)

abbrev pub decreases-loop-rest : goal.decreases-loop-rest
decreases-loop-rest g l = length l.rest
