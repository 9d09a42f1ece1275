-- what was read so far is in `bytes`, and no read has failed
use Rattle.std.proofs.Common.{◌≡◌, ◌≤◌, ◌-◌, vec_len}
use Rattle.std.specs.Io.KnownBytes.{Consumes}
use Rattle.lab_program.proofs.input.read_input.Given as goal

abbrev pub invariant-loop-source : goal.invariant-loop-source
invariant-loop-source g l =
    Consumes (g.R.Source.left l.fn.source) (g.R.Source.left l.source) l.bytes.items
    × (vec_len l.bytes ≤ 16777217) × (g.R.Source.failures l.source ≡ g.R.Source.failures l.fn.source)

abbrev pub decreases-loop-source : goal.decreases-loop-source
decreases-loop-source g l = 16777217 - vec_len l.bytes
