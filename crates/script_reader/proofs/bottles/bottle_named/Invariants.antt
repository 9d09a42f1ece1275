use Rattle.std.proofs.Common.{◌≡◌, ◌<◌, ℕ, false, []}
use Rattle.std.specs.Prelude.{slice_index, slice_index_or}
use Rattle.std.specs.Str.{bytes_eq}
use Rattle.lab_plan.specs.LabPlan.{bottles}
use Rattle.script_reader.proofs.bottles.bottle_named.Given as goal

-- no bottle before is of an instrument with the name
abbrev pub invariant-loop-bottle : goal.invariant-loop-bottle
invariant-loop-bottle g l = (k : ℕ) → k < l.bottle → bytes_eq l.name (slice_index_or l.plan.instruments (slice_index (bottles l.plan l.edge) k) []) ≡ false
