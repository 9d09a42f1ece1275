use Rattle.std.proofs.Common.{ℕ, List, length}
use Rattle.script_reader.specs.Fields.{fields}
use Rattle.script_reader.specs.Steps.{bottle_named}
use Rattle.script_reader.proofs.BottleSets.{IsSet}
use Rattle.script_reader.proofs.bottles.bottle_set.Given as goal

abbrev pub invariant-loop-name : goal.invariant-loop-name
invariant-loop-name g l = (done : List (List ℕ)) × (ks : List ℕ) × IsSet (bottle_named l.plan l.edge) (fields l.names) done (fields l.rest) ks l.set

abbrev pub decreases-loop-name : goal.decreases-loop-name
decreases-loop-name g l = length l.rest
