use Rattle.std.proofs.Common.{◌≡◌, replicate}
use Rattle.legal_steps.specs.declared.end.End.TheVariants.{Lower}
use Rattle.interleaving.proofs.opening_tables.lower_choices.Given as goal

abbrev pub invariant-loop-edge : goal.invariant-loop-edge
invariant-loop-edge g l = l.choices.items ≡ replicate l._edge (record { fork = Lower; bottles = 0 })
