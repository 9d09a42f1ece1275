use Rattle.std.proofs.Common.{◌≡◌, false, replicate}
use Rattle.legal_steps.specs.State.{idle_phase}
use Rattle.interleaving.proofs.opening_tables.idle_seats.Given as goal

abbrev pub invariant-loop-job : goal.invariant-loop-job
invariant-loop-job g l =
    l.seats.items ≡ replicate l._job (record { phase = idle_phase; fork_marks = replicate l.edges false; bottle_marks = replicate l.edges 0 })
