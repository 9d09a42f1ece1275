use Rattle.lab_journal.specs.Finishing.{Finishes}
use Rattle.lab_journal.proofs.Finished.{NoneBefore}
use Rattle.lab_journal.proofs.in_hand.finish.Given as goal

-- the first jobs have nothing in hand
abbrev pub invariant-loop-job : goal.invariant-loop-job
invariant-loop-job g l = Finishes l.job l.fn.world l.world × NoneBefore l.job l.world.state
