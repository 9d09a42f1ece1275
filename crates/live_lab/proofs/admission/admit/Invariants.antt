use Rattle.late_thirst.proofs.Fewer.{count}
use Rattle.live_lab.proofs.Admitted.{AdmittedSoFar}
use Rattle.live_lab.proofs.admission.admit.Given as goal

abbrev pub invariant-rounds : goal.invariant-rounds
invariant-rounds g l = AdmittedSoFar l.waiting l.fn.world l.fn.line l.world l.line l.due l.deeds

abbrev pub decreases-rounds : goal.decreases-rounds
decreases-rounds g l = count l.line.places
