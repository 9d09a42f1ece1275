use Rattle.lab_journal.proofs.Finished.{one_act}
use Rattle.lab_journal.proofs.in_hand.finish_of.Goals as goal

pub returns-then-eq-clause-goes : goal.returns-then-eq-clause-goes
returns-then-eq-clause-goes g c = one_act c.args.world.now c.act.new.world c.args.job c.act.ensures.plan c.act.ensures.goes
