use Rattle.std.proofs.Common.{refl, sym}
use Rattle.lab_journal.proofs.Replayed.{stopped, replayed}
use Rattle.lab_journal.proofs.resuming.replay_text.Goals as goal

pub returns-in-Err-clause-refused : goal.returns-in-Err-clause-refused
returns-in-Err-clause-refused g c =
    stopped c.args.text.now c.args.world.now.plan c.args.steps.now c.args.steps.now c.args.world.now c.take_steps.new.world c.in-Err.line refl c.requires.opened
    c.requires.means c.in-Err.ensures

pub returns-in-None-clause-replayed : goal.returns-in-None-clause-replayed
returns-in-None-clause-replayed g c =
    replayed c.args.text.now c.args.world.now.plan c.args.steps.now c.args.steps.now c.args.world.now c.take_steps.new.world refl c.requires.opened
    c.requires.means c.in_default.ensures (sym c.in-None.ensures)
