use Rattle.round_picture.specs.Sessions.{instrument_text}
use Rattle.waiting.proofs.Ranges.{one_more}
use Rattle.round_picture.proofs.sessions.add_all_instruments.Goals as goal

pub loop-number-preserved : goal.loop-number-preserved
loop-number-preserved g c =
    one_more (instrument_text c.args.plan.now c.args.job c.args.session) c.args.out.now.items c.loop-number.out.items c.add_instrument.new.out.items
    c.loop-number.number c.loop-number.invariant c.in_ok-add_instrument.ensures
