use Rattle.round_picture.specs.Gantt.{tick_text}
use Rattle.waiting.proofs.Ranges.{one_more}
use Rattle.round_picture.proofs.gantt.add_scale.Goals as goal

pub loop-number-preserved : goal.loop-number-preserved
loop-number-preserved g c =
    one_more (tick_text c.args.last c.args.bottom c.args.step) c.args.out.now.items c.loop-number.out.items c.add_tick_at.new.out.items
    c.loop-number.number c.loop-number.invariant c.in_ok-add_tick_at.ensures
