use Rattle.step_texts.specs.StepTexts.{member_text}
use Rattle.step_texts.proofs.Ranges.{one_more}
use Rattle.step_texts.proofs.steps.add_set.Goals as goal

pub loop-bottle-preserved : goal.loop-bottle-preserved
loop-bottle-preserved g c =
    one_more (member_text c.args.plan.now c.args.edge c.args.set) c.args.out.now.items c.loop-bottle.out.items c.add_member.new.out.items
    c.loop-bottle.bottle c.loop-bottle.invariant c.in_ok-add_member.ensures
