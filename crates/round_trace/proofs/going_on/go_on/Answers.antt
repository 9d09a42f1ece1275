use Rattle.std.proofs.Common.{map}
use Rattle.round_trace.proofs.Taken.{begun_by, goes_on}
use Rattle.round_trace.proofs.going_on.go_on.Goals as goal

pub play-requires-clause-stands : goal.play-requires-clause-stands
play-requires-clause-stands g c =
    (begun_by c.args.world.now.plan c.args.steps.now c.in-Ok-None.field-0 c.args.world.now c.take_all.new.world c.act_all.new.world
    c.take_all.new.events.items c.act_all.new.events.items c.in-Ok-None.field-0-is c.requires.opens c.in-Ok-None.ensures c.in-Ok.ensures.acted
    c.in-Ok.ensures.rests).stands

pub play-requires-clause-rests : goal.play-requires-clause-rests
play-requires-clause-rests g c =
    (begun_by c.args.world.now.plan c.args.steps.now c.in-Ok-None.field-0 c.args.world.now c.take_all.new.world c.act_all.new.world
    c.take_all.new.events.items c.act_all.new.events.items c.in-Ok-None.field-0-is c.requires.opens c.in-Ok-None.ensures c.in-Ok.ensures.acted
    c.in-Ok.ensures.rests).rests

pub returns-clause-goes_on : goal.returns-clause-goes_on
returns-clause-goes_on g c =
    goes_on c.args.world.now.plan c.args.limit (map (λ line. line.step) c.args.steps.now) c.act_all.new.world c.act_all.new.events.items c.play.new.events.items
    c.in-Ok-play.field-0
    (begun_by c.args.world.now.plan c.args.steps.now c.in-Ok-None.field-0 c.args.world.now c.take_all.new.world c.act_all.new.world
    c.take_all.new.events.items c.act_all.new.events.items c.in-Ok-None.field-0-is c.requires.opens c.in-Ok-None.ensures c.in-Ok.ensures.acted
    c.in-Ok.ensures.rests) c.in-Ok-play.ensures
