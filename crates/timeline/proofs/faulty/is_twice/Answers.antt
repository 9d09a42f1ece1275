use Rattle.std.proofs.Common.{sym, ◌∙◌}
use Rattle.timeline.proofs.Failing.{twice_at}
use Rattle.timeline.proofs.faulty.is_twice.Goals as goal

pub returns-then-same_session-2 : goal.returns-then-same_session-2
returns-then-same_session-2 c _ =
    twice_at c.args.entries.now c.args.place c.loop-begun.begun _ _ _ c.requires c.loop-begun-test.true (sym c.same_session.ensures ∙ c.if-same_session.false)
    (sym c.same_session-in-loop-begun.ensures ∙ c.if-same_session-2.true)
