use Rattle.timeline.proofs.Marked.{behind_yes}
use Rattle.timeline.proofs.behind.mark_behind.Goals as goal

pub returns-then-is_open-2 : goal.returns-then-is_open-2
returns-then-is_open-2 g c pairs k inside is below =
    behind_yes pairs c.args.marks.now c.args.behind.now.items k c.args.x c.args.y inside is (c.is_open.ensures.yes c.if-is_open.true)
    (c.is_open-then-is_open.ensures.yes c.if-is_open-2.true) below
