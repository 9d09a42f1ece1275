use Rattle.lab_plan.proofs.Guessed.{guessed}
use Rattle.lab_plan.proofs.draft.Draft.place.Goals as goal

pub returns-then-is_at : goal.returns-then-is_at
returns-then-is_at g c = guessed c.args.name.now c.args.self.now.instruments c.args.guess c.is_at.result c.requires c.if-is_at.true c.is_at.ensures
