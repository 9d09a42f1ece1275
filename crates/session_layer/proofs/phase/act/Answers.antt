use Rattle.edge_rule.specs.DeskView.{DeskView, known}
use Rattle.session_layer.proofs.Settled.{none_due}
use Rattle.session_layer.proofs.phase.act.Goals as goal

pub note_settled-requires : goal.note_settled-requires
note_settled-requires g c = let d : DeskView = c.args.desk.now in none_due d.plan (known d) d.job c.args.waited c.in-Nothing.ensures.first
