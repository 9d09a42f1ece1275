use Rattle.std.proofs.Common.{◌≡◌, sym, ap, ◌∙◌, subst}
use Rattle.lab_plan.specs.LabPlan.{LabPlan}
use Rattle.legal_steps.specs.State.{edge, end_of}
use Rattle.interleaving.specs.World.{WorldView}
use Rattle.dining_layer.specs.Turned.{turned}
use Rattle.settling.specs.Visiting.{AreDueBy}
use Rattle.settling.proofs.Worlds.{reached_fits}
use Rattle.settling.proofs.DueThere.{legal_there}
use Rattle.settling.proofs.moves.due_moves.Goals as goal

pub returns-clause-due : goal.returns-clause-due
returns-clause-due g c =
    let w : WorldView = c.args.world.now in
    let j = c.args.job in
    let e = c.args.edge in
    let p = c.plan-plan.ensures.plan in
    let here = c.of.ensures.end ∙ ap (λ (q : LabPlan). end_of q j e) p in
    let mine : c.seen_from-mine.result ≡ turned w.plan e (end_of w.plan j e) (edge w.state e) =
    c.seen_from-mine.ensures ∙ (λ i. turned (p i) e (here i) (c.edge.ensures i)) in
    subst (λ (q : LabPlan). AreDueBy q j c.job.result e c.seen_from-mine.result c.moves_by.result) p c.moves_by.ensures
    w.state (reached_fits w c.plan-plan.ensures.reached) (sym c.job.ensures.phase) (sym mine)

pub returns-clause-legal : goal.returns-clause-legal
returns-clause-legal g c = let w : WorldView = c.args.world.now in
    legal_there w.plan w.state c.args.job c.args.edge (reached_fits w c.plan-plan.ensures.reached) c.requires c.moves_by.result (returns-clause-due g c)
