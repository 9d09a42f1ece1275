use Rattle.std.proofs.Common.{sym, ◌∙◌, subst}
use Rattle.legal_steps.specs.declared.end.End.TheVariants.{Higher}
use Rattle.legal_steps.specs.declared.phase.Dining.{Dining}
use Rattle.legal_steps.specs.declared.phase.JobState.{JobState}
use Rattle.legal_steps.specs.declared.edge_state.EdgeState.{EdgeState}
use Rattle.edge_rule.specs.NeededBottles.{AreNeededIn}
use Rattle.dining_layer.specs.Forks.{AreForksDue}
use Rattle.drinking_layer.specs.Local.{with_sets}
use Rattle.settling.proofs.DueThere.{due_there}
use Rattle.settling.proofs.moves.moves_by.Goals as goal

pub returns : goal.returns
returns g c s fit so seen =
    let plan = c.args.plan.now in
    let j = c.args.job in
    let e = c.args.edge in
    let n = c.needed_in-needed.result in
    let forks = c.due_forks-forks.result in
    due_there plan s j e fit c.requires.own n forks c.with_sets.result
    (subst (λ (ph : JobState). AreNeededIn plan j ph e n) (sym so) c.needed_in-needed.ensures)
    (subst (λ (z : Dining × EdgeState). AreForksDue z.0 Higher z.1 forks) (λ i. ((sym so i).dining, sym seen i)) c.due_forks-forks.ensures)
    (c.with_sets.ensures ∙ (λ i. with_sets (sym so i) n (sym seen i) forks))
