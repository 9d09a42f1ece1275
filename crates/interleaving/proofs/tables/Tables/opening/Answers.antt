use Rattle.std.proofs.Common.{length, replicate, sym, ap, ◌∙◌, subst}
use Rattle.lab_plan.specs.LabPlan.{LabPlan, edges}
use Rattle.legal_steps.specs.declared.end.End.TheVariants.{Lower}
use Rattle.legal_steps.specs.declared.edge_state.EndChoice.{EndChoice}
use Rattle.legal_steps.specs.Opening.{AreChoices}
use Rattle.legal_steps.proofs.OpeningChoices.{the_choices}
use Rattle.interleaving.proofs.tables.Tables.opening.Goals as goal

pub opened-requires : goal.opened-requires
opened-requires g c =
    let plan = c.args.plan in
    let lower : EndChoice = record { fork = Lower; bottles = 0 } in
    let count = c.edges.ensures.edges ∙ ap (λ (p : LabPlan). length (edges p)) c.get.ensures in
    let is = c.deref.ensures.value ∙ (c.in_ok-choices.ensures ∙ ap (λ n. replicate n lower) count) in
    subst (AreChoices plan) (sym is) (the_choices plan)
