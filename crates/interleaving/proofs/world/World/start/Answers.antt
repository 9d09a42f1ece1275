use Rattle.std.proofs.Common.{refl, sym, ap, ◌∙◌, subst}
use Rattle.legal_steps.specs.State.{Setting}
use Rattle.legal_steps.specs.Opening.{IsOpening}
use Rattle.legal_steps.specs.Precedence.{IsAcyclic}
use Rattle.legal_steps.proofs.OpeningChoices.{opening_of_choices}
use Rattle.interleaving.specs.Start.{at_start}
use Rattle.interleaving.proofs.OpeningTables.{opened_of}
use Rattle.interleaving.proofs.world.World.start.Goals as goal

pub returns-then-branch-clause-refused : goal.returns-then-branch-clause-refused
returns-then-branch-clause-refused g c =
    let opened = opened_of c.in_ok-tables.tables c.lent.result c.args.plan.now c.args.choices.now c.in_ok-tables.ensures c.lent.ensures in (
      c.if-not-are_choices.ensures.0 refl,
      subst (λ (x : Setting). ¬ IsAcyclic x.plan x.state) opened (c.in_ok-has_cycle.ensures.cyclic c.if-branch.true),
    )

pub fresh-requires-clause-opening : goal.fresh-requires-clause-opening
fresh-requires-clause-opening g c =
    let opened = opened_of c.in_ok-tables.tables c.lent.result c.args.plan.now c.args.choices.now c.in_ok-tables.ensures c.lent.ensures in
    subst (λ (x : Setting). IsOpening x.plan x.state) (sym opened)
    (opening_of_choices c.args.plan.now c.args.choices.now (c.if-not-are_choices.ensures.0 refl))

pub fresh-requires-clause-acyclic : goal.fresh-requires-clause-acyclic
fresh-requires-clause-acyclic g c = c.in_ok-has_cycle.ensures.acyclic c.if-branch.false

pub returns-clause-started : goal.returns-clause-started
returns-clause-started g c =
    let opened = opened_of c.in_ok-tables.tables c.lent.result c.args.plan.now c.args.choices.now c.in_ok-tables.ensures c.lent.ensures in
    c.in_ok-fresh.ensures ∙ ap (λ (x : Setting). at_start x.plan x.state) opened

pub returns-clause-opens : goal.returns-clause-opens
returns-clause-opens g c =
    let opened = opened_of c.in_ok-tables.tables c.lent.result c.args.plan.now c.args.choices.now c.in_ok-tables.ensures c.lent.ensures in (
      c.if-not-are_choices.ensures.0 refl,
      subst (λ (x : Setting). IsAcyclic x.plan x.state) opened (c.in_ok-has_cycle.ensures.acyclic c.if-branch.false),
    )
