use Rattle.std.proofs.Common.{◌≡◌, sym, subst}
use Rattle.std.specs.Prelude.{IfOk}
use Rattle.legal_steps.specs.State.{Setting}
use Rattle.legal_steps.specs.Opening.{IsOpening}
use Rattle.legal_steps.specs.Precedence.{IsAcyclic}
use Rattle.legal_steps.proofs.OpeningChoices.{the_opening_opens, the_opening_acyclic}
use Rattle.interleaving.specs.Start.{at_start}
use Rattle.interleaving.proofs.world.World.at_opening.Goals as goal

pub fresh-requires-clause-opening : goal.fresh-requires-clause-opening
fresh-requires-clause-opening g c =
    subst (λ (x : Setting). IsOpening x.plan x.state) (sym c.in_ok-tables.ensures) (the_opening_opens c.args.plan)

pub fresh-requires-clause-acyclic : goal.fresh-requires-clause-acyclic
fresh-requires-clause-acyclic g c =
    subst (λ (x : Setting). IsAcyclic x.plan x.state) (sym c.in_ok-tables.ensures) (the_opening_acyclic c.args.plan)

pub returns : goal.returns
returns g c = subst (λ (x : Setting). IfOk c.fresh.result (λ world. world ≡ at_start x.plan x.state)) c.in_ok-tables.ensures c.fresh.ensures
