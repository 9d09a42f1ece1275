use Rattle.std.proofs.Common.{◌≡◌, ◌↔◌, Bool, true, sym, subst}
use Rattle.legal_steps.specs.Opening.{the_opening}
use Rattle.legal_steps.specs.Precedence.{Precedes}
use Rattle.chains.proofs.Precedence.{asked}
use Rattle.chains.proofs.chain.precedes.Goals as goal

pub returns : goal.returns
returns g c =
    let plan = c.args.plan.now in
    subst (λ (z : Bool). (z ≡ true) ↔ Precedes plan (the_opening plan) c.args.job c.args.lower) (sym c.is_some.ensures)
    (asked plan c.args.job c.args.lower c.requires.lower c.edge_of.result c.edge_of.ensures.found c.edge_of.ensures.none)
