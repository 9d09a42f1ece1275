use Rattle.std.proofs.Common.{codes}
use Rattle.step_texts.specs.Names.{other_name, bottle_name}
use Rattle.explaining.proofs.Parts.{five}
use Rattle.explaining.proofs.states.add_bottle_head.Goals as goal

pub returns : goal.returns
returns g c =
    let plan = c.args.plan.now in
    five _ _ _ _ _ _ (codes "  bottle of ") (bottle_name plan c.args.edge c.args.bottle) (codes " with ") (other_name plan c.args.job c.args.edge) (codes ": ")
    c.in_ok-extend_from_slice.ensures.items c.in_ok-add_bottle.ensures c.in_ok-extend_from_slice-2.ensures.items c.in_ok-add_other.ensures
    c.in_ok-extend_from_slice-3.ensures.items
