use Rattle.std.proofs.Common.{codes}
use Rattle.step_texts.specs.Names.{other_name}
use Rattle.explaining.proofs.Parts.{three}
use Rattle.explaining.proofs.states.add_fork_head.Goals as goal

pub returns : goal.returns
returns g c =
    three _ _ _ _ (codes "  fork with ") (other_name c.args.plan.now c.args.job c.args.edge) (codes ": ")
    c.in_ok-extend_from_slice.ensures.items c.in_ok-add_other.ensures c.in_ok-extend_from_slice-2.ensures.items
