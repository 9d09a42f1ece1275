use Rattle.live_lab.specs.Keepers.{IsUser}
use Rattle.live_lab.proofs.Bits.{among}
use Rattle.live_lab.proofs.keepers.users_of.Goals as goal

pub returns : goal.returns
returns g c =
    let w = c.args.world.now in
    record {
      jobs = c.those_of-jobs.ensures;
      holding = among w c.those_of-jobs.result (λ k. IsUser w.plan w.state c.args.job c.args.instrument k) c.holding_of-holding.result c.those_of-jobs.ensures
          c.holding_of-holding.ensures;
    }
