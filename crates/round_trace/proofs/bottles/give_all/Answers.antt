use Rattle.std.proofs.Common.{Bool, subst}
use Rattle.legal_steps.specs.declared.event.Event.TheVariants.{GiveBottles}
use Rattle.round_trace.specs.Doing.{Tries}
use Rattle.round_trace.proofs.Sets.{gave}
use Rattle.round_trace.proofs.bottles.give_all.Goals as goal

pub returns : goal.returns
returns g c =
    let w = c.args.world.now in let set = c.gifts-set.result in
    let t = c.in_ok-_moved.ensures in
    record {
      greatest = c.gifts-set.ensures;
      tries = subst (λ (b : Bool). Tries w c.args.events.now.items
          (GiveBottles c.args.job c.args.edge set) b c.attempt.new.world c.attempt.new.events.items)
          (gave w.plan w.state c.args.job c.args.edge set c.requires c.gifts-set.ensures _ t.legal) t;
    }
