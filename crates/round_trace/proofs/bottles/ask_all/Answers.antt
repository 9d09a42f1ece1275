use Rattle.std.proofs.Common.{Bool, subst}
use Rattle.legal_steps.specs.declared.event.Event.TheVariants.{AskBottles}
use Rattle.round_trace.specs.Doing.{Tries}
use Rattle.round_trace.proofs.Sets.{wanted}
use Rattle.round_trace.proofs.bottles.ask_all.Goals as goal

pub returns : goal.returns
returns g c =
    let w = c.args.world.now in let set = c.wishes-set.result in
    let t = c.in_ok-_moved.ensures in
    record {
      greatest = c.wishes-set.ensures;
      tries = subst (λ (b : Bool). Tries w c.args.events.now.items (AskBottles c.args.job c.args.edge set) b c.attempt.new.world c.attempt.new.events.items)
          (wanted w.plan w.state c.args.job c.args.edge set c.requires c.wishes-set.ensures _ t.legal) t;
    }
