use Rattle.std.proofs.Common.{[], ◌∷◌, ◌++◌}
use Rattle.legal_steps.specs.declared.event.Event.TheVariants.{Quit}
use Rattle.legal_steps.specs.State.{drinking}
use Rattle.settling.proofs.Worlds.{leads_both}
use Rattle.live_lab.specs.Ends.{in_hand, commands_by}
use Rattle.live_lab.proofs.Sessions.{session_deeds}
use Rattle.live_lab.proofs.end.let_go.Goals as goal

pub returns-clause-goes : goal.returns-clause-goes
returns-clause-goes g c =
    let w = c.args.world.now in let j = c.args.job in let a = c.take_from_hand-hand.new.world in let b = c.command_all-commands.new.world in
    let n = c.command_all-commands.result in let hand = in_hand (drinking w.state j) j in
    record {
      left = n;
      leads = leads_both w b c.step.new.world (hand ++ commands_by j n) (Quit j ∷ [])
          (leads_both w a b hand (commands_by j n) c.take_from_hand-hand.ensures.leads c.command_all-commands.ensures.leads) c.step.ensures;
      deeds = session_deeds (drinking w.state j) j n c.take_from_hand-hand.result c.take_from_hand-hand.ensures.deeds;
    }
