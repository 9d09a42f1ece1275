use Rattle.std.proofs.Common.{◌≢◌, ◌<◌, length, rules, sym, subst}
use Rattle.lab_plan.specs.Longer.{session_of}
use Rattle.legal_steps.specs.declared.phase.Drinking.TheVariants.{Retired}
use Rattle.legal_steps.specs.State.{drinking}
use Rattle.interleaving.specs.World.{WorldView}
use Rattle.interleaving.proofs.LongerWorlds.{world_longer}
use Rattle.interleaving.proofs.world.World.add_session.Goals as goal

pub invariant_of-self : goal.invariant_of-self
invariant_of-self g c =
    let x = c.self.inside in
    let alive : drinking x.tables.state c.args.job ≢ Retired = search rules in
    let job : c.args.job < length x.tables.plan.jobs = subst (λ (w : WorldView). c.args.job < length w.plan.jobs) (sym c.self.view_is) c.requires in
    record {
      reached = world_longer x.tables.plan c.args.job (session_of c.args.patience c.args.commands.now) c.add_session.result c.add_session.new.self.plan
          x.start.value.state x.past.events x.tables.state c.add_session.new.self.state x.tally job alive
          c.add_session.ensures.plan c.add_session.ensures.own c.add_session.ensures.is_plan c.add_session.ensures.state c.self.invariant.reached;
      kept = c.self.invariant.kept;
    }
