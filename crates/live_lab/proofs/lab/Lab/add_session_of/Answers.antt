use Rattle.std.proofs.Common.{◌<◌, length, sym, subst}
use Rattle.lab_plan.specs.Longer.{session_of}
use Rattle.legal_steps.proofs.ReachedLemmas.{reached_fits}
use Rattle.live_lab.specs.Labs.{LabView}
use Rattle.live_lab.proofs.LongerLabs.{added}
use Rattle.live_lab.proofs.lab.Lab.add_session_of.Goals as goal

pub invariant_of-self : goal.invariant_of-self
invariant_of-self c =
    let x = c.self.inside in
    let there : c.args.job < length x.world.plan.jobs = subst (λ (l : LabView). c.args.job < length l.world.plan.jobs) (sym c.self.view_is) c.requires in
    added x.world x.clocks.items x.due x.line c.args.job (session_of c.args.patience c.args.commands.now) c.add_session.result c.add_session.new.self there
    (reached_fits x.world.plan x.world.state c.plan.ensures.reached.reached) c.add_session.ensures c.self.invariant
