use Rattle.std.proofs.Common.{ℕ, ◌<◌, length, sym, ap, ◌∙◌, subst, take, arith}
use Rattle.live_lab.specs.Labs.{LabView}
use Rattle.live_lab.proofs.LongerLabs.{jobs_with_all, grows}
use Rattle.live_lab.proofs.lab.Lab.add_read.Goals as goal

pub add_session_of-requires : goal.add_session_of-requires
add_session_of-requires c =
    let l = c.loop-session in let j = c.args.job in
    let same = ap (λ (x : LabView). length x.world.plan.jobs) l.invariant.longer
    ∙ jobs_with_all c.args.self.now.world.plan j (take l.session-index c.args.further.now) in
    subst (λ (n : ℕ). j < n) (sym same) c.requires

pub loop-session-preserved : goal.loop-session-preserved
loop-session-preserved c =
    let l = c.loop-session in let kept = l.invariant in
    record {
      all = omega (arith, kept.all);
      longer = grows c.args.self.now l.self c.add_session_of.new.self c.args.job c.args.further.now l.session-index c.session-item.result _
          c.add_session_of.result (omega (arith, c.loop-session-test.true)) c.session-item.is (λ i. record { patience = c.patience.ensures i; commands = c.commands.ensures i })
          (sym c.is_err.ensures.value ∙ c.if-is_err.false) kept.longer c.add_session_of.ensures;
    }
