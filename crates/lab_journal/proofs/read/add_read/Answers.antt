use Rattle.std.proofs.Common.{sym, ◌∙◌, take}
use Rattle.lab_journal.proofs.Longer.{is_job_yet, grows}
use Rattle.lab_journal.proofs.read.add_read.Goals as goal

pub add_session-requires : goal.add_session-requires
add_session-requires g c =
    let l = c.loop-session in
    is_job_yet c.args.plan.now l.plan c.args.job (take l.session-index c.args.further.now) l.invariant.longer c.requires

pub loop-session-preserved : goal.loop-session-preserved
loop-session-preserved g c =
    let l = c.loop-session in
    let both = grows c.args.plan.now l.plan c.add_session.new.self c.args.job c.args.further.now l.session-index c.session-item.result _ c.add_session.result
    c.requires c.loop-session-test.true c.session-item.is (λ i. record { patience = c.patience.ensures i; commands = c.commands.ensures i })
    (sym c.is_err.ensures.value ∙ c.if-is_err.false) l.invariant.longer l.invariant.keeps c.add_session.ensures.adds in
    record { longer = both.0; keeps = both.1 }
