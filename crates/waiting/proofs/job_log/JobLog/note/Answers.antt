use Rattle.std.proofs.Common.{ap, ◌∙◌}
use Rattle.waiting.specs.Noting.{log_then}
use Rattle.waiting.proofs.job_log.JobLog.note.Goals as goal

pub returns : goal.returns
returns g c =
    (λ i. record { phase = c.args.phase; sessions = c.in_ok-note_sessions.ensures i; meals = c.in_ok-note_meals.ensures i })
    ∙ ap (log_then c.args.round c.args.phase) c.self.view_is
