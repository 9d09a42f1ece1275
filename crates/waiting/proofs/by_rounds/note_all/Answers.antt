use Rattle.std.proofs.Common.{get_or, ap, ◌∙◌}
use Rattle.legal_steps.specs.declared.phase.JobState.{JobState}
use Rattle.waiting.specs.Noting.{log_then}
use Rattle.waiting.proofs.Logs.{one_more}
use Rattle.waiting.proofs.by_rounds.note_all.Goals as goal

pub loop-place-preserved : goal.loop-place-preserved
loop-place-preserved g c =
    one_more c.args.round c.args.desks.now c.args.logs.now c.loop-place.logs c.loop-place.place c.index-desks-place.result c.index-logs-place.result
    c.index-desks-place.is c.loop-place-test.true c.requires c.loop-place.invariant c.note.new.self
    (c.in_ok-note.ensures ∙ ap (λ (p : JobState). log_then c.args.round p (get_or c.loop-place.logs c.loop-place.place c.index-logs-place.result)) c.phase-phase.ensures.phase)
