use Rattle.std.proofs.Common.{Bool, sym, ap, ◌∙◌, if◌then◌else◌, ◌++◌, [], ◌∷◌}
use Rattle.waiting.specs.Noting.{on_last}
use Rattle.waiting.specs.OneRound.{begun_session, session_then}
use Rattle.waiting.proofs.Last.{set_last, no_last}
use Rattle.waiting.proofs.job_log.note_sessions.Goals as goal

pub returns-then-count-gt0 : goal.returns-then-count-gt0
returns-then-count-gt0 g c =
    let l = c.args.sessions.now.items in
    let f = session_then c.args.round c.args.before c.args.after in
    set_last f l c.len-count.result c.index.result.now c.after.result (c.len-count.ensures ∙ c.args.sessions.now.ok.0) c.if-count-gt0.true c.index.ensures c.after.ensures
    ∙ sym (ap (λ (b : Bool). if b then l ++ begun_session c.args.round ∷ [] else on_last f l) (sym c.begins_session.ensures ∙ c.if-begins_session.false))

pub returns-else-count-gt0 : goal.returns-else-count-gt0
returns-else-count-gt0 g c =
    let l = c.args.sessions.now.items in
    let f = session_then c.args.round c.args.before c.args.after in
    sym (no_last f l c.len-count.result (c.len-count.ensures ∙ c.args.sessions.now.ok.0) c.if-count-gt0.false)
    ∙ sym (ap (λ (b : Bool). if b then l ++ begun_session c.args.round ∷ [] else on_last f l) (sym c.begins_session.ensures ∙ c.if-begins_session.false))
