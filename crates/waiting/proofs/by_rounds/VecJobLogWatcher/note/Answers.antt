use Rattle.std.proofs.Common.{◌≡◌, ◌∷◌, ◌++◌, List, [], length, sym, ap, ◌∙◌, subst}
use Rattle.waiting.specs.Noting.{LogView}
use Rattle.waiting.specs.Watching.{LogsTell, logs_then}
use Rattle.waiting.proofs.Logs.{written_back}
use Rattle.waiting.proofs.LogsTell.{tell_more, many_logs}
use Rattle.waiting.proofs.by_rounds.VecJobLogWatcher.note.Goals as goal

pub note_all-requires : goal.note_all-requires
note_all-requires g c =
    let m = c.requires in
    ap length c.as_mut_slice.ensures.value ∙ (many_logs c.args._plan.now m.rounds c.args.self.now.items m.told ∙ sym m.more.know.many)

pub returns : goal.returns
returns g c = λ rounds events more tells.
    let old : List LogView = c.args.self.now.items in let new : List LogView = c.note_all.new.logs in
    let same : length new ≡ length old = c.note_all.auto.logs ∙ ap length c.as_mut_slice.ensures.value in
    let noted : new ≡ logs_then c.args.round c.args.desks.now old =
    c.in_ok-note_all.ensures ∙ ap (logs_then c.args.round c.args.desks.now) c.as_mut_slice.ensures.value in
    subst (λ (l : List LogView). LogsTell c.args._plan.now l (rounds ++ events ∷ []))
    (sym (written_back old new c.args.self.now.len c.args.self.now.ok.0 same)) (subst (λ (l : List LogView). LogsTell c.args._plan.now l (rounds ++ events ∷ []))
    (sym noted)
    (tell_more c.args._plan.now rounds events c.args.round c.args.desks.now more old tells))
