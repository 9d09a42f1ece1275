use Rattle.std.proofs.Common.{ap, ◌∙◌}
use Rattle.bay_log.specs.Logs.{adding, end_of}
use Rattle.bay.specs.Pages.{owed_end}
use Rattle.bay.proofs.Logged.{logged_end, logged_after}
use Rattle.bay.proofs.Ended.{ended_end, ended_after}
use Rattle.bay.proofs.writing.write_end.Goals as goal

pub returns-clause-logged : goal.returns-clause-logged
returns-clause-logged c =
    let book = c.args.book.now in let log = c.args.log.now in let place = c.args.place in let i = c.requires.logged in
    let standing = c.position.ensures.standing in let w = c.write_line in
    record {
      held = logged_after owed_end book w.new.book log w.new.log place c.owed_end.result w.result
          (λ l owed. logged_end book log place (end_of (adding log l)) l c.is_sound.ensures standing c.requires.inside owed i.held)
          (c.owed_end.ensures ∙ ap owed_end c.ask_at.ensures) w.ensures.writes w.ensures.refused i.held;
      ended = ended_after owed_end book w.new.book log w.new.log place c.owed_end.result w.result
          (λ l owed. ended_end book log place l standing.begun c.requires.inside owed i.ended)
          (c.owed_end.ensures ∙ ap owed_end c.ask_at.ensures) w.ensures.writes w.ensures.refused i.ended;
    }
