use Rattle.std.proofs.Common.{ap, ◌∙◌}
use Rattle.bay.specs.Pages.{owed_hold}
use Rattle.bay.proofs.Logged.{logged_hold, logged_after}
use Rattle.bay.proofs.Ended.{ended_hold, ended_after}
use Rattle.bay.proofs.writing.write_hold.Goals as goal

pub returns-clause-logged : goal.returns-clause-logged
returns-clause-logged c =
    let book = c.args.book.now in let log = c.args.log.now in let place = c.args.place in let i = c.requires.logged in
    let standing = c.position.ensures.standing in let w = c.write_line in
    record {
      held = logged_after owed_hold book w.new.book log w.new.log place c.owed_hold.result w.result
          (λ l owed. logged_hold book log place l c.is_sound.ensures standing c.requires.inside owed i.held)
          (c.owed_hold.ensures ∙ ap owed_hold c.ask_at.ensures) w.ensures.writes w.ensures.refused i.held;
      ended = ended_after owed_hold book w.new.book log w.new.log place c.owed_hold.result w.result
          (λ l owed. ended_hold book log place l c.is_sound.ensures standing.begun c.requires.inside owed i.ended)
          (c.owed_hold.ensures ∙ ap owed_hold c.ask_at.ensures) w.ensures.writes w.ensures.refused i.ended;
    }
