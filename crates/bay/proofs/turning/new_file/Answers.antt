use Rattle.std.proofs.Common.{◌≡◌, ◌∙◌, ℕ, List, length, sym, ap}
use Rattle.bay_log.specs.Lines.{log_text}
use Rattle.bay_log.specs.Logs.{LogView, unsent_of, settled}
use Rattle.bay.specs.Turning.{new_log}
use Rattle.bay.proofs.NewFile.{text_new}
use Rattle.bay.proofs.turning.new_file.Goals as goal

pub returns-then-room-size-clause-why : goal.returns-then-room-size-clause-why
returns-then-room-size-clause-why c =
    let book = c.args.book.now in let log = c.args.log.now in
    let text = c.unsent-size.ensures ∙ (ap unsent_of c.in-Ok.ensures ∙ text_new book log) in
    (ap (λ (l : List ℕ). length l) text, c.if-room-size.true)

pub returns-clause-new : goal.returns-clause-new
returns-clause-new c =
    let book = c.args.book.now in let log = c.args.log.now in
    let log_is : c.settle.new.self ≡ new_log book log = c.settle.ensures ∙ ap settled c.in-Ok.ensures in
    record {
      quiet = (
        sym c.anybody_owes.ensures ∙ c.if-anybody_owes.false,
        sym c.durable.ensures ∙ (c.if-durable-position.false ∙ c.position.ensures.position),
      );
      log = log_is;
      text_is =
          c.in-Ok-from_slice.ensures.items
          ∙ (c.unsent.ensures ∙ (ap unsent_of c.in-Ok.ensures ∙ (text_new book log ∙ ap (λ (l : LogView). log_text l.lines) (sym log_is))));
    }
