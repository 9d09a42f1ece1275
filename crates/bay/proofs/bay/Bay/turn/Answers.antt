use Rattle.std.proofs.Common.{◌∙◌, sym, ap, subst}
use Rattle.bay_book.specs.Books.{turn}
use Rattle.bay_log.specs.Logs.{end_of}
use Rattle.bay.specs.Ended.{AreInLog}
use Rattle.bay.specs.Turning.{new_log}
use Rattle.bay.proofs.Turned.{in_log_turned, in_log_after}
use Rattle.bay.proofs.bay.Bay.turn.Goals as goal

pub invariant_of-self : goal.invariant_of-self
invariant_of-self c =
    let x = c.self.inside in
    in_log_after c.args.classes.items c.args.now x.room.book x.log x.room c.change.new.self c.change.ensures c.self.invariant

pub invariant_of-self-2 : goal.invariant_of-self-2
invariant_of-self-2 c =
    let x = c.self.inside in let book = x.room.book in let file = c.in_ok-log.ensures.new in let at = c.position.result in
    let here = c.position.ensures.position ∙ ap end_of file.log in
    let turned = in_log_turned book x.log c.look.ensures.book c.self.invariant in
    in_log_after c.args.classes.items c.args.now (turn book at) c.in_ok-log.log x.room c.turn.new.self c.turn.ensures
    (subst (AreInLog (turn book at)) (sym file.log) (subst (λ n. AreInLog (turn book n) (new_log book x.log)) (sym here) turned))
