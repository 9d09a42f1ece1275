use Rattle.std.proofs.Common.{refl, sym, subst}
use Rattle.bay_book.specs.Restoring.{IsWhyNotRestored}
use Rattle.bay.specs.Restoring.{AreAlone}
use Rattle.bay.proofs.Restored.{restored_alone, nobody_waits}
use Rattle.bay.proofs.Refused.{may_not_hold}
use Rattle.bay.proofs.restoring.restore_one.Goals as goal

pub returns-in-Ok-clause-alone : goal.returns-in-Ok-clause-alone
returns-in-Ok-clause-alone c =
    subst (AreAlone c.args.classes.now) (sym c.in-Ok.ensures.restores)
    (restored_alone c.args.classes.now c.args.book.now c.args.holder c.args.moment (c.may_hold.ensures.may c.if-not-may_hold.false) c.requires.alone)

pub returns-in-Err-MayNot-clause-why : goal.returns-in-Err-MayNot-clause-why
returns-in-Err-MayNot-clause-why c =
    let classes = c.args.classes.now in let book = c.args.book.now in let h = c.args.holder in
    let why = subst (IsWhyNotRestored book.asks h.ask h.entry.token) c.in-Err-MayNot.field-0-is c.in-Err-MayNot.ensures.why in
    (refl, may_not_hold classes book.asks h c.requires.new (nobody_waits classes book c.requires.alone) why)
