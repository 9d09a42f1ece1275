use Rattle.std.proofs.Common.{◌≡◌, sym, ap, ◌∙◌, subst}
use Rattle.bay_line.specs.Lines.{LineView, leaving, asking}
use Rattle.bay.specs.Classes.{class_bit}
use Rattle.bay.specs.Cores.{core, IsTied}
use Rattle.bay.proofs.Tied.{same_core}
use Rattle.bay.proofs.Askers.{fits_of, fits_next, tied_below, left_again, joined_tied}
use Rattle.bay.proofs.asking.join.Goals as goal

pub ask-requires : goal.ask-requires
ask-requires c =
    let f = fits_of c.args.classes.now c.args.book.now c.args.sets.now c.args.request c.requires.fits in
    tied_below c.args.classes.now (core c.args.line.now c.args.book.now) c.args.request.number c.is_sound.ensures c.requires.tied
    (fits_next c.args.classes.now c.args.book.now c.args.sets.now c.args.request f)

pub returns-in-Ok-add-clause-tied : goal.returns-in-Ok-add-clause-tied
returns-in-Ok-add-clause-tied c =
    let r = c.args.request in let line = c.args.line.now in let x = core line c.args.book.now in let sets = c.args.sets.now in
    let f = fits_of c.args.classes.now c.args.book.now sets r c.requires.fits in
    subst (IsTied c.args.classes.now)
    (sym (same_core c.ask.new.self (asking line r.number sets (class_bit r.class) r.deadline) c.add.new.self _
    (c.in-Ok.ensures.asks ∙ ap (λ n. asking line r.number sets n r.deadline) c.class_bit.ensures) c.in-Ok-add.ensures.adds))
    (joined_tied c.args.classes.now x sets r c.args.now f c.requires.tied)

-- the line and the book are as they were
as_it_was : (c : goal.After-leave) → core c.leave.new.self c.add.new.self ≡ core c.args.line.now c.args.book.now
as_it_was c =
    let r = c.args.request in let line = c.args.line.now in let sets = c.args.sets.now in
    let f = fits_of c.args.classes.now c.args.book.now sets r c.requires.fits in
    let below = tied_below c.args.classes.now (core line c.args.book.now) r.number c.is_sound.ensures c.requires.tied
    (fits_next c.args.classes.now c.args.book.now sets r f) in
    same_core c.leave.new.self line c.add.new.self c.args.book.now
    (c.leave.ensures ∙ (ap (λ (l : LineView). leaving l r.number) c.in-Ok.ensures.asks ∙ left_again line r.number sets c.class_bit.result r.deadline below))
    c.in-Err.ensures.refused

pub returns-in-Err-clause-refused : goal.returns-in-Err-clause-refused
returns-in-Err-clause-refused c = as_it_was c

pub returns-in-Err-clause-tied : goal.returns-in-Err-clause-tied
returns-in-Err-clause-tied c = subst (IsTied c.args.classes.now) (sym (as_it_was c)) c.requires.tied
