use Rattle.std.proofs.Common.{ap, arith}
use Rattle.bay_book.specs.Books.{BookView}
use Rattle.bay.specs.Refusals.{IsWhyNotRestored}
use Rattle.bay.proofs.Restored.{so_far_more, all_done}
use Rattle.bay.proofs.Refused.{why_lines, handed_on}
use Rattle.bay.proofs.restoring.restore_all.Goals as goal

pub loop-place-preserved : goal.loop-place-preserved
loop-place-preserved c =
    let l = c.loop-place in let holders = c.args.holders.now in let place = c.in-Some.place in
    let s = so_far_more c.args.classes.now c.args.lines.now c.args.moment c.args.book.now.durable l.next holders l.book c.restore_one.new.book place
    c.requires.holders c.in-Some.ensures c.in_ok-restore_one.ensures.restores c.in_ok-restore_one.ensures.alone l.invariant.each l.invariant.done l.invariant.low in
    let restored = c.in_ok-restore_one.ensures.restores.1 in
    let next = ap (λ (b : BookView). b.next) restored in let granted = ap (λ (b : BookView). b.granted) restored in
    let numbers = l.invariant.numbers in let tokens = l.invariant.tokens in
    record {
      alone = s.alone;
      each = s.each;
      done = s.done;
      low = s.low;
      numbers = omega (arith, next, numbers);
      tokens = omega (arith, granted, tokens);
    }

pub returns-clause-all : goal.returns-clause-all
returns-clause-all c =
    let l = c.loop-place in let holders = c.args.holders.now in
    all_done c.args.lines.now l.next holders l.book c.requires.holders c.in_default.ensures l.invariant.done

pub returns-in_err-restore_one-clause-why : goal.returns-in_err-restore_one-clause-why
returns-in_err-restore_one-clause-why c =
    let l = c.loop-place in let holders = c.args.holders.now in let place = c.in-Some.place in
    let why = why_lines c.args.classes.now c.args.lines.now c.args.moment c.args.book.now.durable l.next holders l.book place c.in_err-restore_one.field-0.0 c.requires.holders
    c.is_sound.ensures l.invariant.each l.invariant.low c.in-Some.ensures
    c.in_err-restore_one.ensures.why in
    handed_on (IsWhyNotRestored c.args.classes.now c.args.lines.now) c.from_residual.result c.in_err-restore_one.field-0.0 c.from_residual.ensures.1 why
