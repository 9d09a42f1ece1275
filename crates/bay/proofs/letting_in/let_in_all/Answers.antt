use Rattle.std.proofs.Common.{◌<◌, ◌∙◌, length, sym, subst}
use Rattle.bay_line.specs.Lines.{LineView}
use Rattle.bay_line.proofs.Overtaken.{fewer_after}
use Rattle.bay.specs.Cores.{core}
use Rattle.bay.proofs.Letting.{next_waits, step_in, one_more_in}
use Rattle.bay.proofs.Nobody.{nobody_waits}
use Rattle.bay.proofs.letting_in.let_in_all.Goals as goal

pub returns-then-len-eq0-clause-nobody : goal.returns-then-len-eq0-clause-nobody
returns-then-len-eq0-clause-nobody c =
    let l = c.loop-keeps in nobody_waits c.args.classes.now (core l.line l.book) (sym c.len.ensures.number ∙ c.if-len-eq0.true)

pub hold-requires : goal.hold-requires
hold-requires c =
    let l = c.loop-keeps in
    next_waits c.args.classes.now (core l.line l.book) c.in_use-used.result c.free_classes-free.result c.in-Some.place c.in-Some.seated c.in-Some.ensures
    l.invariant.tied

pub loop-keeps-smaller : goal.loop-keeps-smaller
loop-keeps-smaller c =
    let x = c.loop-keeps.line in let ws = x.wishes in let s = c.in-Some.seated in let n = c.in-Some.ensures in let place = c.in-Some.place in
    subst (λ (v : LineView). length v.wishes < length ws) (sym c.go.ensures)
    (fewer_after x.most c.free_classes-free.result s.needs s.ask place ws n.first.0 (sym n.ask))

pub loop-keeps-preserved : goal.loop-keeps-preserved
loop-keeps-preserved c =
    let l = c.loop-keeps in
    let s = step_in c.args.classes.now c.args.now c.args.keeps l.line l.book c.in_use-used.result c.free_classes-free.result c.in-Some.place c.in-Some.seated
    c.go.new.self c.hold.new.book c.is_sound.ensures c.in_use-used.ensures c.free_classes-free.ensures c.in-Some.ensures c.hold.ensures c.go.ensures
    l.invariant.tied in
    record {
      all = one_more_in c.args.classes.now c.args.now c.args.keeps (core c.args.line.now c.args.book.now) (core l.line l.book) (core c.go.new.self c.hold.new.book)
          l.invariant.all s.lets_in;
      tied = s.tied;
    }
