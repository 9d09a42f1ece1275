use Rattle.std.proofs.Common.{sym, subst, ap, arith}
use Rattle.std.specs.List.{count_by}
use Rattle.bay_book.specs.Asks.{ask_at}
use Rattle.bay.specs.Cores.{Core, core, IsTied}
use Rattle.bay.specs.Following.{EndsInTime}
use Rattle.bay.proofs.Tied.{ended_tied}
use Rattle.bay.proofs.Due.{due_open}
use Rattle.bay.proofs.Steps.{is_open, all_in_open, ended_open, lets_more, ends_more}
use Rattle.bay.proofs.following.follow.Goals as goal

pub loop-place-smaller : goal.loop-place-smaller
loop-place-smaller c =
    let l = c.loop-place in let classes = c.args.classes.now in let x = core c.let_in_all.new.line c.let_in_all.new.book in
    let all = c.let_in_all.ensures.all in
    let same = all_in_open classes c.args.now c.args.terms.keeps all.0 (core l.line l.book) x all.1 in
    let due = c.in-Some.ensures in
    let less = ended_open x c.in-Some.place c.in-Some.how c.args.now due.0
    (due_open classes c.args.terms c.args.now x (ask_at x.book.asks c.in-Some.place) c.in-Some.how due.1) in
    let now = ap (λ (y : Core). count_by is_open y.book.asks) c.end_at.ensures in
    omega (arith, same, less, now)

pub loop-place-preserved : goal.loop-place-preserved
loop-place-preserved c =
    let l = c.loop-place in let classes = c.args.classes.now in let terms = c.args.terms in let now = c.args.now in
    let first = core c.args.line.now c.args.book.now in let x = core c.let_in_all.new.line c.let_in_all.new.book in
    let y = core c.end_at.new.line c.end_at.new.book in
    let due = c.in-Some.ensures in
    let ends : EndsInTime classes terms now x y = record {
      place = c.in-Some.place;
      how = c.in-Some.how;
      inside = due.0;
      due = due.1;
      then = c.end_at.ensures;
    } in
    record {
      steps = ends_more classes terms now first x y (lets_more classes terms now first (core l.line l.book) x l.invariant.steps c.let_in_all.ensures.all) ends;
      tied = subst (IsTied classes) (sym c.end_at.ensures)
          (ended_tied classes x c.in-Some.place c.in-Some.how now c.is_sound.ensures due.0 c.let_in_all.ensures.tied);
    }

pub returns-in_default-clause-follows : goal.returns-in_default-clause-follows
returns-in_default-clause-follows c =
    let l = c.loop-place in let classes = c.args.classes.now in let terms = c.args.terms in let now = c.args.now in
    let first = core c.args.line.now c.args.book.now in let x = core c.let_in_all.new.line c.let_in_all.new.book in
    let all = lets_more classes terms now first (core l.line l.book) x l.invariant.steps c.let_in_all.ensures.all in
    record { many = all.0; steps = all.1; nobody_waits = c.let_in_all.ensures.nobody; nobody_due = c.in_default.ensures }
