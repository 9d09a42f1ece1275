use Rattle.std.proofs.Common.{refl, subst, arith, ◌∙◌}
use Rattle.edge_rule.specs.DeskView.{DeskView}
use Rattle.std.specs.Prelude.{true, false}
use Rattle.desk_user.specs.Use.{Looked}
use Rattle.desk_user.proofs.Owned.{took_none, took_more, took_then, none_taken, before_all_more}
use Rattle.desk_user.proofs.turn.turns_until_all_retired.Goals as goal

pub returns-then-saw_all_retired-clause-took : goal.returns-then-saw_all_retired-clause-took
returns-then-saw_all_retired-clause-took g c =
    let m : DeskView = c.loop-number.desk in
    let e : DeskView = c.saw_all_retired.new.desk in
    let l = c.loop-number-test.true in
    (c.loop-number._number, (omega (arith, l)), took_then c.loop-number._number c.args.desk.now m e c.loop-number.invariant.0 (none_taken m e c.saw_all_retired.ensures.took))

pub returns-then-saw_all_retired-clause-stops : goal.returns-then-saw_all_retired-clause-stops
returns-then-saw_all_retired-clause-stops g c =
    let m : DeskView = c.loop-number.desk in
    let e : DeskView = c.saw_all_retired.new.desk in
    let l = c.loop-number-test.true in
    let looked : Looked m true e = subst (λ r. Looked m r e) c.if-saw_all_retired.true c.saw_all_retired.ensures.looked in
    (c.loop-number._number, (omega (arith, l)), m, c.loop-number.invariant.1, looked, λ no. cc)

pub loop-number-init : goal.loop-number-init
loop-number-init g c = (took_none c.args.desk.now, refl, refl)

pub loop-number-preserved : goal.loop-number-preserved
loop-number-preserved g c =
    let n = c.loop-number._number in
    let d : DeskView = c.args.desk.now in
    let m : DeskView = c.loop-number.desk in
    let e : DeskView = c.saw_all_retired.new.desk in
    let looked : Looked m false e = subst (λ r. Looked m r e) c.if-saw_all_retired.false c.saw_all_retired.ensures.looked in (
      took_more n d e c.turn-turned.new.desk c.turn-turned.result
          (took_then n d m e c.loop-number.invariant.0 (none_taken m e c.saw_all_retired.ensures.took)) c.turn-turned.ensures,
      before_all_more n d m e c.turn-turned.new.desk c.turn-turned.result c.loop-number.invariant.1 looked c.turn-turned.ensures,
      c.after.ensures.how ∙ c.loop-number.invariant.2,
    )

pub returns-clause-took : goal.returns-clause-took
returns-clause-took g c =
    let m : DeskView = c.loop-number.desk in
    let e : DeskView = c.saw_all_retired-2.new.desk in
    (c.loop-number._number, (omega arith), took_then c.loop-number._number c.args.desk.now m e c.loop-number.invariant.0 (none_taken m e c.saw_all_retired-2.ensures.took))

pub returns-clause-stops : goal.returns-clause-stops
returns-clause-stops g c =
    (c.loop-number._number, (omega arith), c.loop-number.desk, c.loop-number.invariant.1, c.saw_all_retired-2.ensures.looked, λ no. omega arith)

pub returns-then-saw_all_retired-clause-how : goal.returns-then-saw_all_retired-clause-how
returns-then-saw_all_retired-clause-how g c = c.leave.ensures.how ∙ c.loop-number.invariant.2

pub returns-clause-how : goal.returns-clause-how
returns-clause-how g c = c.leave-2.ensures.how ∙ c.loop-number.invariant.2
