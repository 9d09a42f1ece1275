use Rattle.std.proofs.Common.{refl, arith, ◌∙◌}
use Rattle.desk_user.proofs.Owned.{took_none, took_more, before_more}
use Rattle.desk_user.proofs.turn.turns_until.Goals as goal

pub loop-number-init : goal.loop-number-init
loop-number-init g c = (took_none c.args.desk.now, refl, refl)

pub loop-number-preserved : goal.loop-number-preserved
loop-number-preserved g c = (
  took_more c.loop-number._number c.args.desk.now c.loop-number.desk c.turn-turned.new.desk c.turn-turned.result c.loop-number.invariant.0 c.turn-turned.ensures,
  before_more c.args.until c.loop-number._number c.args.desk.now c.loop-number.desk c.turn-turned.new.desk c.turn-turned.result c.loop-number.invariant.1
      (λ at. let yes = c.is_at.ensures.1 at in cc) c.turn-turned.ensures,
  c.after.ensures.how ∙ c.loop-number.invariant.2,
)

pub returns-then-is_at-clause-stops : goal.returns-then-is_at-clause-stops
returns-then-is_at-clause-stops g c =
    let l = c.loop-number-test.true in (c.loop-number._number, (omega (arith, l)), c.loop-number.invariant.1, λ no. cc)

pub returns-clause-stops : goal.returns-clause-stops
returns-clause-stops g c = (c.loop-number._number, (omega arith), c.loop-number.invariant.1, λ no. omega arith)

pub returns-then-is_at-clause-how : goal.returns-then-is_at-clause-how
returns-then-is_at-clause-how g c = c.leave.ensures.how ∙ c.loop-number.invariant.2

pub returns-clause-how : goal.returns-clause-how
returns-clause-how g c = c.leave-2.ensures.how ∙ c.loop-number.invariant.2
