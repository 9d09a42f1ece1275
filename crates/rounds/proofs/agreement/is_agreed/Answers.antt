use Rattle.std.proofs.Common.{◌+◌, ◌↔◌, IsTrue, length, sym, ap, ◌∙◌, subst, arith}
use Rattle.lab_plan.specs.LabPlan.{LabPlan, edges}
use Rattle.rounds.specs.Company.{IsAgreed}
use Rattle.rounds.proofs.BothEnds.{with_one_more, not_all}
use Rattle.rounds.proofs.agreement.is_agreed.Goals as goal
use Rattle.rounds.proofs.agreement.is_agreed.Goals.{then-all, else-all}

pub is_agreed_at-all-requires-clause-edge : goal.is_agreed_at-all-requires-clause-edge
is_agreed_at-all-requires-clause-edge g c = let n = c.edges-number-end.ensures.edges ∙ ap (λ (z : LabPlan). length (edges z)) c.plan.ensures in
    let inside = c.loop-number-test.true in omega (arith, n, inside)

pub loop-number-preserved : goal.loop-number-preserved
loop-number-preserved g c = let inv = c.loop-number.invariant in elim c.if-all.branch [
  | then-all w ↦ subst (λ b. IsTrue b ↔ IsAgreed c.args.desks.now c.args.bench.now.plan (c.loop-number.number + 1)) (sym w.all-is)
      (with_one_more c.args.desks.now c.args.bench.now.plan c.loop-number.number
      c.loop-number.all w.is_agreed_at-all.result w.if-all.true inv w.is_agreed_at-all.ensures)
  | else-all w ↦ not_all c.args.desks.now c.args.bench.now.plan c.loop-number.number c.loop-number.all c.if-all.all w.if-all.false w.all-is inv
]

pub returns : goal.returns
returns g c = let n = c.edges-number-end.ensures.edges ∙ ap (λ (z : LabPlan). length (edges z)) c.plan.ensures in
    subst (λ n. IsTrue c.loop-number.all ↔ IsAgreed c.args.desks.now c.args.bench.now.plan n)
    (let a = c.loop-number.auto.number-end in let b = c.loop-number-test.false in omega arith) c.loop-number.invariant
