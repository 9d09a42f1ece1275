use Rattle.std.proofs.Common.{ℕ, length, sym, ap, ◌∙◌, subst, arith}
use Rattle.std.proofs.lemmas.Bool.{false≢true}
use borrow.Author.Count.{below_more}
use Rattle.lab_plan.specs.LabPlan.{LabPlan, bottles}
use Rattle.legal_steps.specs.State.{Has}
use Rattle.legal_steps.specs.Legal.{Needs, instrument_of}
use Rattle.refused_steps.proofs.marks.missing_at.Goals as goal
use Rattle.refused_steps.proofs.marks.missing_at.Goals.{else-needs_bottle-via-then-needs_bottle+else-not-has, else-needs_bottle-via-else-needs_bottle}

pub loop-bottle-preserved : goal.loop-bottle-preserved
loop-bottle-preserved g c =
    let w = c.args.world.now in
    let Marked : ℕ → Type 0 = λ k. Needs w.plan w.state c.args.job (instrument_of w.plan c.args.edge k) → Has c.bottle_marks-marks.result k in
    elim c.else-needs_bottle.branch [
      | else-needs_bottle-via-then-needs_bottle+else-not-has b ↦
          below_more Marked c.loop-bottle.bottle c.loop-bottle.invariant (λ needs. b.has.ensures.0 b.if-not-has.false)
      | else-needs_bottle-via-else-needs_bottle b ↦
          below_more Marked c.loop-bottle.bottle c.loop-bottle.invariant
          (λ needs. absurd (false≢true (sym b.if-needs_bottle.false ∙ c.needs_bottle.ensures.needs.1 needs)))
    ]

pub returns : goal.returns
returns g c = λ k inside needs.
    let count = c.bottles-bottle-end.ensures.bottles ∙ ap (λ (z : LabPlan). length (bottles z c.args.edge)) c.plan.ensures.plan in
    let past = c.loop-bottle-test.false in
    subst (λ marks. Has marks k) c.bottle_marks-marks.ensures (c.loop-bottle.invariant k (omega (arith, count, past, inside)) needs)
