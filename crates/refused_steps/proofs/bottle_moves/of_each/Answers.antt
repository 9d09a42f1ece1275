use Rattle.std.proofs.Common.{ℕ, ◌<◌, length, arith, sym, ap, ◌∙◌}
use Rattle.std.proofs.lemmas.Bool.{false≢true}
use borrow.Author.Count.{below_more}
use Rattle.lab_plan.specs.LabPlan.{bottles}
use Rattle.legal_steps.specs.State.{Has}
use Rattle.legal_steps.proofs.BottleSets.{member_below}
use Rattle.refused_steps.specs.BottleMoves.{MayMove}
use Rattle.refused_steps.proofs.bottle_moves.of_each.Goals as goal
use Rattle.refused_steps.proofs.bottle_moves.of_each.Goals.{then-has+in_default, else-has}

pub loop-bottle-preserved : goal.loop-bottle-preserved
loop-bottle-preserved g c =
    let w = c.args.world.now in
    let May : ℕ → Type 0 = λ k. Has c.args.set k → MayMove c.args.what w.plan w.state c.args.job c.args.edge k in
    elim c.if-has.branch [
      | then-has+in_default b ↦ below_more May c.loop-bottle.bottle c.loop-bottle.invariant (λ member. b.in_default.ensures)
      | else-has b ↦
          below_more May c.loop-bottle.bottle c.loop-bottle.invariant (λ member. absurd (false≢true (sym b.if-has.false ∙ c.has.ensures.1 member)))
    ]

pub returns : goal.returns
returns g c = λ k member.
    let below = member_below _ _ k c.requires.set member in
    let passed : k < c.loop-bottle.bottle = omega (arith, ap (λ p. length (bottles p c.args.edge)) c.plan.ensures.plan) in
    c.loop-bottle.invariant k passed member
