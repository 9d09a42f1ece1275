use Rattle.std.proofs.Common.{sym, ◌∙◌, subst}
use Rattle.std.proofs.lemmas.Bool.{false≢true}
use Rattle.live_lab.specs.declared.kinds.Kind.{Kind}
use Rattle.live_lab.specs.Kinds.{IsOf}
use Rattle.live_lab.proofs.Bits.{holds_has, lacks}
use Rattle.live_lab.proofs.kinds.is_of.Goals as goal

pub returns-then-has : goal.returns-then-has
returns-then-has g c =
    let P : Kind → Type 0 = λ k. IsOf k c.args.waiting c.args.clocks.now c.args.world.now c.args.job in (
      λ t. subst P (sym c.in-Begins.is) (holds_has c.args.waiting c.args.job (sym c.has.ensures ∙ c.if-has.true), c.enabled.ensures.0 t),
      λ q. c.enabled.ensures.1 (subst P c.in-Begins.is q).1,
    )

pub returns-else-has : goal.returns-else-has
returns-else-has g c =
    let P : Kind → Type 0 = λ k. IsOf k c.args.waiting c.args.clocks.now c.args.world.now c.args.job in (
      λ t. absurd (false≢true (sym c.if-has.false ∙ t)),
      λ q. absurd (lacks c.args.waiting c.args.job (sym c.has.ensures ∙ c.if-has.false) (subst P c.in-Begins.is q).0),
    )

pub returns-then-has-2 : goal.returns-then-has-2
returns-then-has-2 g c =
    let P : Kind → Type 0 = λ k. IsOf k c.args.waiting c.args.clocks.now c.args.world.now c.args.job in (
      λ t. subst P (sym c.in-NoneLeft.is) (holds_has c.args.waiting c.args.job (sym c.has-in-NoneLeft.ensures ∙ c.if-has-2.true), c.is_through.ensures.0 t),
      λ q. c.is_through.ensures.1 (subst P c.in-NoneLeft.is q).1,
    )

pub returns-else-has-2 : goal.returns-else-has-2
returns-else-has-2 g c =
    let P : Kind → Type 0 = λ k. IsOf k c.args.waiting c.args.clocks.now c.args.world.now c.args.job in (
      λ t. absurd (false≢true (sym c.if-has-2.false ∙ t)),
      λ q. absurd (lacks c.args.waiting c.args.job (sym c.has-in-NoneLeft.ensures ∙ c.if-has-2.false) (subst P c.in-NoneLeft.is q).0),
    )
