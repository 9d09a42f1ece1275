use Rattle.std.proofs.Common.{◌≡◌, ℕ, ◌+◌, ◌<◌, ◌↔◌, bit_or, length, sym, ap, ◌∙◌, subst, arith}
use Rattle.std.specs.Int.{bit_at}
use Rattle.bay.specs.Cores.{IsFreeClass}
use Rattle.bay.proofs.Sets.{none_yet, with_one, without_one}
use Rattle.bay.proofs.free.free_classes.Goals.{then-taken-class, else-taken-class}
use Rattle.bay.proofs.free.free_classes.Goals as goal

pub loop-class-init : goal.loop-class-init
loop-class-init c = none_yet (IsFreeClass c.args.classes.now c.args.book.now.asks)

pub loop-class-preserved : goal.loop-class-preserved
loop-class-preserved c =
    let l = c.loop-class in let P = IsFreeClass c.args.classes.now c.args.book.now.asks in
    let taken = c.taken_of_each-taken.ensures l.class (omega (arith, c.loop-class-test.true, c.requires)) in
    let Q : ℕ → Type 0 = λ n. (j : ℕ) → (bit_at n j ≡ 1) ↔ ((j < l.class + 1) × P j) in
    elim c.if-taken-class.branch [
      | then-taken-class w ↦
          let one = with_one P l.class l.free l.invariant (omega (arith, taken, w.if-taken-class.true)) in
          subst Q (sym (w.free-is ∙ ap (bit_or l.free) w.class_bit-free.ensures)) one
      | else-taken-class w ↦
          let none = without_one P l.class l.free l.invariant (λ h. omega (arith, taken, w.if-taken-class.false, h)) in
          subst Q (sym w.free-is) none
    ]

pub returns : goal.returns
returns c =
    let l = c.loop-class in
    let all : l.class ≡ length c.args.classes.now = omega (arith, c.loop-class-test.false, l.auto.class-end) in
    λ k. (
      λ h. let x = (l.invariant k).0 h in (subst (λ n. k < n) all x.0, x.1),
      λ x. (l.invariant k).1 (subst (λ n. k < n) (sym all) x.0, x.1),
    )
