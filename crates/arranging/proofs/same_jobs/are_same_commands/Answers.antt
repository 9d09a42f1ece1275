use Rattle.std.proofs.Common.{arith, refl, sym, ap, ◌∙◌}
use Rattle.lab_plan.specs.declared.verb.Verb.TheVariants.{Read}
use Rattle.arranging.specs.Reordered.{named_command}
use Rattle.arranging.proofs.Arrangements.{maps_meet, maps_same}
use Rattle.arranging.proofs.same_jobs.are_same_commands.Goals as goal

pub returns-then-not-is_same_command : goal.returns-then-not-is_same_command
returns-then-not-is_same_command g c =
    let p = c.args.plan.now in
    let q = c.args.other.now in
    let mine = c.index-mine-place in
    let yours = c.index-yours-place in (
      λ no. cc,
      λ all.
          let same = maps_same (named_command p) (named_command q) c.args.mine.now c.args.yours.now c.loop-place.place mine.result yours.result all
          (omega arith) in
          sym c.if-not-is_same_command.true ∙ c.is_same_command.ensures.1 (ap (named_command p) mine.is ∙ same ∙ sym (ap (named_command q) yours.is)),
    )

pub returns : goal.returns
returns g c = (
  λ _. maps_meet (named_command c.args.plan.now) (named_command c.args.other.now) c.args.mine.now c.args.yours.now (0, Read) (0, Read)
      (omega (arith, c.if-mine-yours.false)) (λ k below. c.loop-place.invariant k (omega (arith, below, c.loop-place-test.false))),
  λ _. refl,
)
