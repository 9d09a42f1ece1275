use Rattle.std.proofs.Common.{◌<◌, arith, refl}
use Rattle.legal_steps.proofs.BottleSets.{member_below}
use Rattle.interleaving.proofs.tables.Tables.may_ask_all.Goals as goal

pub returns : goal.returns
returns g c = (
  λ t k member.
      let below = member_below _ _ k c.requires.set member in
      let passed : k < c.loop-bottle.bottle = omega arith in
      c.loop-bottle.invariant k passed member,
  λ all. refl,
)
