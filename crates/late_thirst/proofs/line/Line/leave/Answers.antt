use Rattle.std.proofs.Common.{◌<◌, length, length-set, None, sym, subst, arith}
use Rattle.late_thirst.specs.Outside.{LineView}
use Rattle.late_thirst.proofs.Those.{one_left}
use Rattle.late_thirst.proofs.line.Line.leave.Goals as goal

pub invariant_of-self : goal.invariant_of-self
invariant_of-self c =
    let x = c.self.inside in let all = c.self.invariant.0 in
    let inside : c.args.job < length x.places.items = subst (λ (l : LineView). c.args.job < length l.places) (sym c.self.view_is) c.requires in (
      (let long = length-set x.places.items c.args.job None in omega (arith, long, all)),
      one_left x.places.items x.outside c.args.job inside all c.self.invariant.1,
    )
