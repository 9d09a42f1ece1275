use Rattle.std.proofs.Common.{inl, refl, sym, subst}
use Rattle.bench_calls.specs.Closing.{ClosesInside}
use Rattle.bench_calls.specs.declared.inside.Inside.TheVariants.{Reported}
use Rattle.bench_calls.proofs.ending.close_in.Goals as goal

pub returns-in-Some : goal.returns-in-Some
returns-in-Some c =
    let p = c.in-Some.printed in let given = c.give-status in
    subst (λ h. ClosesInside h (Reported p) c.args.room.now given.new.room c.args.told.now given.new.told given.result) (sym c.in-Open.is)
    (inl (p, c.in-Some.ensures.text, c.in-Some.ensures.holds, refl, given.ensures))
