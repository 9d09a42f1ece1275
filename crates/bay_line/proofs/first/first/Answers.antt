use Rattle.std.proofs.Common.{ℕ, Option, subst}
use Rattle.bay_line.specs.Turns.{IsFirstKept}
use Rattle.bay_line.proofs.Kept.{first_is_other}
use Rattle.bay_line.proofs.first.first.Goals as goal

pub returns-in-None-default : goal.returns-in-None-default
returns-in-None-default c =
    let r = c.first_kept.result in let most = c.args.most in let used = c.args.in_use in let free = c.args.free in let ws = c.args.wishes.now in
    first_is_other most used free ws c.first_other.result
    (subst (λ (o : Option ℕ). IsFirstKept most used free ws (o, r.1)) c.in-None-default.is-0 c.first_kept.ensures).1 c.first_other.ensures
