use Rattle.std.proofs.Common.{subst, inl, inr}
use Rattle.bay_line.specs.Turns.{SaysAlone, SaysHeldBack}
use Rattle.bay_line.proofs.HeldBack.{says_only_its_own}
use Rattle.bay_line.proofs.held_back.only_its_own.Goals as goal

pub returns-then-is_alone : goal.returns-then-is_alone
returns-then-is_alone c = inl (subst (SaysAlone c.args.wishes.now c.args.place) c.if-is_alone.true c.is_alone.ensures)

pub returns-then-is_held_back : goal.returns-then-is_held_back
returns-then-is_held_back c =
    let a = c.args in inr (inl (subst (SaysHeldBack a.most a.free a.wishes.now a.place a.end) c.if-is_held_back.true c.is_held_back.ensures))

pub returns : goal.returns
returns c =
    let a = c.args in
    says_only_its_own a.most a.free a.wishes.now a.place a.end c.has_elder.result
    (subst (SaysHeldBack a.most a.free a.wishes.now a.place a.end) c.if-is_held_back.false c.is_held_back.ensures) c.has_elder.ensures
