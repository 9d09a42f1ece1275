use Rattle.std.proofs.Common.{refl, arith}
use Rattle.bay_line.proofs.HeldBack.{says_last}
use Rattle.bay_line.proofs.held_back.is_last.Goals as goal

pub returns : goal.returns
returns c = says_last c.args.wishes.now c.args.place _ c.requires.rises (omega (arith, c.if-place-wishes.false, c.requires.inside)) refl
