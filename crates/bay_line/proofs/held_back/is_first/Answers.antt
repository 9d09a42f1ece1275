use Rattle.std.proofs.Common.{refl, arith}
use Rattle.bay_line.proofs.HeldBack.{says_first}
use Rattle.bay_line.proofs.held_back.is_first.Goals as goal

pub returns : goal.returns
returns c = says_first c.args.wishes.now c.args.place _ c.requires.rises c.requires.inside (omega (arith, c.if-place-eq0.false)) refl
