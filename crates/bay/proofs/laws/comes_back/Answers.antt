use Rattle.std.proofs.Common.{arith}
use Rattle.bay.proofs.ComingBack as coming
use Rattle.bay.proofs.laws.comes_back.Goals as goal

pub returns : goal.returns
returns c =
    let is = c.next_number.ensures in let fits = c.next_number.type_inv in
    coming.comes_back c.args.bay.now c.look.ensures c.cut_lines_are_read.ensures (omega (arith, is, fits))
