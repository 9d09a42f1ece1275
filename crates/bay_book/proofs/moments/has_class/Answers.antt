use Rattle.std.proofs.Common.{◌==◌, ap, arith}
use Rattle.std.proofs.lemmas.Bool.Decides.{nat_tests}
use Rattle.std.proofs.lemmas.Nat.Bits.{bit_at_above}
use Rattle.bay_book.proofs.moments.has_class.Goals as goal

pub returns-else-class-lt32 : goal.returns-else-class-lt32
returns-else-class-lt32 c =
    let above = bit_at_above c.args.full 32 c.args.class c.ranges.full.fits c.if-class-lt32.false in
    grind (arith, nat_tests, ap (λ n. n == 1) above)
