use Rattle.std.proofs.Common.{arith, length, decimal, ap, ◌∙◌, length-append}
use Rattle.std.proofs.lemmas.Fmt.{length-decimal-le}
use Rattle.report.proofs.line.Line.number.Goals as goal

pub digits-requires : goal.digits-requires
digits-requires g c = let short = length-decimal-le 10 c.from.result (omega arith) (omega (arith, c.ranges.number.fits, c.from.ensures)) (omega (arith, c.ranges.number.fits, c.from.ensures)) in omega (arith, short, c.requires)

pub returns-clause-len : goal.returns-clause-len
returns-clause-len g c =
    let short = length-decimal-le 10 c.from.result (omega arith) (omega (arith, c.ranges.number.fits, c.from.ensures)) (omega (arith, c.ranges.number.fits, c.from.ensures)) in
    let whole = ap length c.digits.ensures ∙ length-append c.args.self.now (decimal c.from.result) in omega (arith, short, whole)
