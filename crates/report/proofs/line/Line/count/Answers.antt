use Rattle.std.proofs.Common.{arith, length, decimal, ap, ◌∙◌, length-append}
use Rattle.std.proofs.lemmas.Fmt.{length-decimal-le}
use Rattle.report.proofs.line.Line.count.Goals as goal

pub digits-requires : goal.digits-requires
digits-requires g c = let short = length-decimal-le 20 c.args.count (omega arith) (omega (arith, c.ranges.count.fits)) (omega (arith, c.ranges.count.fits)) in omega (arith, short, c.requires)

pub returns-clause-len : goal.returns-clause-len
returns-clause-len g c =
    let short = length-decimal-le 20 c.args.count (omega arith) (omega (arith, c.ranges.count.fits)) (omega (arith, c.ranges.count.fits)) in
    let whole = ap length c.digits.ensures ∙ length-append c.args.self.now (decimal c.args.count) in omega (arith, short, whole)
