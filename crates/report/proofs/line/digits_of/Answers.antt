use Rattle.std.proofs.Common.{rules, arith, ◌≡◌, ◌+◌, ◌≤◌, ◌<◌, ◌/◌, ◌^◌, ℕ, length, decimal, ap, ◌∙◌, length-append}
use Rattle.std.proofs.lemmas.Fmt.{decimal_step, decimal_nonempty, length-decimal-le}
use Rattle.report.proofs.line.digits_of.Goals as goal

-- the last digit is one more than those of the tenth
one_more : (n : ℕ) → 10 ≤ n → n < 2 ^ 64 → length (decimal n) ≡ length (decimal (n / 10)) + 1
one_more n long fits = ap length (decimal_step n long fits) ∙ length-append (decimal (n / 10)) _

one_digit : (n : ℕ) → n < 10 → length (decimal n) ≡ 1
one_digit n small =
    let most = length-decimal-le 1 n (omega arith) small (omega (arith, small)) in
    let least = decimal_nonempty n (omega (arith, small)) in omega (arith, most, least)

pub overflow_add-count : goal.overflow_add-count
overflow_add-count c =
    let most = length-decimal-le 20 c.args.number (omega arith) (omega (arith, c.ranges.number.fits)) c.ranges.number.fits in
    let kept = c.loop-rest.invariant in omega (arith, most, kept)

pub loop-rest-preserved : goal.loop-rest-preserved
loop-rest-preserved c =
    let more = one_more c.loop-rest.rest c.loop-rest-test.true (search (rules, c.loop-rest.auto.rest-fits)) in
    let kept = c.loop-rest.invariant in omega (arith, more, kept)

pub returns : goal.returns
returns c =
    let last = one_digit c.loop-rest.rest (omega (arith, c.loop-rest-test.false)) in
    let kept = c.loop-rest.invariant in omega (arith, last, kept)
