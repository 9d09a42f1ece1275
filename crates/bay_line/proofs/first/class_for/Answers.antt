use Rattle.std.proofs.Common.{◌≢◌, ℕ, bit_and, arith, w32}
use Rattle.std.specs.Int.{trailing_zeros}
use Rattle.std.proofs.lemmas.Nat.{and_le_r}
use Rattle.std.proofs.lemmas.Nat.Bits.{bit_at_and, bit_at-lt, bit_at-trailing_zeros}
use Rattle.bay_line.proofs.Kept.{not_zero}
use Rattle.bay_line.proofs.first.class_for.Goals as goal

pub returns : goal.returns
returns c =
    let a = c.args.wish.classes in let f = c.args.free in let n : ℕ = bit_and a f in
    let some : n ≢ 0 = not_zero n c.requires in
    let at_most = and_le_r a f in
    let small = c.ranges.free.fits in
    let t = bit_at-trailing_zeros w32 n (omega (arith, some)) (omega (arith, at_most, small)) in
    let i : ℕ = trailing_zeros w32 n in
    let both = bit_at_and a f i in let x = bit_at-lt a i in let y = bit_at-lt f i in let one = t.1 in
    record { is_free = omega (arith, both, one, x, y); its = omega (arith, both, one, x, y); small = t.0 }
