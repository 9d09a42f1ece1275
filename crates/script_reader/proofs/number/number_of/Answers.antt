use Rattle.std.proofs.Math.Nat.{pow-succ'}
use Rattle.std.proofs.Common.{add-one, ◌≡◌, ◌<◌, ◌≤◌, ◌+◌, ◌*◌, ◌-◌, ◌^◌, ℕ, Bool, true, false, ◌&&◌, List, [], ◌∷◌, ◌++◌, take, get_or, length, refl, sym, ap, ◌∙◌, arith, suc, zero}
use Rattle.std.specs.List.{list_all}
use Rattle.std.specs.Prelude.{nat_le}
use Rattle.std.proofs.lemmas.List.{take_more}
use Rattle.std.proofs.lemmas.Bool.{leb-true}
use Rattle.script_reader.specs.Number.{value_after}
use Rattle.lab_plan.specs.Names.{is_digit}
use Rattle.script_reader.proofs.number.number_of.Goals as goal

value_more : (n : ℕ) (xs : List ℕ) (x : ℕ) → value_after n (xs ++ x ∷ []) ≡ 10 * value_after n xs + (x - 48)
value_more n [] x = refl
value_more n (y ∷ xs) x = value_more (10 * n + (y - 48)) xs x

both : (a b : Bool) → (a && b) ≡ true → (a ≡ true) × (b ≡ true)
both true b e = (refl, e)
both false b e = cc

all_at : (p : ℕ → Bool) (xs : List ℕ) (i : ℕ) → list_all p xs ≡ true → i < length xs → p (get_or xs i 0) ≡ true
all_at p [] i e inside = absurd (omega arith)
all_at p (x ∷ xs) zero e inside = (both _ _ e).0
all_at p (x ∷ xs) (suc i) e inside = all_at p xs i (both _ _ e).1 (omega arith)

digit : (b : ℕ) → is_digit b ≡ true → b - 48 ≤ 9
digit b e = let high = leb-true b 57 (both (nat_le 48 b) (nat_le b 57) e).1 in omega arith

pub loop-byte-preserved : goal.loop-byte-preserved
loop-byte-preserved c =
    let xs = c.args.bytes.now in
    let i = c.loop-byte.byte-index in
    let inside : i < length xs = omega arith in
    let digits : list_all is_digit xs ≡ true = (both _ _ (both _ _ c.requires).0).1 in
    let small = digit (get_or xs i 0) (all_at is_digit xs i digits inside) in
    let power : 10 ^ (i + 1) ≡ 10 * 10 ^ i = ap (λ k. 10 ^ k) (add-one i) ∙ pow-succ' 10 i in
    record {
      value = ap (λ n. 10 * n + (get_or xs i 0 - 48)) c.loop-byte.invariant.value
          ∙ sym (value_more 0 (take i xs) (get_or xs i 0)) ∙ sym (ap (value_after 0) (take_more xs i 0 inside));
      small = omega arith;
    }
