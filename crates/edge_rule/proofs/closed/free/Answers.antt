use Rattle.std.proofs.Common.{◌≡◌, ℕ, zero, suc, ◌+◌, ◌<◌, ◌≤◌, Bool, false, List, [], ◌∷◌, set, get_or, get_or-set_other, inl, inr, refl, ap, ◌∙◌, arith}
use Rattle.std.proofs.lemmas.Bool.{cases_lt}
use Rattle.edge_rule.proofs.closed.free.Goals as goal

-- no value is left where one was taken
taken : (filled : List Bool) (i : ℕ) → get_or (set filled i false) i false ≡ false
taken [] zero = refl
taken [] (suc i) = refl
taken (x ∷ filled) zero = refl
taken (x ∷ filled) (suc i) = taken filled i

taken_below : (filled : List Bool) (i k : ℕ) → k < i + 1 → ((k : ℕ) → k < i → get_or filled k false ≡ false) → get_or (set filled i false) k false ≡ false
taken_below filled i k low before = elim (cases_lt k i) [
  | inl below ↦ let apart : ¬ (k ≡ i) = λ e. absurd (omega (arith, e, below)) in get_or-set_other filled i k false false apart ∙ before k below
  | inr past ↦ let here : k ≡ i = omega (arith, low, past) in ap (λ n. get_or (set filled i false) n false) here ∙ taken filled i
]

pub loop-i-init : goal.loop-i-init
loop-i-init g0 c = (c.requires, λ k low. absurd (omega (arith, low)))

pub take-requires : goal.take-requires
take-requires g0 c = let n = c.slot_count.ensures in let more = c.loop-i-test.true in
    let same : c.loop-i.i ≤ c.loop-i.i = omega arith in (omega (arith, n, more), c.loop-i.invariant.0 c.loop-i.i same (omega (arith, n, more)))

pub loop-i-preserved : goal.loop-i-preserved
loop-i-preserved g0 c = let inv = c.loop-i.invariant in let now = c.take.ensures.others in (
  λ k low high.
      let apart : ¬ (k ≡ c.loop-i.i) = λ e. absurd (omega (arith, e, low)) in let long = now.2 in
      ap (λ l. get_or l k false) now.1 ∙ (get_or-set_other _ c.loop-i.i k false false apart ∙ inv.0 k (omega (arith, low)) (omega (arith, high, long))),
  λ k low. ap (λ l. get_or l k false) now.1 ∙ taken_below _ c.loop-i.i k low inv.1,
)

pub loop-i-smaller : goal.loop-i-smaller
loop-i-smaller g0 c = let n = c.slot_count.ensures in let more = c.loop-i-test.true in let long = c.take.ensures.others.2 in omega (arith, n, more, long)

pub free-requires : goal.free-requires
free-requires g0 c = let n = c.slot_count.ensures in let past = c.loop-i-test.false in λ k low. c.loop-i.invariant.1 k (omega (arith, n, past, low))
