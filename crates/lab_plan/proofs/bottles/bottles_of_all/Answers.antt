use Rattle.std.proofs.Common.{◌≡◌, ℕ, sym, ap, ◌∙◌, ◌+◌, ◌<◌, ◌++◌, List, ◌∷◌, [], arith, length, map, take, filter, slice_index_or}
use Rattle.std.specs.List.{range_with_len}
use Rattle.std.proofs.lemmas.List.{get_or_read, map_more, take_all}
use Rattle.std.proofs.lemmas.Result.{IfOk-from_err}
use Rattle.lab_plan.specs.InstrumentSets.{both_in}
use Rattle.lab_plan.specs.NamedBy.{both_hold}
use Rattle.lab_plan.proofs.bottles.bottles_of_all.Goals as goal

-- the bottles of a pair, by the sets of what the jobs name
abbrev bottles_of : List ℕ → ℕ → ℕ × ℕ → List ℕ
bottles_of sets n pair = filter (both_hold sets pair) (range_with_len 0 n)

-- the bottles of one more pair
one_more : (sets : List ℕ) (n : ℕ) (pairs : List (ℕ × ℕ)) (k first second instruments : ℕ) (bottles : List ℕ) (all new : List (List ℕ)) → k < length pairs
    → first ≡ slice_index_or sets (slice_index_or pairs k (0, 0)).0 0 → second ≡ slice_index_or sets (slice_index_or pairs k (0, 0)).1 0 → instruments ≡ n
    → bottles ≡ filter (both_in first second) (range_with_len 0 instruments) → all ≡ map (bottles_of sets n) (take k pairs) → new ≡ all ++ bottles ∷ []
    → new ≡ map (bottles_of sets n) (take (k + 1) pairs)
one_more sets n pairs k first second instruments bottles all new within first_is second_is same made before added =
    let f : ℕ × ℕ → List ℕ = bottles_of sets n in
    let one : bottles ≡ f (slice_index_or pairs k (0, 0)) = made
    ∙ ap (λ m. filter (both_in first second) (range_with_len 0 m)) same
    ∙ ap (λ a. filter (both_in a second) (range_with_len 0 n)) first_is
    ∙ ap (λ b. filter (both_in (slice_index_or sets (slice_index_or pairs k (0, 0)).0 0) b) (range_with_len 0 n)) second_is in
    added ∙ ap (λ l. l ++ bottles ∷ []) before ∙ ap (λ b. map f (take k pairs) ++ b ∷ []) one ∙ sym (map_more f pairs k (0, 0) within)

pub loop-low-init : goal.loop-low-init
loop-low-init g c = c.new-all.ensures.items

pub set-requires : goal.set-requires
set-requires g c =
    let read = get_or_read c.args.pairs.now c.loop-low.low-index c.loop-low-item.result c.loop-low-test.true c.loop-low-item.is (0, 0) in
    let fits = c.requires.pairs c.loop-low.low-index (0, 0) c.loop-low-test.true in
    omega (arith, fits, ap (λ (p : ℕ × ℕ). p.0) read, ap (λ (p : ℕ × ℕ). p.1) read, c.low.view_is)

pub set-requires-in-loop-low : goal.set-requires-in-loop-low
set-requires-in-loop-low g c =
    let read = get_or_read c.args.pairs.now c.loop-low.low-index c.loop-low-item.result c.loop-low-test.true c.loop-low-item.is (0, 0) in
    let fits = c.requires.pairs c.loop-low.low-index (0, 0) c.loop-low-test.true in
    omega (arith, fits, ap (λ (p : ℕ × ℕ). p.1) read, c.high.view_is)

pub new-requires : goal.new-requires
new-requires g c = omega (arith, c.instruments.ensures, c.requires.instruments)

pub loop-low-preserved : goal.loop-low-preserved
loop-low-preserved g c =
    let naming = c.args.naming.now in
    let read = sym (get_or_read c.args.pairs.now c.loop-low.low-index c.loop-low-item.result c.loop-low-test.true c.loop-low-item.is (0, 0)) in
    one_more naming.sets naming.instruments c.args.pairs.now c.loop-low.low-index c.set.result c.set-in-loop-low.result c.instruments.result
    c.in_ok-new.field-0 c.loop-low.all.items c.push.new.self.items c.loop-low-test.true
    (c.set.ensures ∙ ap (λ n. slice_index_or naming.sets n 0) (c.low.view_is ∙ ap (λ (p : ℕ × ℕ). p.0) (sym read)))
    (c.set-in-loop-low.ensures ∙ ap (λ n. slice_index_or naming.sets n 0) (c.high.view_is ∙ ap (λ (p : ℕ × ℕ). p.1) (sym read)))
    c.instruments.ensures c.in_ok-new.ensures c.loop-low.invariant c.in_ok-push.ensures.items

pub returns : goal.returns
returns g c = let naming = c.args.naming.now in
    c.loop-low.invariant ∙ ap (map (bottles_of naming.sets naming.instruments)) (take_all c.loop-low.low-index c.args.pairs.now c.loop-low-test.false)

pub returns-in_err-new : goal.returns-in_err-new
returns-in_err-new g c = IfOk-from_err c.from_residual.result _ c.from_residual.ensures.0

pub returns-in_err-push : goal.returns-in_err-push
returns-in_err-push g c = IfOk-from_err c.from_residual-in_err-push.result _ c.from_residual-in_err-push.ensures.0
