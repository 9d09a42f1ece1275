use Rattle.std.proofs.Common.{◌≡◌, ℕ, List, Option, arith, refl, replicate, sym, ◌∙◌, ap, length, length-set, take, slice_set, ◌+◌, None, Some, subst}
use Rattle.std.proofs.lemmas.List.{get_or_read, length-replicate, take_all}
use Rattle.lab_plan.specs.PairTables.{AreNumbers}
use Rattle.lab_plan.proofs.PairNumbers.{numbers_none, numbers_more}
use Rattle.lab_plan.proofs.edge_table.number_pairs.Goals as goal

-- what is never some is none
none_only : (P : Option ℕ → Type 0) → ((e : ℕ) → ¬ P (Some e)) → (n : Option ℕ) → P n → n ≡ None
none_only P never None is = refl
none_only P never (Some e) is = absurd (never e is)

long : (ns : List (Option ℕ)) (n : ℕ) → ns ≡ replicate n None → length ns ≡ n
long ns n is = ap length is ∙ length-replicate n None

pub loop-e-init : goal.loop-e-init
loop-e-init g c =
    let all = c.in_ok-numbers.ensures.items_if_clones_equal (none_only _ (λ e clone. clone)) in
    record { length = long _ 1024 all; numbers = numbers_none c.args.pairs.now _ 1024 all }

pub overflow_cast-e : goal.overflow_cast-e
overflow_cast-e g c = omega (arith, c.requires.few, c.loop-e-test.true)

pub index_mut-requires : goal.index_mut-requires
index_mut-requires g c =
    let read = sym (get_or_read c.args.pairs.now c.loop-e.e c.index-pairs-e.result c.loop-e-test.true c.index-pairs-e.is (0, 0)) in
    let fits = c.requires.pairs c.loop-e.e (0, 0) c.loop-e-test.true in
    let low_is = ap (λ (p : ℕ × ℕ). p.0) read in
    let high_is = ap (λ (p : ℕ × ℕ). p.1) read in
    omega (arith, fits, low_is, high_is, c.slot.ensures, c.loop-e.invariant.length)

pub loop-e-preserved : goal.loop-e-preserved
loop-e-preserved g c =
    let read = sym (get_or_read c.args.pairs.now c.loop-e.e c.index-pairs-e.result c.loop-e-test.true c.index-pairs-e.is (0, 0)) in
    let fits = c.requires.pairs c.loop-e.e (0, 0) c.loop-e-test.true in
    let low_is = ap (λ (p : ℕ × ℕ). p.0) read in
    let high_is = ap (λ (p : ℕ × ℕ). p.1) read in
    record {
      length = length-set c.loop-e.numbers.items c.slot.result (Some c.loop-e.e) ∙ c.loop-e.invariant.length;
      numbers = subst (λ n. AreNumbers (take (c.loop-e.e + 1) c.args.pairs.now) (slice_set c.loop-e.numbers.items n (Some c.loop-e.e))) (sym c.slot.ensures)
          (numbers_more c.args.pairs.now c.loop-e.numbers.items c.loop-e.e c.index-pairs-e.result.0 c.index-pairs-e.result.1 c.loop-e-test.true read
          (omega (arith, fits, low_is, high_is)) (omega (arith, fits, high_is)) c.loop-e.invariant.length c.loop-e.invariant.numbers);
    }

pub returns-clause-numbers : goal.returns-clause-numbers
returns-clause-numbers g c =
    subst (λ ps. AreNumbers ps c.loop-e.numbers.items) (take_all c.loop-e.e c.args.pairs.now c.loop-e-test.false) c.loop-e.invariant.numbers

pub returns-clause-length : goal.returns-clause-length
returns-clause-length g c = c.loop-e.invariant.length
