use Rattle.std.proofs.Common.{arith, sym, ap, ◌∙◌, subst, length, map}
use Rattle.std.specs.List.{All, range_with_len}
use Rattle.std.proofs.lemmas.Result.{IfOk-from_err}
use Rattle.lab_plan.specs.Limits.{most_jobs}
use Rattle.lab_plan.specs.LabPlan.{pairs_with}
use Rattle.lab_plan.specs.PairTables.{IsPair, AreNumbers}
use Rattle.lab_plan.proofs.edge_table.EdgeTable.new.Goals as goal

pub find_pairs-requires-clause-jobs : goal.find_pairs-requires-clause-jobs
find_pairs-requires-clause-jobs g c = c.requires.jobs

pub find_pairs-requires-clause-instruments : goal.find_pairs-requires-clause-instruments
find_pairs-requires-clause-instruments g c = c.requires.instruments

pub returns-in_err-pairs : goal.returns-in_err-pairs
returns-in_err-pairs g c = IfOk-from_err c.from_residual.result _ c.from_residual.ensures.0

pub number_pairs-requires-clause-few : goal.number_pairs-requires-clause-few
number_pairs-requires-clause-few g c = omega (arith, c.in_ok-pairs.ensures.few, ap length c.deref.ensures.value)

pub number_pairs-requires-clause-pairs : goal.number_pairs-requires-clause-pairs
number_pairs-requires-clause-pairs g c = subst (All IsPair) (sym c.deref.ensures.value) c.in_ok-pairs.ensures.pairs

pub returns-in_err-numbers : goal.returns-in_err-numbers
returns-in_err-numbers g c = IfOk-from_err c.from_residual-in_err-numbers.result _ c.from_residual-in_err-numbers.ensures.0

pub lists_by_job-requires : goal.lists_by_job-requires
lists_by_job-requires g c = omega (arith, c.in_ok-pairs.ensures.few, ap length c.deref-2.ensures.value)

pub returns-in_err-lists : goal.returns-in_err-lists
returns-in_err-lists g c = IfOk-from_err c.from_residual-in_err-lists.result _ c.from_residual-in_err-lists.ensures.0

pub invariant_of-result : goal.invariant_of-result
invariant_of-result g c = record {
  few = c.in_ok-pairs.ensures.few;
  fit = c.in_ok-pairs.ensures.pairs;
  places = c.in_ok-numbers.ensures.length;
  numbers_are = subst (λ pairs. AreNumbers pairs c.in_ok-numbers.numbers.items) c.deref.ensures.value c.in_ok-numbers.ensures.numbers;
  lists_are = c.in_ok-lists.ensures ∙ ap (λ pairs. map (pairs_with pairs) (range_with_len 0 most_jobs)) c.deref-2.ensures.value;
}

pub returns : goal.returns
returns g c = c.in_ok-pairs.ensures.found
