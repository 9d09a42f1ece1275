use Rattle.std.proofs.Common.{rules, ◌-◌, ℕ, sym, ◌∙◌, subst, []}
use Rattle.std.proofs.lemmas.List.Sorted.{IsNonDecreasingBy-from_sort_by_key}
use Rattle.workers.specs.Driven.{TookRest}
use Rattle.workers.specs.declared.halt.Halt.TheVariants as halts
use Rattle.workers.proofs.Sorting.{job_of, own_mid, own_sorted, own_done, apart_done, driven}
use Rattle.workers.proofs.drive.drive.Goals as goal

pub in_teams-halt-requires-clause-own : goal.in_teams-halt-requires-clause-own
in_teams-halt-requires-clause-own g c κs within =
    let r = c.requires in
    own_mid c.args.bench.now c.args.turns c.args.desks.now c.sort_by_key-sorted.new.self halts.AllRetired [] [] [] []
    r.own r.all c.sort_by_key-sorted.ensures.permutation

pub finish-requires : goal.finish-requires
finish-requires g c = let r = c.requires in record {
  own = own_sorted c.args.bench.now c.args.turns c.args.desks.now c.sort_by_key-sorted.new.self c.in_teams-halt.result c.in_teams-halt.new.desks
      c.sort_unstable_by_key.new.self [] []
      r.own r.all c.sort_by_key-sorted.ensures.permutation c.in_teams-halt.ensures c.sort_unstable_by_key.ensures.permutation;
}

pub meet_all-requires-clause-own : goal.meet_all-requires-clause-own
meet_all-requires-clause-own g c =
    let r = c.requires in
    own_done c.args.bench.now c.args.turns c.args.desks.now c.sort_by_key-sorted.new.self c.in_teams-halt.result c.in_teams-halt.new.desks
    c.sort_unstable_by_key.new.self c.finish.new.desks []
    r.own r.all c.sort_by_key-sorted.ensures.permutation c.in_teams-halt.ensures c.sort_unstable_by_key.ensures.permutation
    (subst (λ (k : ℕ). TookRest (c.args.turns - k) c.sort_unstable_by_key.new.self c.finish.new.desks) c.taken.ensures c.finish.ensures)

pub meet_all-requires-clause-apart : goal.meet_all-requires-clause-apart
meet_all-requires-clause-apart g c =
    let r = c.requires in
    apart_done c.args.bench.now c.args.turns c.args.desks.now c.sort_by_key-sorted.new.self c.in_teams-halt.result c.in_teams-halt.new.desks
    c.sort_unstable_by_key.new.self c.finish.new.desks []
    r.own r.all c.sort_by_key-sorted.ensures.permutation c.in_teams-halt.ensures c.sort_unstable_by_key.ensures.permutation
    (subst (λ (k : ℕ). TookRest (c.args.turns - k) c.sort_unstable_by_key.new.self c.finish.new.desks) c.taken.ensures c.finish.ensures)

pub returns-then-all_retired : goal.returns-then-all_retired
returns-then-all_retired g c = let r = c.requires in (
  driven c.args.bench.now c.args.turns c.args.desks.now c.sort_by_key-sorted.new.self c.in_teams-halt.result c.in_teams-halt.new.desks
      c.sort_unstable_by_key.new.self c.finish.new.desks c.meet_all.new.desks
      r.own r.all c.sort_by_key-sorted.ensures.permutation c.in_teams-halt.ensures c.sort_unstable_by_key.ensures.permutation
      (subst (λ (k : ℕ). TookRest (c.args.turns - k) c.sort_unstable_by_key.new.self c.finish.new.desks) c.taken.ensures c.finish.ensures)
      c.are_at_rest.ensures.rest
      (IsNonDecreasingBy-from_sort_by_key job_of _ c.sort_unstable_by_key.ensures.sorted (λ a r q k. search rules)) c.meet_all.ensures,
  sym c.all_retired.ensures ∙ c.if-all_retired.true,
)

pub returns : goal.returns
returns g c = let r = c.requires in (
  driven c.args.bench.now c.args.turns c.args.desks.now c.sort_by_key-sorted.new.self c.in_teams-halt.result c.in_teams-halt.new.desks
      c.sort_unstable_by_key.new.self c.finish.new.desks c.meet_all.new.desks
      r.own r.all c.sort_by_key-sorted.ensures.permutation c.in_teams-halt.ensures c.sort_unstable_by_key.ensures.permutation
      (subst (λ (k : ℕ). TookRest (c.args.turns - k) c.sort_unstable_by_key.new.self c.finish.new.desks) c.taken.ensures c.finish.ensures)
      c.are_at_rest.ensures.rest
      (IsNonDecreasingBy-from_sort_by_key job_of _ c.sort_unstable_by_key.ensures.sorted (λ a r q k. search rules)) c.meet_all.ensures,
  sym c.all_retired.ensures ∙ c.if-all_retired.false,
)
