use Rattle.std.proofs.Common.{◌≤◌, ◌<◌, length, get_or, sym, subst}
use Rattle.std.specs.List.{All}
use Rattle.cycles.specs.Cycles.{IsAmong, IsCycleOf, BeginsWithSmallest}
use Rattle.cycles.specs.Peeling.{EachLeadsOn, NoneLeadsOn}
use Rattle.cycles.proofs.Peeled.{none_out, no_cycle_left}
use Rattle.cycles.proofs.Turning.{rotated_cycle, rotated_smallest}
use Rattle.cycles.proofs.cycle.cycle_in.Goals as goal

pub take_out_sinks-requires-clause-out : goal.take_out_sinks-requires-clause-out
take_out_sinks-requires-clause-out g c =
    none_out c.args.pairs.now c.args.jobs c.in_ok-left.left.items c.requires (c.in_ok-left.ensures.items_if_clones_equal (λ copy e. e))

pub returns-in_default-clause-cycle : goal.returns-in_default-clause-cycle
returns-in_default-clause-cycle g c =
    no_cycle_left c.args.pairs.now _ c.take_out_sinks.ensures.out
    (subst (λ left. NoneLeadsOn c.args.pairs.now left) c.deref.ensures.value c.in_default.ensures)

pub along-requires-clause-each : goal.along-requires-clause-each
along-requires-clause-each g c =
    subst (λ left. EachLeadsOn c.args.pairs.now left) (sym c.deref-2.ensures.value) c.take_out_sinks.ensures.each

pub returns-clause-cycle : goal.returns-clause-cycle
returns-clause-cycle g c =
    subst (λ jobs. IsCycleOf (IsAmong c.args.pairs.now) jobs) (sym c.rotate_left.ensures.items)
    (rotated_cycle (IsAmong c.args.pairs.now) c.in_ok-cycle.cycle.items c.smallest_place.result (c.in_ok-cycle.ensures c.args.pairs.now c.in_ok-along.ensures))

pub returns-clause-smallest_first : goal.returns-clause-smallest_first
returns-clause-smallest_first g c =
    let value = c.deref-3.ensures.value in
    subst (λ jobs. BeginsWithSmallest jobs) (sym c.rotate_left.ensures.items)
    (rotated_smallest c.in_ok-cycle.cycle.items c.smallest_place.result
    (subst (λ jobs. c.smallest_place.result < length jobs) value c.smallest_place.ensures.within)
    (subst (λ jobs. All (λ job. get_or jobs c.smallest_place.result 0 ≤ job) jobs) value c.smallest_place.ensures.smallest))
