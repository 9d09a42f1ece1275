use Rattle.std.proofs.Common.{◌≡◌, ℕ, ◌+◌, ◌<◌, ◌++◌, nat_eq, arith, sym, refl, ap, length, length-set, map, take, slice_index_or, append-nil, ◌∙◌}
use Rattle.std.specs.List.{range_with_len}
use Rattle.std.proofs.lemmas.List.{get_or_read, length_push, length-take}
use Rattle.std.proofs.lemmas.List.Sums.{count_by-le-length}
use Rattle.lab_plan.specs.declared.verb.Verb.{Verb}
use Rattle.lab_plan.specs.declared.verb.Verb.TheVariants.{Read}
use Rattle.lab_plan.specs.declared.place.Place.{Place}
use Rattle.lab_plan.specs.SessionTables.{place_of}
use Rattle.lab_plan.proofs.Alike.{read_alike}
use Rattle.lab_plan.proofs.Parts.{parts_more, place_next, places_more}
use Rattle.lab_plan.proofs.session_table.push_places.Goals as goal

pub loop-instrument-init : goal.loop-instrument-init
loop-instrument-init g c = record {
  parts = λ i below. read_alike 56 i 0;
  numbered = refl;
  placed = sym (append-nil c.args.places.now.items);
  many = omega arith;
  room = refl;
}

pub parts_of-lengths-requires-clause-numbered : goal.parts_of-lengths-requires-clause-numbered
parts_of-lengths-requires-clause-numbered g c = c.requires.numbered

pub parts_of-lengths-requires-clause-few : goal.parts_of-lengths-requires-clause-few
parts_of-lengths-requires-clause-few g c = c.requires.few

pub push_reserved-requires : goal.push_reserved-requires
push_reserved-requires g c =
    let before = c.loop-instrument.invariant in
    omega (arith, before.many, before.room, c.requires.room, c.loop-instrument-test.true)

pub overflow_add-place : goal.overflow_add-place
overflow_add-place g c =
    let k = c.loop-instrument.instrument-index in
    let commands = c.args.commands.now in
    let n = c.instrument.inside.0 in
    let read = sym (get_or_read commands k c.loop-instrument-item.result c.loop-instrument-test.true c.loop-instrument-item.is (0, Read)) in
    let is : (slice_index_or commands k (0, Read)).0 ≡ n = ap (λ (command : ℕ × Verb). command.0) read ∙ sym c.instrument.view_is in
    let number = c.requires.numbered k (0, Read) c.loop-instrument-test.true in
    omega (
      arith,
      c.loop-instrument.invariant.parts n (omega (arith, number, is)),
      count_by-le-length (λ (command : ℕ × Verb). nat_eq command.0 n) (take k commands),
      length-take k commands,
      c.loop-instrument-test.true,
      c.requires.few,
    )

pub returns-clause-places : goal.returns-clause-places
returns-clause-places g c =
    let commands = c.args.commands.now in
    let end : c.loop-instrument.instrument-index ≡ length commands =
    omega (arith, c.loop-instrument-test.false, c.loop-instrument.auto.instrument-index-end) in
    c.loop-instrument.invariant.placed
    ∙ ap (λ (n : ℕ). c.args.places.now.items ++ map (place_of commands) (range_with_len 0 n)) end

pub returns-clause-room : goal.returns-clause-room
returns-clause-room g c = c.loop-instrument.invariant.room

pub loop-instrument-preserved : goal.loop-instrument-preserved
loop-instrument-preserved g c =
    let k = c.loop-instrument.instrument-index in
    let commands = c.args.commands.now in
    let before = c.loop-instrument.invariant in
    let parts = c.loop-instrument.parts in
    let n = c.instrument.inside.0 in
    let read = sym (get_or_read commands k c.loop-instrument-item.result c.loop-instrument-test.true c.loop-instrument-item.is (0, Read)) in
    let is : (slice_index_or commands k (0, Read)).0 ≡ n = ap (λ (command : ℕ × Verb). command.0) read ∙ sym c.instrument.view_is in
    let number = c.requires.numbered k (0, Read) c.loop-instrument-test.true in
    let below : n < 56 = omega (arith, number, is) in
    let new : ℕ = slice_index_or parts n 0 + 1 in
    let place : Place = record { place = new; length = slice_index_or c.parts_of-lengths.result n 0 } in
    let pushed = c.push_reserved.ensures.items in
    record {
      parts = parts_more commands parts k n new c.loop-instrument-test.true is below before.numbered before.parts refl;
      numbered = length-set parts n new ∙ before.numbered;
      placed = pushed ∙ places_more commands c.args.places.now.items c.loop-instrument.places.items k place
          (place_next commands parts c.parts_of-lengths.result k n is below before.parts c.parts_of-lengths.ensures.parts) before.placed;
      many = omega (arith, ap length pushed, length_push c.loop-instrument.places.items place, before.many);
      room = c.push_reserved.ensures.capacity ∙ before.room;
    }
