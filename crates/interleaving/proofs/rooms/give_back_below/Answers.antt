use Rattle.std.proofs.Common.{◌≡◌, ◌-◌, ◌<◌, ◌≤◌, ℕ, List, length, arith, sym, ap, ◌∙◌, subst}
use Rattle.std.proofs.lemmas.List.{get_or_read}
use Rattle.lab_plan.specs.LabPlan.{count_on}
use Rattle.instrument_log.specs.InstrumentLog.{LogView, empty_log, with_room}
use Rattle.interleaving.specs.Rooms.{log_at, HaveMoreBelow}
use Rattle.interleaving.proofs.MoreRooms.{more_none, less_one}
use Rattle.interleaving.proofs.rooms.give_back_below.Goals as goal

pub loop-number-init : goal.loop-number-init
loop-number-init g c = more_none c.args.commands.now c.args.logs.now.items

pub index_mut-requires : goal.index_mut-requires
index_mut-requires g c = omega (arith, c.loop-number.invariant.as_many, c.requires.there, c.loop-number-test.true)

pub give_back_room-requires : goal.give_back_room-requires
give_back_room-requires g c =
    let n = c.loop-number.number in
    let now : List LogView = c.loop-number.logs.items in
    let old : List LogView = c.args.logs.now.items in
    let log : LogView = c.index_mut.result.now in
    let inside : n < length now = omega (arith, c.loop-number.invariant.as_many, c.requires.there, c.loop-number-test.true) in
    let read : log ≡ log_at now n = get_or_read now n log inside c.index_mut.ensures.value (empty_log 0) in
    let same : log_at old n ≡ log = c.loop-number.invariant.others n (omega arith) ∙ sym read in
    let spare = c.requires.spare n c.loop-number-test.true (omega (arith, c.requires.there, c.loop-number-test.true)) in
    omega (arith, spare, ap (λ (l : LogView). length l.entries) same, ap (λ (l : LogView). l.room) same, c.count_on.ensures)

pub loop-number-preserved : goal.loop-number-preserved
loop-number-preserved g c =
    let n = c.loop-number.number in
    let commands = c.args.commands.now in
    let now : List LogView = c.loop-number.logs.items in
    let old : List LogView = c.args.logs.now.items in
    let log : LogView = c.index_mut.result.now in
    let inside : n < length now = omega (arith, c.loop-number.invariant.as_many, c.requires.there, c.loop-number-test.true) in
    let read : log ≡ log_at now n = get_or_read now n log inside c.index_mut.ensures.value (empty_log 0) in
    let same : log_at old n ≡ log_at now n = c.loop-number.invariant.others n (omega arith) in
    let spare = c.requires.spare n c.loop-number-test.true (omega (arith, c.requires.there, c.loop-number-test.true)) in
    let enough : count_on n commands ≤ (log_at now n).room = omega (arith, spare, ap (λ (l : LogView). l.room) same) in
    let less : c.give_back_room.new.self ≡ with_room ((log_at now n).room - count_on n commands) (log_at now n) =
    c.give_back_room.ensures ∙ ap (λ (m : ℕ). with_room (log.room - m) log) c.count_on.ensures
    ∙ ap (λ (l : LogView). with_room (l.room - count_on n commands) l) read in
    less_one commands n now old c.give_back_room.new.self inside enough less c.loop-number.invariant

pub returns : goal.returns
returns g c =
    let end : c.loop-number.number ≡ c.args.below = omega (arith, c.loop-number-test.false, c.loop-number.auto.number-end) in
    subst (λ (m : ℕ). HaveMoreBelow m c.args.commands.now c.loop-number.logs.items c.args.logs.now.items) end c.loop-number.invariant
