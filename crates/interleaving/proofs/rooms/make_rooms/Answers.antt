use Rattle.std.proofs.Common.{◌≡◌, ℕ, ◌+◌, ◌<◌, ◌≤◌, List, length, slice_set, arith, ap, ◌∙◌, subst}
use Rattle.std.proofs.lemmas.List.{get_or_read}
use Rattle.instrument_log.specs.InstrumentLog.{LogView, empty_log, with_room}
use Rattle.interleaving.specs.Rooms.{log_at, more_room, HaveMoreBelow}
use Rattle.interleaving.proofs.MoreRooms.{given_back, same_logs, more_none, spare_none, more_one, spare_one}
use Rattle.interleaving.proofs.rooms.make_rooms.Goals as goal

pub returns-in-Err-clause-refused : goal.returns-in-Err-clause-refused
returns-in-Err-clause-refused g c =
    let n = c.loop-number.number in
    let now : List LogView = c.loop-number.logs.items in
    let inside : n < length now =
    (let w = c.loop-number.invariant.more.as_many in let t = c.loop-number-test.true in let a = c.len-number-end.ensures in let b = c.loop-number.auto.number-end in omega arith) in
    let log : LogView = c.index_mut.result.now in
    let read : log ≡ log_at now n = get_or_read now n log inside c.index_mut.ensures.value (empty_log 0) in
    let kept : c.make_room.new.self ≡ log = c.in-Err.ensures in
    let same : slice_set now n c.make_room.new.self ≡ now = same_logs now n c.make_room.new.self (◌∙◌ {b = log} kept read) in
    given_back c.args.commands.now n c.args.logs.now.items now c.give_back_below.new.logs.items c.loop-number.invariant.more
    (subst (λ (l : List LogView). HaveMoreBelow n c.args.commands.now c.give_back_below.new.logs.items l) same c.give_back_below.ensures)

pub loop-number-init : goal.loop-number-init
loop-number-init g c = record {
  more = more_none c.args.commands.now c.args.logs.now.items;
  spare = spare_none c.args.commands.now c.args.logs.now.items;
}

pub loop-number-preserved : goal.loop-number-preserved
loop-number-preserved g c =
    let n = c.loop-number.number in
    let commands = c.args.commands.now in
    let now : List LogView = c.loop-number.logs.items in
    let before = c.loop-number.invariant in
    let inside : n < length now = omega (arith, before.more.as_many, c.loop-number-test.true, c.len-number-end.ensures) in
    let log : LogView = c.index_mut.result.now in
    let seen_log : LogView = c.index.result.now in
    let read : log ≡ log_at now n = get_or_read now n log inside c.index_mut.ensures.value (empty_log 0) in
    let seen : seen_log ≡ log_at now n = get_or_read now n seen_log inside c.index.ensures (empty_log 0) in
    let fits : length (log_at now n).entries ≤ (log_at now n).room =
    omega (arith, c.room.ensures.room, c.room.ensures.fits, ap (λ (l : LogView). length l.entries) seen, ap (λ (l : LogView). l.room) seen) in
    let more : c.make_room.new.self ≡ more_room (log_at now n) n commands =
    c.in_default.ensures ∙ ap (λ (m : ℕ). with_room (log.room + m) log) c.count_on.ensures ∙ ap (λ (l : LogView). more_room l n commands) read in
    record {
      more = more_one commands n c.args.logs.now.items now c.make_room.new.self inside more before.more;
      spare = spare_one commands n now c.make_room.new.self inside fits more before.spare;
    }

pub returns-clause-more : goal.returns-clause-more
returns-clause-more g c =
    let old : List LogView = c.args.logs.now.items in
    let end : c.loop-number.number ≡ length old = omega (arith, c.len-number-end.ensures, c.loop-number-test.false, c.loop-number.auto.number-end) in
    subst (λ (m : ℕ). HaveMoreBelow m c.args.commands.now old c.loop-number.logs.items) end c.loop-number.invariant.more

pub returns-clause-spare : goal.returns-clause-spare
returns-clause-spare g c i below inside =
    c.loop-number.invariant.spare i
    (omega (arith, below, c.len-number-end.ensures, c.loop-number-test.false, c.loop-number.invariant.more.as_many)) inside
