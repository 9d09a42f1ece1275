use Rattle.std.proofs.Common.{[], ◌∷◌, ◌++◌, map, sym, ap, ◌∙◌, arith}
use Rattle.std.proofs.lemmas.List.{get_or_read}
use Rattle.std.specs.List.{range_with_len}
use Rattle.instrument_log.specs.InstrumentLog.{LogView, empty_log}
use Rattle.legal_steps.specs.WholeLogs.{room_of}
use Rattle.plan_logs.proofs.RoomLemmas.{logs_more}
use Rattle.plan_logs.proofs.rooms.empty_logs.Goals as goal

pub loop-number-preserved : goal.loop-number-preserved
loop-number-preserved g c =
    let plan = c.args.plan.now in
    let e = c.instruments-number-end.ensures.instruments in
    let t = c.loop-number-test.true in
    let w = c.in_ok-rooms.ensures.wide in
    let room_is = get_or_read c.in_ok-rooms.rooms.items _ _ (omega (arith, e, t, w)) c.index.ensures 0 ∙ c.in_ok-rooms.ensures.each c.loop-number.number (omega (arith, e, t)) in
    let before = map (λ i. empty_log (room_of plan i)) (range_with_len 0 c.loop-number.number) in
    c.in_ok-push.ensures.items
    ∙ (ap (λ xs. xs ++ c.in_ok-with_room.field-0 ∷ []) c.loop-number.invariant
    ∙ (ap (λ (l : LogView). before ++ l ∷ []) (c.in_ok-with_room.ensures ∙ ap empty_log room_is) ∙ sym (logs_more plan c.loop-number.number)))
