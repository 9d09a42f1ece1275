use Rattle.std.proofs.Common.{◌≡◌, ◌<◌, List, length, sym, ap, ◌∙◌, subst}
use Rattle.lab_plan.specs.LabPlan.{LabPlan, SessionPlan}
use Rattle.lab_plan.specs.Longer.{session_of}
use Rattle.instrument_log.specs.declared.entry.Entry.{Entry}
use Rattle.instrument_log.specs.InstrumentLog.{LogView}
use Rattle.legal_steps.specs.State.{State, Setting}
use Rattle.legal_steps.specs.Fitting.{Fits}
use Rattle.lab_plan.specs.IsPlan.{IsPlan}
use Rattle.interleaving.specs.Rooms.{HasRooms}
use Rattle.interleaving.proofs.LogLemmas.{shown}
use Rattle.interleaving.proofs.MoreRooms.{undone}
use Rattle.interleaving.proofs.LongerWorlds.{plan_same, same_entries, tables_longer, rooms_longer}
use Rattle.interleaving.proofs.tables.Tables.add_session.Goals as goal

pub invariant_of-self-in-Err : goal.invariant_of-self-in-Err
invariant_of-self-in-Err g c =
    let x = c.self.inside in
    let plan : c.add_session.new.self ≡ x.plan = plan_same x.plan c.args.job (session_of c.args.patience c.args.commands.now) c.in-Err.refusal c.add_session.new.self c.in-Err.ensures.adds in
    let logs : c.give_back.new.logs.items ≡ x.logs.items =
    undone c.args.commands.now x.logs.items c.make_rooms.new.logs.items c.give_back.new.logs.items c.in_ok-make_rooms.ensures.more c.give_back.ensures in
    record {
      is_plan = subst IsPlan (sym plan) c.self.invariant.is_plan;
      fits = subst (λ (z : LabPlan × List LogView). Fits z.0 (shown x.edges.items x.seats.items z.1)) (λ i. (sym plan i, sym logs i)) c.self.invariant.fits;
      rooms = subst (λ (z : LabPlan × List LogView). HasRooms z.0 z.1) (λ i. (sym plan i, sym logs i)) c.self.invariant.rooms;
    }

pub returns-in-Err-clause-state : goal.returns-in-Err-clause-state
returns-in-Err-clause-state g c =
    let x = c.self.inside in
    let logs : c.give_back.new.logs.items ≡ x.logs.items =
    undone c.args.commands.now x.logs.items c.make_rooms.new.logs.items c.give_back.new.logs.items c.in_ok-make_rooms.ensures.more c.give_back.ensures in
    ap (shown x.edges.items x.seats.items) logs ∙ ap (λ (s : Setting). s.state) c.self.view_is

pub invariant_of-self-in_default-add_session : goal.invariant_of-self-in_default-add_session
invariant_of-self-in_default-add_session g c =
    let x = c.self.inside in
    let session : SessionPlan = session_of c.args.patience c.args.commands.now in
    let j = c.args.job in
    let there : j < length x.plan.jobs = subst (λ (s : Setting). j < length s.plan.jobs) (sym c.self.view_is) c.requires in
    let q = c.add_session.new.self in
    let more = c.in_ok-make_rooms.ensures.more in
    let adds = c.in_default-add_session.ensures in
    record {
      is_plan = adds.is_plan;
      fits = tables_longer x.plan q j session there adds.own adds.adds.1 x.edges.items x.seats.items x.logs.items c.make_rooms.new.logs.items more c.self.invariant.fits;
      rooms = rooms_longer x.plan q j session there adds.own adds.adds.1 x.logs.items c.make_rooms.new.logs.items more c.self.invariant.rooms;
    }

pub returns-clause-state : goal.returns-clause-state
returns-clause-state g c =
    let x = c.self.inside in
    ap (λ (all : List (List Entry)). let s : State = record { edges = x.edges.items; seats = x.seats.items; logs = all } in s)
    (same_entries c.args.commands.now x.logs.items c.make_rooms.new.logs.items c.in_ok-make_rooms.ensures.more)
    ∙ ap (λ (s : Setting). s.state) c.self.view_is
