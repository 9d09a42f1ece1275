use Rattle.std.proofs.Common.{false, length, replicate, sym, ap, ◌∙◌, subst}
use Rattle.lab_plan.specs.LabPlan.{LabPlan}
use Rattle.lab_plan.specs.IsPlan.{IsPlan}
use Rattle.legal_steps.specs.State.{State, Seat, Setting, idle_phase}
use Rattle.legal_steps.specs.Fitting.{Fits}
use Rattle.legal_steps.specs.Opening.{opening_of}
use Rattle.interleaving.specs.Rooms.{HasRooms}
use Rattle.interleaving.proofs.OpeningTables.{opening_shown, opening_fits}
use Rattle.interleaving.proofs.LogLemmas.{have_rooms}
use Rattle.interleaving.proofs.tables.Tables.opened.Goals as goal

pub invariant_of-result : goal.invariant_of-result
invariant_of-result g c =
    let plan = c.args.plan in
    let seen = c.get-seen.result.now in
    let of_edges : Seat = record { phase = idle_phase; fork_marks = replicate c.edges.result false; bottle_marks = replicate c.edges.result 0 } in
    let seats = c.in_ok-seats.ensures ∙ (ap (λ n. replicate n of_edges) c.jobs.ensures.jobs
    ∙ ap (λ n. replicate (length seen.jobs) (record { phase = idle_phase; fork_marks = replicate n false; bottle_marks = replicate n 0 }))
    c.edges.ensures.edges) in
    let is = opening_shown seen c.args.choices.now c.in_ok-edges.edges.items c.in_ok-seats.seats.items
    c.in_ok-logs.logs.items c.in_ok-edges.ensures seats c.in_ok-logs.ensures
    ∙ ap (λ (p : LabPlan). opening_of p c.args.choices.now) c.get-seen.ensures in
    record {
      is_plan = subst IsPlan c.get-seen.ensures c.jobs.ensures.plan;
      fits = subst (Fits plan) (sym is) (opening_fits plan c.args.choices.now c.requires);
      rooms = subst (λ (p : LabPlan). HasRooms p c.in_ok-logs.logs.items) c.get-seen.ensures
          (subst (HasRooms seen) (sym c.in_ok-logs.ensures) (have_rooms seen (length seen.instruments)));
    }

pub returns : goal.returns
returns g c =
    let plan = c.args.plan in
    let seen = c.get-seen.result.now in
    let of_edges : Seat = record { phase = idle_phase; fork_marks = replicate c.edges.result false; bottle_marks = replicate c.edges.result 0 } in
    let seats = c.in_ok-seats.ensures ∙ (ap (λ n. replicate n of_edges) c.jobs.ensures.jobs
    ∙ ap (λ n. replicate (length seen.jobs) (record { phase = idle_phase; fork_marks = replicate n false; bottle_marks = replicate n 0 }))
    c.edges.ensures.edges) in
    let is = opening_shown seen c.args.choices.now c.in_ok-edges.edges.items c.in_ok-seats.seats.items
    c.in_ok-logs.logs.items c.in_ok-edges.ensures seats c.in_ok-logs.ensures
    ∙ ap (λ (p : LabPlan). opening_of p c.args.choices.now) c.get-seen.ensures in
    let make : State → Setting = λ s. record { plan = plan; state = s } in
    ap make is
