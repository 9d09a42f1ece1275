use Rattle.std.proofs.Common.{◌≡◌, ◌<◌, ◌∙◌, length, map, arith, ap}
use Rattle.std.proofs.lemmas.List.{get_or_read}
use Rattle.lab_plan.specs.LabPlan.{LabPlan, edges}
use Rattle.instrument_log.specs.InstrumentLog.{LogView}
use Rattle.legal_steps.specs.State.{State, Seat, Setting, seat}
use Rattle.legal_steps.specs.Legal.{with_fork_mark}
use Rattle.legal_steps.proofs.FitsWrites.{fits_with_seat, seat_fits_fork_mark}
use Rattle.interleaving.proofs.TableWrites.{of_inside, seat_written}
use Rattle.interleaving.proofs.tables.Tables.set_fork_mark.Goals as goal

pub index_mut-seat-requires : goal.index_mut-seat-requires
index_mut-seat-requires g c =
    let s : State = record {
      edges = c.self.inside.edges.items;
      seats = c.self.inside.seats.items;
      logs = map (λ (l : LogView). l.entries) c.self.inside.logs.items;
    } in
    let plan : LabPlan = c.self.inside.plan in
    let j = c.job.inside.0 in
    let here : j < length plan.jobs = of_inside (λ p k. k < length p.jobs) c.args.self.now plan s j c.args.job c.self.view_is c.job.view_is c.requires.is_job in
    omega (arith, here, c.self.invariant.fits.seats_there)

pub set_fork_mark-requires : goal.set_fork_mark-requires
set_fork_mark-requires g c =
    let s : State = record {
      edges = c.self.inside.edges.items;
      seats = c.self.inside.seats.items;
      logs = map (λ (l : LogView). l.entries) c.self.inside.logs.items;
    } in
    let plan : LabPlan = c.self.inside.plan in
    let j = c.job.inside.0 in
    let e = c.edge.inside.0 in
    let here : j < length plan.jobs = of_inside (λ p k. k < length p.jobs) c.args.self.now plan s j c.args.job c.self.view_is c.job.view_is c.requires.is_job in
    let is_edge : e < length (edges plan) =
    of_inside (λ p k. k < length (edges p)) c.args.self.now plan s e c.args.edge c.self.view_is c.edge.view_is c.requires.is_edge in
    let inside : j < length c.self.inside.seats.items = omega (arith, here, c.self.invariant.fits.seats_there) in
    let read : c.index_mut-seat.result.now ≡ seat s j = get_or_read c.self.inside.seats.items j _ inside c.index_mut-seat.ensures.value _ in
    let there = (c.self.invariant.fits.seats_fit j here).fork_marks_there in
    let same = ap (λ (x : Seat). length x.fork_marks) read in
    omega (arith, is_edge, there, same)

pub invariant_of-self : goal.invariant_of-self
invariant_of-self g c =
    let s : State = record {
      edges = c.self.inside.edges.items;
      seats = c.self.inside.seats.items;
      logs = map (λ (l : LogView). l.entries) c.self.inside.logs.items;
    } in
    let plan : LabPlan = c.self.inside.plan in
    let j = c.job.inside.0 in
    let e = c.edge.inside.0 in
    let here : j < length plan.jobs = of_inside (λ p k. k < length p.jobs) c.args.self.now plan s j c.args.job c.self.view_is c.job.view_is c.requires.is_job in
    let inside : j < length c.self.inside.seats.items = omega (arith, here, c.self.invariant.fits.seats_there) in
    let read : c.index_mut-seat.result.now ≡ seat s j = get_or_read c.self.inside.seats.items j _ inside c.index_mut-seat.ensures.value _ in
    let new : c.set_fork_mark.new.self ≡ with_fork_mark (seat s j) e c.args.mark = c.set_fork_mark.ensures ∙ ap (λ (x : Seat). with_fork_mark x e c.args.mark) read in
    record {
      is_plan = c.self.invariant.is_plan;
      fits = rw new (fits_with_seat plan s j _ here (seat_fits_fork_mark plan j e (seat s j) c.args.mark (c.self.invariant.fits.seats_fit j here)) c.self.invariant.fits);
      rooms = c.self.invariant.rooms;
    }

pub returns-clause-state : goal.returns-clause-state
returns-clause-state g c =
    let s : State = record {
      edges = c.self.inside.edges.items;
      seats = c.self.inside.seats.items;
      logs = map (λ (l : LogView). l.entries) c.self.inside.logs.items;
    } in
    let plan : LabPlan = c.self.inside.plan in
    let j = c.job.inside.0 in
    let e = c.edge.inside.0 in
    let here : j < length plan.jobs = of_inside (λ p k. k < length p.jobs) c.args.self.now plan s j c.args.job c.self.view_is c.job.view_is c.requires.is_job in
    let inside : j < length c.self.inside.seats.items = omega (arith, here, c.self.invariant.fits.seats_there) in
    let read : c.index_mut-seat.result.now ≡ seat s j = get_or_read c.self.inside.seats.items j _ inside c.index_mut-seat.ensures.value _ in
    let new : c.set_fork_mark.new.self ≡ with_fork_mark (seat s j) e c.args.mark = c.set_fork_mark.ensures ∙ ap (λ (x : Seat). with_fork_mark x e c.args.mark) read in
    seat_written (λ n x. with_fork_mark x n c.args.mark) c.args.self.now plan s j c.args.job e c.args.edge c.set_fork_mark.new.self c.self.view_is c.job.view_is c.edge.view_is new

pub returns-clause-plan : goal.returns-clause-plan
returns-clause-plan g c = ap (λ (x : Setting). x.plan) c.self.view_is
