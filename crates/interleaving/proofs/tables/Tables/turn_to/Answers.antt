use Rattle.std.proofs.Common.{◌≡◌, ◌<◌, ◌∙◌, length, map, arith, ap}
use Rattle.std.proofs.lemmas.List.{get_or_read}
use Rattle.lab_plan.specs.LabPlan.{LabPlan}
use Rattle.instrument_log.specs.InstrumentLog.{LogView}
use Rattle.legal_steps.specs.State.{State, Seat, seat}
use Rattle.legal_steps.specs.Legal.{turned_to}
use Rattle.legal_steps.proofs.FitsWrites.{fits_with_seat, seat_fits_turned}
use Rattle.interleaving.proofs.tables.Tables.turn_to.Goals as goal

pub invariant_of-self : goal.invariant_of-self
invariant_of-self g c =
    let s : State = record {
      edges = c.self.inside.edges.items;
      seats = c.self.inside.seats.items;
      logs = map (λ (l : LogView). l.entries) c.self.inside.logs.items;
    } in
    let plan : LabPlan = c.self.inside.plan in
    let j = c.job.inside.0 in
    let here : j < length plan.jobs = grind arith in
    let inside : j < length c.self.inside.seats.items = omega (arith, here, c.self.invariant.fits.seats_there) in
    let new : c.turn_to.new.self ≡ turned_to (seat s j) c.args.dining =
    c.turn_to.ensures ∙ ap (λ (x : Seat). turned_to x c.args.dining) (get_or_read c.self.inside.seats.items j _ inside c.index_mut-seat.ensures.value _) in
    record {
      is_plan = c.self.invariant.is_plan;
      fits =
          rw new (fits_with_seat plan s j _ here
          (seat_fits_turned plan j (seat s j) c.args.dining (c.self.invariant.fits.seats_fit j here)) c.self.invariant.fits);
      rooms = c.self.invariant.rooms;
    }
