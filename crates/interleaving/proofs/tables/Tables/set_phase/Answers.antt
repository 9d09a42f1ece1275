use Rattle.std.proofs.Common.{◌≡◌, ◌<◌, ◌∙◌, length, map, arith, ap, sym, subst}
use Rattle.std.proofs.lemmas.List.{get_or_read}
use Rattle.lab_plan.specs.LabPlan.{LabPlan}
use Rattle.instrument_log.specs.InstrumentLog.{LogView}
use Rattle.legal_steps.specs.State.{State, Seat, Setting, seat}
use Rattle.legal_steps.specs.Fitting.{IsPhaseOf}
use Rattle.legal_steps.proofs.FitsWrites.{fits_with_seat}
use Rattle.interleaving.proofs.FitLemmas.{seat_with_phase}
use Rattle.interleaving.proofs.tables.Tables.set_phase.Goals as goal

pub invariant_of-self : goal.invariant_of-self
invariant_of-self g c =
    let s : State = record {
      edges = c.self.inside.edges.items;
      seats = c.self.inside.seats.items;
      logs = map (λ (l : LogView). l.entries) c.self.inside.logs.items;
    } in
    let plan : LabPlan = c.self.inside.plan in
    let j = c.job.inside.0 in
    let same : plan ≡ c.args.self.now.plan = ap (λ (x : Setting). x.plan) c.self.view_is in
    let here : j < length plan.jobs = grind arith in
    let inside : j < length c.self.inside.seats.items = omega (arith, here, c.self.invariant.fits.seats_there) in
    let fit : IsPhaseOf plan j c.args.phase =
    subst (λ p. IsPhaseOf p j c.args.phase) (sym same) (subst (λ n. IsPhaseOf c.args.self.now.plan n c.args.phase) (sym c.job.view_is) c.requires.fits) in
    let new : c.set_phase.new.self ≡ record (seat s j) { phase = c.args.phase } =
    c.set_phase.ensures ∙ ap (λ (x : Seat). record x { phase = c.args.phase })
    (get_or_read c.self.inside.seats.items j _ inside c.index_mut-seat.ensures.value _) in
    record {
      is_plan = c.self.invariant.is_plan;
      fits =
          rw new (fits_with_seat plan s j _ here
          (seat_with_phase plan j (seat s j) c.args.phase (c.self.invariant.fits.seats_fit j here) fit) c.self.invariant.fits);
      rooms = c.self.invariant.rooms;
    }
