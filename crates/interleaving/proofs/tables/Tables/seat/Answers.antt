use Rattle.std.proofs.Common.{◌≡◌, ◌<◌, ◌∙◌, length, map, arith, ap}
use Rattle.std.proofs.lemmas.List.{get_or_read}
use Rattle.lab_plan.specs.LabPlan.{LabPlan}
use Rattle.instrument_log.specs.InstrumentLog.{LogView}
use Rattle.legal_steps.specs.State.{State, Setting, seat}
use Rattle.interleaving.proofs.TableWrites.{of_inside}
use Rattle.interleaving.proofs.tables.Tables.seat.Goals as goal

pub index-requires : goal.index-requires
index-requires g c =
    let s : State = record {
      edges = c.self.inside.edges.items;
      seats = c.self.inside.seats.items;
      logs = map (λ (l : LogView). l.entries) c.self.inside.logs.items;
    } in
    let plan : LabPlan = c.self.inside.plan in
    let j = c.job.inside.0 in
    let here : j < length plan.jobs = of_inside (λ p k. k < length p.jobs) c.args.self.now plan s j c.args.job c.self.view_is c.job.view_is c.requires in
    omega (arith, here, c.self.invariant.fits.seats_there)

pub returns : goal.returns
returns g c =
    let s : State = record {
      edges = c.self.inside.edges.items;
      seats = c.self.inside.seats.items;
      logs = map (λ (l : LogView). l.entries) c.self.inside.logs.items;
    } in
    let plan : LabPlan = c.self.inside.plan in
    let j = c.job.inside.0 in
    let here : j < length plan.jobs = of_inside (λ p k. k < length p.jobs) c.args.self.now plan s j c.args.job c.self.view_is c.job.view_is c.requires in
    let inside : j < length c.self.inside.seats.items = omega (arith, here, c.self.invariant.fits.seats_there) in
    let read : c.index.result.now ≡ seat s j = get_or_read c.self.inside.seats.items j _ inside c.index.ensures _ in
    read ∙ (ap (λ (x : Setting). seat x.state j) c.self.view_is ∙ ap (seat c.args.self.now.state) c.job.view_is)
