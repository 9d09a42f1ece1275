use Rattle.std.proofs.Common.{◌≡◌, ◌<◌, ◌∙◌, length, map, arith, sym, ap, subst}
use Rattle.std.proofs.lemmas.List.{get_or_read}
use Rattle.lab_plan.specs.LabPlan.{LabPlan}
use Rattle.instrument_log.specs.InstrumentLog.{LogView}
use Rattle.legal_steps.specs.State.{State, Seat, Setting, seat, phase}
use Rattle.legal_steps.specs.Fitting.{IsPhaseOf}
use Rattle.legal_steps.proofs.FewCommands.{few_commands}
use Rattle.interleaving.proofs.TableWrites.{of_inside}
use Rattle.interleaving.proofs.tables.Tables.phase.Goals as goal

pub index-requires : goal.index-requires
index-requires g c =
    let s : State = record {
      edges = c.self.inside.edges.items;
      seats = c.self.inside.seats.items;
      logs = map (λ (l : LogView). l.entries) c.self.inside.logs.items;
    } in
    let plan : LabPlan = c.self.inside.plan in
    let j = c.job.inside.0 in
    let here : j < length plan.jobs = of_inside (λ p k. k < length p.jobs) c.args.self.now plan s j c.args.job c.self.view_is c.job.view_is c.requires in
    omega (arith, here, c.self.invariant.fits.seats_there)

pub returns-clause-phase : goal.returns-clause-phase
returns-clause-phase g c =
    let s : State = record {
      edges = c.self.inside.edges.items;
      seats = c.self.inside.seats.items;
      logs = map (λ (l : LogView). l.entries) c.self.inside.logs.items;
    } in
    let plan : LabPlan = c.self.inside.plan in
    let j = c.job.inside.0 in
    let here : j < length plan.jobs = of_inside (λ p k. k < length p.jobs) c.args.self.now plan s j c.args.job c.self.view_is c.job.view_is c.requires in
    let inside : j < length c.self.inside.seats.items = omega (arith, here, c.self.invariant.fits.seats_there) in
    let read : c.index.result.now ≡ seat s j = get_or_read c.self.inside.seats.items j _ inside c.index.ensures _ in
    c.phase.ensures ∙ (ap (λ (x : Seat). x.phase) read
    ∙ (ap (λ (x : Setting). phase x.state j) c.self.view_is ∙ ap (phase c.args.self.now.state) c.job.view_is))

pub returns-clause-fits : goal.returns-clause-fits
returns-clause-fits g c =
    let s : State = record {
      edges = c.self.inside.edges.items;
      seats = c.self.inside.seats.items;
      logs = map (λ (l : LogView). l.entries) c.self.inside.logs.items;
    } in
    let plan : LabPlan = c.self.inside.plan in
    let j = c.job.inside.0 in
    let here : j < length plan.jobs = of_inside (λ p k. k < length p.jobs) c.args.self.now plan s j c.args.job c.self.view_is c.job.view_is c.requires in
    let inside : j < length c.self.inside.seats.items = omega (arith, here, c.self.invariant.fits.seats_there) in
    let read : c.index.result.now ≡ seat s j = get_or_read c.self.inside.seats.items j _ inside c.index.ensures _ in
    let same : c.phase.result ≡ (seat s j).phase = c.phase.ensures ∙ ap (λ (x : Seat). x.phase) read in
    let fit : IsPhaseOf plan j c.phase.result = subst (IsPhaseOf plan j) (sym same) (c.self.invariant.fits.seats_fit j here).phase_within in
    subst (λ (x : Setting). IsPhaseOf x.plan c.args.job c.phase.result) c.self.view_is (subst (λ n. IsPhaseOf plan n c.phase.result) c.job.view_is fit)

pub returns-clause-few : goal.returns-clause-few
returns-clause-few g c =
    let s : State = record {
      edges = c.self.inside.edges.items;
      seats = c.self.inside.seats.items;
      logs = map (λ (l : LogView). l.entries) c.self.inside.logs.items;
    } in
    let plan : LabPlan = c.self.inside.plan in
    let j = c.job.inside.0 in
    let here : j < length plan.jobs = of_inside (λ p k. k < length p.jobs) c.args.self.now plan s j c.args.job c.self.view_is c.job.view_is c.requires in
    let inside : j < length c.self.inside.seats.items = omega (arith, here, c.self.invariant.fits.seats_there) in
    let read : c.index.result.now ≡ seat s j = get_or_read c.self.inside.seats.items j _ inside c.index.ensures _ in
    let same : c.phase.result ≡ (seat s j).phase = c.phase.ensures ∙ ap (λ (x : Seat). x.phase) read in
    let fit : IsPhaseOf plan j c.phase.result = subst (IsPhaseOf plan j) (sym same) (c.self.invariant.fits.seats_fit j here).phase_within in
    let few = few_commands plan j c.phase.result.session c.self.invariant.is_plan in
    omega (arith, few, fit.position_there)
