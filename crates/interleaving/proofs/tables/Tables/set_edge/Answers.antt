use Rattle.std.proofs.Common.{◌<◌, length, map, arith, ap}
use Rattle.lab_plan.specs.LabPlan.{LabPlan, edges}
use Rattle.instrument_log.specs.InstrumentLog.{LogView}
use Rattle.legal_steps.specs.State.{State, Setting, IsOfEdge}
use Rattle.legal_steps.proofs.FitsWrites.{fits_with_edge}
use Rattle.interleaving.proofs.TableWrites.{of_inside, edge_written}
use Rattle.interleaving.proofs.tables.Tables.set_edge.Goals as goal

pub index_mut-requires : goal.index_mut-requires
index_mut-requires g c =
    let s : State = record {
      edges = c.self.inside.edges.items;
      seats = c.self.inside.seats.items;
      logs = map (λ (l : LogView). l.entries) c.self.inside.logs.items;
    } in
    let plan : LabPlan = c.self.inside.plan in
    let here : c.edge.inside.0 < length (edges plan) =
    of_inside (λ p k. k < length (edges p)) c.args.self.now plan s c.edge.inside.0 c.args.edge c.self.view_is c.edge.view_is c.requires.is_edge in
    let there = c.self.invariant.fits.edges_there in
    omega (arith, here, there)

pub invariant_of-self : goal.invariant_of-self
invariant_of-self g c =
    let s : State = record {
      edges = c.self.inside.edges.items;
      seats = c.self.inside.seats.items;
      logs = map (λ (l : LogView). l.entries) c.self.inside.logs.items;
    } in
    let plan : LabPlan = c.self.inside.plan in
    let e = c.edge.inside.0 in
    record {
      is_plan = c.self.invariant.is_plan;
      fits =
          fits_with_edge plan s e c.args.state
          (of_inside (λ p k. k < length (edges p)) c.args.self.now plan s e c.args.edge c.self.view_is c.edge.view_is c.requires.is_edge)
          (of_inside (λ p k. IsOfEdge p k c.args.state.bottles) c.args.self.now plan s e c.args.edge c.self.view_is c.edge.view_is c.requires.bottles)
          (of_inside (λ p k. IsOfEdge p k c.args.state.bottle_tokens) c.args.self.now plan s e c.args.edge c.self.view_is c.edge.view_is c.requires.tokens)
          c.self.invariant.fits;
      rooms = c.self.invariant.rooms;
    }

pub returns-clause-state : goal.returns-clause-state
returns-clause-state g c =
    let s : State = record {
      edges = c.self.inside.edges.items;
      seats = c.self.inside.seats.items;
      logs = map (λ (l : LogView). l.entries) c.self.inside.logs.items;
    } in
    edge_written c.args.self.now c.self.inside.plan s c.edge.inside.0 c.args.edge c.args.state c.self.view_is c.edge.view_is

pub returns-clause-plan : goal.returns-clause-plan
returns-clause-plan g c = ap (λ (x : Setting). x.plan) c.self.view_is
