use Rattle.std.proofs.Common.{◌<◌, true, length, sym, ap, ◌∙◌, subst}
use Rattle.lab_plan.specs.LabPlan.{LabPlan, edges}
use Rattle.legal_steps.specs.State.{State, seat}
use Rattle.legal_steps.specs.Legal.{IsJob, with_edge, with_seat, with_fork_mark, fork_soiled}
use Rattle.interleaving.proofs.tables.Tables.soil.Goals as goal

pub set_edge-requires-clause-is_edge : goal.set_edge-requires-clause-is_edge
set_edge-requires-clause-is_edge g c = c.requires.0.is_edge

pub set_fork_mark-requires-clause-is_job : goal.set_fork_mark-requires-clause-is_job
set_fork_mark-requires-clause-is_job g c = subst (λ (p : LabPlan). IsJob p c.args.job) (sym c.set_edge.ensures.plan) c.own_end.ensures.is_job

pub set_fork_mark-requires-clause-is_edge : goal.set_fork_mark-requires-clause-is_edge
set_fork_mark-requires-clause-is_edge g c = subst (λ (p : LabPlan). c.args.edge < length (edges p)) (sym c.set_edge.ensures.plan) c.requires.0.is_edge

pub returns-clause-state : goal.returns-clause-state
returns-clause-state g c =
    let s : State = c.args.self.now.state in
    c.set_fork_mark.ensures.state
    ∙ ap (λ (x : State). with_seat x c.args.job (with_fork_mark (seat x c.args.job) c.args.edge true))
    (c.set_edge.ensures.state ∙ ap (with_edge s c.args.edge) (c.fork_soiled.ensures ∙ ap fork_soiled c.edge.ensures.edge))

pub returns-clause-plan : goal.returns-clause-plan
returns-clause-plan g c = c.set_fork_mark.ensures.plan ∙ c.set_edge.ensures.plan
