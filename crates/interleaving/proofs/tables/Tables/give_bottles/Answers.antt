use Rattle.std.proofs.Common.{ℕ, ◌<◌, bit_and, bit_xor, length, sym, ap, ◌∙◌, subst}
use Rattle.std.proofs.lemmas.Nat.{xor_lt}
use Rattle.lab_plan.specs.LabPlan.{LabPlan, edges, bottles}
use Rattle.legal_steps.specs.declared.edge_state.EdgeState.{EdgeState}
use Rattle.legal_steps.specs.State.{State, IsOwn, IsOfEdge, seat, edge, without}
use Rattle.legal_steps.specs.Legal.{with_edge, with_seat, with_bottle_marks, bottles_given}
use Rattle.legal_steps.proofs.BottleSets.{without_fits}
use Rattle.legal_steps.proofs.FitsLaw.{own_is_job}
use Rattle.interleaving.proofs.tables.Tables.give_bottles.Goals as goal

pub set_bottle_marks-requires-clause-is_job : goal.set_bottle_marks-requires-clause-is_job
set_bottle_marks-requires-clause-is_job g c = own_is_job _ _ _ (subst (λ plan. IsOwn plan c.args.job c.args.edge) (sym c.set_edge.ensures.plan) c.requires.0)

pub bottle_marks-marks-requires-clause-is_job : goal.bottle_marks-marks-requires-clause-is_job
bottle_marks-marks-requires-clause-is_job g c = own_is_job _ _ _ c.requires.0

pub bottle_marks-marks-requires-clause-is_edge : goal.bottle_marks-marks-requires-clause-is_edge
bottle_marks-marks-requires-clause-is_edge g c = c.requires.0.is_edge

pub set_edge-requires-clause-is_edge : goal.set_edge-requires-clause-is_edge
set_edge-requires-clause-is_edge g c = c.requires.0.is_edge

pub set_edge-requires-clause-bottles : goal.set_edge-requires-clause-bottles
set_edge-requires-clause-bottles g c =
    let plan = c.args.self.now.plan in
    subst (λ (x : EdgeState). IsOfEdge plan c.args.edge x.bottles) (sym c.bottles_given.ensures)
    (xor_lt (length (bottles plan c.args.edge)) c.edge.result.bottles c.args.set c.edge.ensures.bottles c.requires.1.of_edge)

pub set_edge-requires-clause-tokens : goal.set_edge-requires-clause-tokens
set_edge-requires-clause-tokens g c =
    subst (λ (x : EdgeState). IsOfEdge c.args.self.now.plan c.args.edge x.bottle_tokens) (sym c.bottles_given.ensures) c.edge.ensures.tokens

pub set_bottle_marks-requires-clause-is_edge : goal.set_bottle_marks-requires-clause-is_edge
set_bottle_marks-requires-clause-is_edge g c = subst (λ (p : LabPlan). c.args.edge < length (edges p)) (sym c.set_edge.ensures.plan) c.requires.0.is_edge

pub set_bottle_marks-requires-clause-of_edge : goal.set_bottle_marks-requires-clause-of_edge
set_bottle_marks-requires-clause-of_edge g c =
    let marks = c.bottle_marks-marks.result in
    subst (λ (p : LabPlan). IsOfEdge p c.args.edge (without marks c.args.set)) (sym c.set_edge.ensures.plan)
    (without_fits (length (bottles c.args.self.now.plan c.args.edge)) marks c.args.set c.bottle_marks-marks.ensures.of_edge)

pub returns-clause-state : goal.returns-clause-state
returns-clause-state g c =
    let s : State = c.args.self.now.state in
    let e = c.args.edge in
    let left : State → ℕ → State =
    λ x marks. with_seat x c.args.job (with_bottle_marks (seat x c.args.job) e (bit_xor marks (bit_and marks c.args.set))) in
    c.set_bottle_marks.ensures.state
    ∙ (ap (λ x. left x c.bottle_marks-marks.result) (c.set_edge.ensures.state
    ∙ ap (with_edge s e) (c.bottles_given.ensures ∙ ap (bottles_given c.args.set) c.edge.ensures.edge))
    ∙ ap (left (with_edge s e (bottles_given c.args.set (edge s e)))) c.bottle_marks-marks.ensures.marks)

pub returns-clause-plan : goal.returns-clause-plan
returns-clause-plan g c = c.set_bottle_marks.ensures.plan ∙ c.set_edge.ensures.plan
