use Rattle.std.proofs.Common.{◌≡◌, ◌≤◌, ℕ, true, length, sym, ap, ◌∙◌, subst}
use Rattle.lab_plan.specs.LabPlan.{LabPlan}
use Rattle.legal_steps.specs.declared.end.End.{End}
use Rattle.legal_steps.specs.State.{end_of}
use Rattle.interleaving.specs.World.{WorldView}
use Rattle.settling.specs.Left.{DueView, is_noted}
use Rattle.settling.specs.Attending.{AttendsEdge, with_note, woken_at}
use Rattle.settling.proofs.Worlds.{reached_fits}
use Rattle.settling.proofs.Attended.{edge_unfelt, edge_moved}
use Rattle.settling.proofs.Unfelt.{unfelt_of, felt_some}
use Rattle.settling.specs.Doing.{VisitsEdge}
use Rattle.settling.specs.Visiting.{Moves}
use Rattle.edge_word.specs.declared.moves.EdgeMoves.{EdgeMoves}
use Rattle.edge_word.specs.Moves.{events_of}
use Rattle.settling.proofs.Rested.{edge_noted}
use Rattle.settling.proofs.resting.attend_edge.Goals as goal

pub returns-then-is_noted-clause-attends : goal.returns-then-is_noted-clause-attends
returns-then-is_noted-clause-attends g c =
    let w : WorldView = c.args.world.now in
    let here = c.of-here.ensures.end ∙ ap (λ (p : LabPlan). end_of p c.args.job c.args.edge) c.plan.ensures.plan in
    edge_noted w c.args.due.now c.args.job c.args.edge c.requires.marked c.requires.due
    (subst (λ (x : End). is_noted c.args.due.now x c.args.edge ≡ true) here (sym c.is_noted.ensures ∙ c.if-is_noted.true))

-- the visit, as it is counted
abbrev visited : (w : WorldView) (j e n : ℕ) (m : EdgeMoves) (new : WorldView) → Moves w j e m new → n ≡ length (events_of m j e) → VisitsEdge w j e n new
visited w j e n m new v many = record { moves = m; due = v.due; many = many; leads = v.leads }

pub returns-then-are_unfelt-clause-attends : goal.returns-then-are_unfelt-clause-attends
returns-then-are_unfelt-clause-attends g c =
    let w : WorldView = c.args.world.now in
    let due : DueView = c.args.due.now in
    let j = c.args.job in
    let e = c.args.edge in
    let n = c.number_of.result in
    let m : EdgeMoves = c.moved_at-moves.result in
    let new : WorldView = c.moved_at-moves.new.world in
    let here = c.of-here.ensures.end ∙ ap (λ (p : LabPlan). end_of p j e) c.plan.ensures.plan in
    subst (λ (d : DueView). AttendsEdge w due j e n new d) (sym (c.note.ensures ∙ (λ i. with_note due (here i) e true)))
    (edge_unfelt w new due j e n (reached_fits w c.plan.ensures.reached) c.requires.own c.requires.marked c.requires.due
    (visited w j e n m new c.moved_at-moves.ensures (c.number_of.ensures.many j e)) (unfelt_of m (sym c.are_unfelt.ensures ∙ c.if-are_unfelt.true)))

pub returns-clause-attends : goal.returns-clause-attends
returns-clause-attends g c =
    let w : WorldView = c.args.world.now in
    let due : DueView = c.args.due.now in
    let j = c.args.job in
    let e = c.args.edge in
    let n = c.number_of-2.result in
    let m : EdgeMoves = c.moved_at-moves.result in
    let new : WorldView = c.moved_at-moves.new.world in
    let here = c.of-here.ensures.end ∙ ap (λ (p : LabPlan). end_of p j e) c.plan.ensures.plan in
    let same = c.plan-2.ensures.plan ∙ c.moved_at-moves.ensures.leads.same_plan in
    let many = c.number_of-2.ensures.many j e in
    subst (λ (d : DueView). AttendsEdge w due j e n new d)
    (sym (c.note-2.ensures ∙ (λ i. with_note ((c.wake_at.ensures ∙ (λ k. woken_at (same k) due e)) i) (here i) e true)))
    (edge_moved w new due j e n (reached_fits w c.plan.ensures.reached) c.requires.own c.requires.marked c.requires.due
    (visited w j e n m new c.moved_at-moves.ensures many)
    (subst (λ z. 1 ≤ z) (sym many) (felt_some m j e (sym c.are_unfelt.ensures ∙ c.if-are_unfelt.false))))
