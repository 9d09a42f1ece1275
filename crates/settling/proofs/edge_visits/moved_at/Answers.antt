use Rattle.std.proofs.Common.{List, [], ◌∷◌, sym, ap, ◌∙◌, subst}
use Rattle.lab_plan.specs.LabPlan.{LabPlan}
use Rattle.legal_steps.specs.declared.event.Event.{Event}
use Rattle.legal_steps.specs.declared.event.Event.TheVariants.{Look}
use Rattle.legal_steps.specs.State.{edge, end_of}
use Rattle.interleaving.specs.World.{WorldView, LeadsTo}
use Rattle.edge_word.specs.Moves.{events_of}
use Rattle.turns.proofs.Idle.{no_events}
use Rattle.dining_layer.specs.Turned.{turned}
use Rattle.settling.proofs.Worlds.{leads_both}
use Rattle.settling.proofs.Looked.{due_in, legal_in}
use Rattle.settling.proofs.edge_visits.moved_at.Goals as goal

pub look-requires-clause-mine : goal.look-requires-clause-mine
look-requires-clause-mine g c =
    let p = c.plan-plan.ensures.plan in
    let here = c.of.ensures.end ∙ ap (λ (q : LabPlan). end_of q c.args.job c.args.edge) p in
    c.seen_from-mine.ensures ∙ (λ i. turned (p i) c.args.edge (here i) c.edge-seen.result)

pub move_at-requires : goal.move_at-requires
move_at-requires g c =
    let w : WorldView = c.args.world.now in
    let j = c.args.job in
    let e = c.args.edge in
    let p = c.plan-plan.ensures.plan in
    let here = c.of.ensures.end ∙ ap (λ (q : LabPlan). end_of q j e) p in
    let mine = c.seen_from-mine.ensures ∙ (λ i. turned (p i) e (here i) (c.edge-seen.ensures i)) in
    let reached = c.plan-plan.ensures.reached in
    legal_in w c.look.new.world j e c.moves_by-moves.result reached c.requires c.look.ensures
    (due_in w j e c.plan-plan.result.now c.job-phase.result c.seen_from-mine.result c.moves_by-moves.result reached c.requires p c.moves_by-moves.ensures
    c.job-phase.ensures.phase mine)

pub returns-then-is_empty : goal.returns-then-is_empty
returns-then-is_empty g c =
    let w : WorldView = c.args.world.now in
    let j = c.args.job in
    let e = c.args.edge in
    let p = c.plan-plan.ensures.plan in
    let here = c.of.ensures.end ∙ ap (λ (q : LabPlan). end_of q j e) p in
    let mine = c.seen_from-mine.ensures ∙ (λ i. turned (p i) e (here i) (c.edge-seen.ensures i)) in
    let none = no_events c.moves_by-moves.result j e (sym c.is_empty.ensures ∙ c.if-is_empty.true) in
    record {
      due = due_in w j e c.plan-plan.result.now c.job-phase.result c.seen_from-mine.result c.moves_by-moves.result c.plan-plan.ensures.reached c.requires p
          c.moves_by-moves.ensures c.job-phase.ensures.phase mine;
      leads = subst (λ (l : List Event). LeadsTo w (Look j e (edge w.state e) ∷ l) c.look.new.world) (sym none) c.look.ensures;
    }

pub returns : goal.returns
returns g c =
    let w : WorldView = c.args.world.now in
    let j = c.args.job in
    let e = c.args.edge in
    let p = c.plan-plan.ensures.plan in
    let here = c.of.ensures.end ∙ ap (λ (q : LabPlan). end_of q j e) p in
    let mine = c.seen_from-mine.ensures ∙ (λ i. turned (p i) e (here i) (c.edge-seen.ensures i)) in
    record {
      due = due_in w j e c.plan-plan.result.now c.job-phase.result c.seen_from-mine.result c.moves_by-moves.result c.plan-plan.ensures.reached c.requires p
          c.moves_by-moves.ensures c.job-phase.ensures.phase mine;
      leads = leads_both w c.look.new.world c.move_at.new.world (Look j e (edge w.state e) ∷ []) (events_of c.moves_by-moves.result j e) c.look.ensures
          c.move_at.ensures;
    }
