use Rattle.std.proofs.Common.{◌≢◌, ℕ, ◌<◌, ◌∷◌, [], length, refl, ◌∙◌, subst}
use Rattle.legal_steps.specs.declared.event.Event.TheVariants.{Glance}
use Rattle.one_history.specs.Grow.{hand_in, Does}
use Rattle.edge_rule.specs.DeskView.{DeskView}
use Rattle.edge_rule.proofs.DeskSteps.{owned, of_seat, seat_adds}
use Rattle.edge_rule.proofs.GlancedDesks.{glance_requires, glance_number, glance_told, glance_kept}
use Rattle.edge_rule.proofs.glances.glance.Goals as goal

pub load-requires : goal.load-requires
load-requires g0 c = let d = c.desk.inside in let b = c.bench.inside in
    let other = of_seat (λ (z : DeskView). (c.args.other < length z.plan.jobs) × (c.args.other ≢ z.job)) d _ c.desk.view_is c.requires.other in
    glance_requires b d c.bench.invariant c.desk.invariant
    (owned b d _ _ c.bench.view_is c.desk.view_is c.requires.own) _ c.args.other c.phase_place-word.ensures other.0 other.1

pub invariant_of-desk : goal.invariant_of-desk
invariant_of-desk g0 c = let d = c.desk.inside in let b = c.bench.inside in let t = c.load.ensures.2 in
    glance_kept d c.desk.invariant _ _ t.0 t.3 (t.4 ∙ c.desk.invariant.empty) refl refl refl refl refl refl

pub returns : goal.returns
returns g0 c = let d = c.desk.inside in let b = c.bench.inside in let t = c.load.ensures.2 in
    let owns = owned b d _ _ c.bench.view_is c.desk.view_is c.requires.own in
    let number = glance_number b d c.bench.invariant c.desk.invariant owns c.phase_place-word.result c.args.other c.phase_place-word.ensures in
    seat_adds d.seat c.load.new.seat _ (λ (y : DeskView). Glance y.job c.args.other c.unpacked_phase.result ∷ []) c.desk.view_is
    (glance_told d.seat.me.0 c.load.new.seat.me.0 c.args.other c.load.result t.0
    c.unpacked_phase.result t.1 t.2 c.unpacked_phase.ensures.word c.unpacked_phase.ensures.fits
    (subst (λ (z : ℕ). Does d.seat.me.0 (Glance (hand_in d.seat.me.0).job z t.0) c.load.new.seat.me.0) number t.3)) c.load.ensures.0
