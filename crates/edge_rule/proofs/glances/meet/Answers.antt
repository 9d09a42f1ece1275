use Rattle.std.proofs.Common.{ℕ, ◌∷◌, [], refl, ap, subst}
use Rattle.legal_steps.specs.declared.event.Event.TheVariants.{Glance}
use Rattle.one_history.specs.Grow.{hand_in, Does}
use Rattle.edge_rule.specs.DeskView.{DeskView}
use Rattle.edge_rule.proofs.DeskSteps.{seat_adds}
use Rattle.edge_rule.proofs.ManyHands.{desk_still}
use Rattle.edge_rule.proofs.GlancedDesks.{glance_told, glance_kept}
use Rattle.edge_rule.proofs.MetDesks.{desk_table, knows_plan, own_word, word_inside, both_seen, other_same, jobs_apart}
use Rattle.edge_rule.proofs.glances.meet.Goals as goal

pub invariant_of-me : goal.invariant_of-me
invariant_of-me g0 c =
    let t = c.glance_at.ensures.does in
    glance_kept c.me.inside c.me.invariant _ _ t.0 t.3 c.glance_at.ensures.seat.1 refl refl refl refl refl refl

pub returns-clause-adds : goal.returns-clause-adds
returns-clause-adds g0 c = let t = c.glance_at.ensures.does in let d = c.me.inside in
    seat_adds d.seat c.glance_at.new.me _ (λ (y : DeskView). Glance y.job c.args.other.now.job c.unpacked_phase.result ∷ []) c.me.view_is
    (glance_told d.seat.me.0 c.glance_at.new.me.me.0 c.args.other.now.job c.glance_at.result t.0
    c.unpacked_phase.result t.1 t.2 c.unpacked_phase.ensures.word c.unpacked_phase.ensures.fits
    (subst (λ (z : ℕ). Does d.seat.me.0 (Glance (hand_in d.seat.me.0).job z t.0) c.glance_at.new.me.me.0) (ap (λ (z : DeskView). z.job) c.other.view_is) t.3))
    c.glance_at.ensures.seat.0

pub invariant_of-other : goal.invariant_of-other
invariant_of-other g0 c = desk_still c.other.inside c.glance_at.new.other c.glance_at.ensures.same.1 c.other.invariant

pub glance_at-requires-clause-table : goal.glance_at-requires-clause-table
glance_at-requires-clause-table g0 c = (
  desk_table c.bench.inside c.args.bench.now c.bench.view_is c.me.inside c.args.me.now c.me.view_is c.me.invariant c.requires.own.0,
  desk_table c.bench.inside c.args.bench.now c.bench.view_is c.other.inside c.args.other.now c.other.view_is c.other.invariant c.requires.own.1,
  word_inside c.bench.inside c.args.bench.now c.bench.view_is c.other.inside c.args.other.now c.other.view_is c.other.invariant c.requires.own.1
      c.bench.invariant c.phase_place-word.result c.phase_place-word.ensures,
)

pub glance_at-requires-clause-plan : goal.glance_at-requires-clause-plan
glance_at-requires-clause-plan g0 c =
    knows_plan c.bench.inside c.args.bench.now c.bench.view_is c.me.inside c.args.me.now c.me.view_is c.me.invariant c.requires.own.0

pub glance_at-requires-clause-word : goal.glance_at-requires-clause-word
glance_at-requires-clause-word g0 c =
    own_word c.bench.inside c.args.bench.now c.bench.view_is c.other.inside c.args.other.now c.other.view_is c.other.invariant c.requires.own.1
    c.bench.invariant c.phase_place-word.result c.phase_place-word.ensures

pub glance_at-requires-clause-alone : goal.glance_at-requires-clause-alone
glance_at-requires-clause-alone g0 c = (c.me.invariant.at_rest.mine, c.me.invariant.at_rest.none_told, c.me.invariant.empty)

pub glance_at-requires-clause-other_alone : goal.glance_at-requires-clause-other_alone
glance_at-requires-clause-other_alone g0 c = (c.other.invariant.at_rest.mine, c.other.invariant.at_rest.none_told, c.other.invariant.empty)

pub glance_at-requires-clause-apart : goal.glance_at-requires-clause-apart
glance_at-requires-clause-apart g0 c =
    jobs_apart c.me.inside c.other.inside c.args.me.now c.args.other.now c.me.view_is c.other.view_is c.requires.apart

pub unpacked_phase-requires : goal.unpacked_phase-requires
unpacked_phase-requires g0 c = let t = c.glance_at.ensures.does in (t.0, t.1, t.2)

pub returns-clause-same : goal.returns-clause-same
returns-clause-same g0 c = other_same c.other.inside c.args.other.now c.other.view_is c.glance_at.new.other c.glance_at.ensures.same

pub returns-clause-both : goal.returns-clause-both
returns-clause-both g0 c = both_seen c.other.inside c.args.other.now c.other.view_is c.glance_at.new.me.me.0 c.glance_at.ensures.both
