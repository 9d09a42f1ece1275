use Rattle.std.proofs.Common.{ap, ◌∙◌}
use Rattle.legal_steps.specs.declared.phase.JobState.{JobState}
use Rattle.turns.specs.Patience.{is_waiting, waited_in}
use Rattle.round_trace.specs.Players.{waits, waited_then}
use Rattle.round_trace.proofs.OneTurn.{stands_on, turned_does, turned}
use Rattle.round_trace.proofs.round.turn.Goals as goal

pub returns-clause-plays : goal.returns-clause-plays
returns-clause-plays g c =
    let x = c.args.player.now in
    turned c.args.world.now c.visit_all.new.world c.act.new.world c.args.events.now.items c.visit_all.new.events.items c.act.new.events.items x
    c.waited_in-waited.result
    c.requires.job c.requires.stands c.in_ok-visit_all.ensures c.in_ok-act.ensures
    (c.waited_in-waited.ensures ∙ ap (λ (p : JobState). waited_in (waits x) p.session) c.job-before.ensures.phase) _
    (c.note.ensures
    ∙ (λ i. record { job = x.job; waited = waited_then (waits x) (is_waiting (c.job-before.ensures.phase i).drinking) (c.job.ensures.phase i) }))

pub returns-clause-stands : goal.returns-clause-stands
returns-clause-stands g c =
    stands_on c.args.world.now c.act.new.world c.args.events.now.items c.act.new.events.items _ c.requires.stands
    (turned_does c.args.world.now c.visit_all.new.world c.act.new.world c.args.events.now.items c.visit_all.new.events.items c.act.new.events.items
    c.args.player.now c.waited_in-waited.result
    c.requires.job c.requires.stands c.in_ok-visit_all.ensures c.in_ok-act.ensures)
