use Rattle.std.proofs.Common.{refl, ℕ, List, ◌++◌, length-set, slice_index_or, slice_set, ap, ◌∙◌, subst}
use Rattle.legal_steps.specs.declared.phase.JobState.{JobState}
use Rattle.turns.specs.Patience.{is_waiting, waited_in}
use Rattle.turns.specs.History.{learned_all}
use Rattle.turns.specs.Turn.{visits_events, IsTurnBy}
use Rattle.session_layer.specs.Turn.{Says}
use Rattle.settling.specs.Left.{IsBy}
use Rattle.live_lab.specs.declared.clock.Clock.{Clock}
use Rattle.live_lab.specs.Clocks.{no_clock, waits, after_turn}
use Rattle.live_lab.specs.Labs.{LabView}
use Rattle.live_lab.specs.Calls.{TakesTurn}
use Rattle.live_lab.proofs.Lists.{by_both, visits_by, acts_by}
use Rattle.live_lab.proofs.InLab.{in_lab}
use Rattle.live_lab.proofs.lab.Lab.turn_of.Goals as goal

pub invariant_of-self : goal.invariant_of-self
invariant_of-self c =
    let x = c.self.inside in let t = c.turn-done.ensures in let j = c.args.job in
    in_lab x.world c.turn-done.new.world x.clocks.items _ x.line (visits_events j t.visits ++ t.acts) (IsBy j) c.plan.result.now x.due c.wake_near.new.due
    t.leads (by_both j (visits_events j t.visits) t.acts (visits_by j t.visits) (acts_by x.world.plan (learned_all x.world.plan x.world.state (visits_events j t.visits)) j
    c.waited_in-waited.result t.acts t.turn.acts_due)) c.wake_near.ensures.keeps
    c.plan.ensures.plan (length-set x.clocks.items c.job-2.inside.0 c.after_turn-next.result) c.self.invariant

pub returns : goal.returns
returns c =
    let x = c.self.inside in let w = x.world in let t = c.turn-done.ensures in let j = c.args.job in
    let at = c.clock_of-clock.ensures ∙ ap (λ (l : List Clock). slice_index_or l j no_clock) c.deref.ensures.value in
    let same = c.waited_in-waited.ensures ∙ (λ i. waited_in (waits (at i)) (c.job-before.ensures.phase i).session) in
    let next = c.after_turn-next.ensures
    ∙ (λ i. after_turn ((c.is_waiting-thirsty.ensures ∙ ap (λ (p : JobState). is_waiting p.drinking) c.job-before.ensures.phase) i) (c.job.ensures.phase i) (at i)) in
    subst (λ (old : LabView). TakesTurn j old c.of.result (record { world = c.turn-done.new.world; clocks = slice_set x.clocks.items c.job-2.inside.0 c.after_turn-next.result; line = x.line })) c.self.view_is (record {
      visits = t.visits;
      acts = t.acts;
      events = visits_events j t.visits ++ t.acts;
      turn = subst (λ (n : ℕ). IsTurnBy w.plan j n w.state t.visits t.acts (visits_events j t.visits ++ t.acts)) same t.turn;
      none_lost = t.none_lost;
      says = subst (λ (n : ℕ). Says c.of.result n 0) t.says c.of.ensures;
      leads = t.leads;
      clocks = λ i. slice_set x.clocks.items (c.job-2.view_is i) (next i);
      line = refl;
    })
