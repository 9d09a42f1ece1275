use Rattle.std.proofs.Common.{◌≡◌, ℕ, ◌+◌, ◌++◌, refl, sym, ◌∙◌, subst}
use Rattle.std.specs.List.{count_by}
use Rattle.legal_steps.specs.declared.phase.JobState.{JobState}
use Rattle.legal_steps.specs.State.{IsDrinking, drinking}
use Rattle.reasons.specs.Deeds.{is_deed}
use Rattle.session_layer.specs.Turn.{Says}
use Rattle.settling.specs.Left.{IsBySelf}
use Rattle.settling.proofs.Deeds.{deeds_both}
use Rattle.live_lab.specs.Labs.{LabView}
use Rattle.live_lab.specs.Ends.{rest_of_session, EndsHeld}
use Rattle.live_lab.proofs.Lists.{session_self}
use Rattle.live_lab.proofs.InLab.{in_lab, lab_on, line_on, both_on}
use Rattle.live_lab.proofs.lab.Lab.end_of.Goals as goal

pub come_to_rest-more-requires : goal.come_to_rest-more-requires
come_to_rest-more-requires c =
    let x = c.self.inside in let j = c.args.job in let o = c.let_go-own.ensures.goes in let d = drinking x.world.state j in
    (in_lab x.world c.let_go-own.new.world x.clocks.items x.clocks.items x.line (rest_of_session d j o.left) (IsBySelf j) c.plan.result.now x.due c.wake_self.new.due
    o.leads (session_self d j o.left) c.wake_self.ensures.keeps c.plan.ensures.plan refl c.self.invariant).1

pub invariant_of-self : goal.invariant_of-self
invariant_of-self c =
    let x = c.self.inside in let j = c.args.job in let o = c.let_go-own.ensures.goes in let r = c.come_to_rest-more.ensures.rests in
    let mid = c.let_go-own.new.world in let new = c.come_to_rest-more.new.world in (
      lab_on x.world x.clocks.items x.clocks.items new
          (both_on x.world mid new (rest_of_session (drinking x.world.state j) j o.left, o.leads) (r.events, r.rests.leads)) refl c.self.invariant.0,
      c.come_to_rest-more.ensures.marked,
      line_on x.world new x.line (both_on x.world mid new (rest_of_session (drinking x.world.state j) j o.left, o.leads) (r.events, r.rests.leads)) c.self.invariant.2,
    )

pub returns : goal.returns
returns c =
    let x = c.self.inside in let j = c.args.job in let o = c.let_go-own.ensures.goes in let r = c.come_to_rest-more.ensures.rests in
    let own = rest_of_session (drinking x.world.state j) j o.left in
    let deeds : c.let_go-own.result + c.come_to_rest-more.result ≡ count_by is_deed (own ++ r.events) = (λ i. o.deeds i + r.deeds i) ∙ sym (deeds_both own r.events) in
    subst (λ (old : LabView). EndsHeld j old c.of.result (record { world = c.come_to_rest-more.new.world; clocks = x.clocks.items; line = x.line })) c.self.view_is (record {
      held = subst (λ (p : JobState). IsDrinking p) c.job.ensures.phase (c.is_drinking.ensures.0 c.if-not-is_drinking.false);
      left = o.left;
      mid = c.let_go-own.new.world;
      ends = o.leads;
      later = r.events;
      rests = r.rests;
      says = subst (λ (n : ℕ). Says c.of.result n 0) deeds c.of.ensures;
      clocks = refl;
      line = refl;
    })
