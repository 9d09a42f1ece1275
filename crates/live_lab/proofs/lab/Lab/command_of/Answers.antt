use Rattle.std.proofs.Common.{◌≡◌, ℕ, [], ◌∷◌, Some, refl, ap, ◌∙◌, subst}
use Rattle.lab_plan.specs.LabPlan.{command_at}
use Rattle.lab_plan.specs.declared.verb.Verb.{Verb}
use Rattle.instrument_log.specs.InstrumentLog.{LogView}
use Rattle.legal_steps.specs.declared.event.Event.TheVariants.{Reach, Act}
use Rattle.legal_steps.specs.State.{log}
use Rattle.legal_steps.specs.Legal.{May, next_command, next_entry, entry_after}
use Rattle.settling.specs.Left.{IsBySelf}
use Rattle.live_lab.specs.Labs.{LabView}
use Rattle.live_lab.specs.Calls.{Commands}
use Rattle.live_lab.proofs.InLab.{in_lab}
use Rattle.live_lab.proofs.lab.Lab.command_of.Goals as goal

pub invariant_of-self : goal.invariant_of-self
invariant_of-self c =
    let x = c.self.inside in let j = c.args.job in
    in_lab x.world c.do_act.new.world x.clocks.items x.clocks.items x.line (Reach j ∷ Act j ∷ []) (IsBySelf j) c.plan-3.result.now x.due c.wake_self.new.due
    c.do_act.ensures ((refl, tt), ((refl, tt), tt)) c.wake_self.ensures.keeps c.plan-3.ensures.plan refl c.self.invariant

pub returns : goal.returns
unfolding next_entry
returns c =
    let x = c.self.inside in let w = x.world in let j = c.args.job in
    let may : May w.plan w.state (Reach j) = c.enabled.ensures.0 c.if-not-enabled.false in
    let ph = c.job-phase.ensures.phase in
    let cmd : c.next_command-instrument.result ≡ next_command w.plan w.state j =
    c.next_command-instrument.ensures.command ∙ (λ i. command_at (c.plan.ensures.plan i) j (ph i).session (ph i).position) in
    let lg = ap (λ (l : LogView). l.entries) c.log.ensures ∙ ap (λ (z : ℕ × Verb). log w.state z.0) cmd in
    let entry : c.next_entry-entry.result ≡ next_entry w.plan w.state j =
    c.next_entry-entry.ensures ∙ (λ i. entry_after (c.plan-2.ensures.plan i) j (ph i).session (ph i).position (lg i)) in
    subst (λ (old : LabView). Commands j old (Some c.next_entry-entry.result) (record { world = c.do_act.new.world; clocks = x.clocks.items; line = x.line })) c.self.view_is
    (may, entry, record { leads = c.do_act.ensures; clocks = refl; line = refl })
