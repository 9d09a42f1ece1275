use Rattle.std.proofs.Common.{◌≡◌, ℕ, ◌+◌, IsSome, [], ◌∷◌, sym, ap, ◌∙◌, subst}
use Rattle.lab_plan.specs.LabPlan.{LabPlan, patience}
use Rattle.legal_steps.specs.declared.event.Event.TheVariants.{Thirst, Withdraw}
use Rattle.legal_steps.specs.declared.phase.JobState.{JobState}
use Rattle.legal_steps.specs.declared.phase.Drinking.TheVariants.{Thirsty}
use Rattle.legal_steps.specs.State.{phase, session}
use Rattle.legal_steps.specs.Legal.{IsJob}
use Rattle.interleaving.specs.World.{WorldView, LeadsTo}
use Rattle.settling.proofs.Worlds.{leads_both}
use Rattle.live_lab.proofs.Phases.{has_seat, phase_set, phase_after}
use Rattle.live_lab.proofs.skip.begin_and_give_up.Goals as goal

pub step-requires-2 : goal.step-requires-2
step-requires-2 g c =
    let w : WorldView = c.args.world.now in
    let mid : WorldView = c.step.new.world in
    let j = c.args.job in
    let first : LeadsTo w (Thirst j ∷ []) mid = c.step.ensures in
    let job : IsJob w.plan j = c.requires.0.0 in
    let now : phase mid.state j ≡ record (phase w.state j) { drinking = Thirsty; session = session w.state j + 1; position = 0 } =
    phase_after w mid (Thirst j) j first
    ∙ phase_set w.state j (record (phase w.state j) { drinking = Thirsty; session = session w.state j + 1; position = 0 }) (has_seat w j c.plan.ensures.reached job) in (
      subst (λ (p : LabPlan). IsJob p j) (sym first.same_plan) job,
      ap (λ (p : JobState). p.drinking) now,
      subst (λ (z : LabPlan × ℕ). IsSome (patience z.0 j z.1)) (λ i. (sym first.same_plan i, sym (ap (λ (p : JobState). p.session) now) i)) c.requires.1,
    )

pub returns : goal.returns
returns g c =
    let j = c.args.job in
    leads_both c.args.world.now c.step.new.world c.step-2.new.world (Thirst j ∷ []) (Withdraw j ∷ []) c.step.ensures c.step-2.ensures
