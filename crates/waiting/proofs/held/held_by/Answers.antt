use Rattle.std.proofs.Common.{◌≡◌, ◌≢◌, ℕ, Bool, false, ◌&&◌, refl, sym, ap, ◌∙◌, inl, inr}
use Rattle.lab_plan.specs.LabPlan.{LabPlan, session_names}
use Rattle.lab_plan.specs.InstrumentSets.{holds}
use Rattle.lab_plan.proofs.Bits.{holds_none}
use Rattle.legal_steps.specs.declared.phase.JobState.{JobState}
use Rattle.legal_steps.specs.declared.phase.Drinking.{Drinking}
use Rattle.legal_steps.specs.declared.phase.Drinking.TheVariants.{Tranquil, Thirsty, Drinking as Drinks, Reaching, Retired}
use Rattle.legal_steps.specs.State.{IsDrinking}
use Rattle.waiting.specs.Holding.{is_drinking, holds_in}
use Rattle.waiting.proofs.held.held_by.Goals as goal

none_held : (d : Drinking) → d ≢ Drinks → d ≢ Reaching → is_drinking d ≡ false
none_held Tranquil a b = refl
none_held Thirsty a b = refl
none_held Drinks a b = absurd (a refl)
none_held Reaching a b = absurd (b refl)
none_held Retired a b = refl

not_drinking : (plan : LabPlan) (j : ℕ) (phase : JobState) (i : ℕ) → ¬ IsDrinking phase → holds 0 i ≡ holds_in plan j phase i
not_drinking plan j phase i other =
    holds_none i ∙ sym (ap (λ (b : Bool). b && session_names plan j phase.session i) (none_held phase.drinking (λ e. other (inl e)) (λ e. other (inr e))))

pub returns-else-is_drinking : goal.returns-else-is_drinking
returns-else-is_drinking g c = λ i.
    not_drinking c.args.plan.now c.args.desk.now.job c.phase-phase.result i
    (λ is. let yes = c.is_drinking.ensures.1 is in let no = c.if-is_drinking.false in absurd (cc))
    ∙ ap (λ (p : JobState). holds_in c.args.plan.now c.args.desk.now.job p i) c.phase-phase.ensures.phase
