use Rattle.std.proofs.Common.{◌≡◌, ◌-◌, ℕ, List, [], ◌∷◌, length, sym, ap, ◌∙◌, subst, arith, add-one}
use Rattle.lab_plan.specs.LabPlan.{LabPlan, commands}
use Rattle.lab_plan.specs.declared.verb.Verb.{Verb}
use Rattle.legal_steps.specs.declared.event.Event.TheVariants.{Reach, Act}
use Rattle.legal_steps.specs.declared.phase.JobState.{JobState}
use Rattle.legal_steps.specs.State.{phase, position}
use Rattle.legal_steps.specs.Legal.{IsJob}
use Rattle.lab_plan.specs.IsPlan.{IsPlan}
use Rattle.legal_steps.proofs.FewCommands.{few_commands}
use Rattle.interleaving.specs.World.{LeadsTo}
use Rattle.settling.proofs.Worlds.{leads_both}
use Rattle.settling.proofs.Nothing.{leads_none}
use Rattle.live_lab.specs.Ends.{commands_by}
use Rattle.live_lab.proofs.Phases.{has_seat, seat_after, commanded, plus_none, left_same, further}
use Rattle.live_lab.proofs.end.command_all.Goals as goal

pub overflow_cast-left : goal.overflow_cast-left
overflow_cast-left g c =
    let few = few_commands c.plan.result.now c.args.job c.job-phase.result.session
    (subst IsPlan (sym c.plan.ensures.plan) c.plan.ensures.reached.reached.is_plan) in
    omega (arith, ap (λ (l : List (ℕ × Verb)). length l) c.commands.ensures.commands, few)

pub loop-number-init : goal.loop-number-init
loop-number-init g c =
    let w = c.args.world.now in let j = c.args.job in (
      leads_none w,
      has_seat w j c.plan.ensures.reached c.requires.job,
      λ i. record (phase w.state j) { position = plus_none (position w.state j) i },
    )

pub step-requires : goal.step-requires
step-requires g c =
    let w = c.args.world.now in let j = c.args.job in let l = c.loop-number in let at = l.invariant.2 in
    let same = l.invariant.0.same_plan in
    let many = left_same w l.world j at same
    ∙ sym (ap (λ (l : List (ℕ × Verb)). length l) c.commands.ensures.commands ∙ (λ i. length (commands (c.plan.ensures.plan i) j (c.job-phase.ensures.phase i).session))) in
    let there = ap (λ (p : JobState). p.position) at in
    let q = ap (λ (p : JobState). p.position) c.job-phase.ensures.phase in (
      subst (λ (p : LabPlan). IsJob p j) (sym same) c.requires.job,
      ap (λ (p : JobState). p.drinking) at ∙ c.requires.drinks,
      omega (arith, many, there, q, c.loop-number-test.true),
    )

pub loop-number-preserved : goal.loop-number-preserved
loop-number-preserved g c =
    let w = c.args.world.now in let j = c.args.job in let l = c.loop-number in let a = c.step.new.world in let b = c.step-in-loop-number.new.world in
    let n = l._number in let p = position w.state j in
    let more = commanded l.world a b j l.invariant.1 c.step.ensures c.step-in-loop-number.ensures in (
      subst (λ k. LeadsTo w (commands_by j k) b) (sym (add-one n))
          (leads_both w l.world b (commands_by j n) (Reach j ∷ Act j ∷ []) l.invariant.0 (leads_both l.world a b (Reach j ∷ []) (Act j ∷ []) c.step.ensures
          c.step-in-loop-number.ensures)),
      seat_after a b (Act j) j c.step-in-loop-number.ensures (seat_after l.world a (Reach j) j c.step.ensures l.invariant.1),
      further p n w.state j b.state l.world.state c.requires.drinks l.invariant.2 more,
    )

pub returns-clause-leads : goal.returns-clause-leads
returns-clause-leads g c =
    let l = c.loop-number in
    let all : l._number ≡ length c.commands.result.now - c.job-phase.result.position = omega (arith, l.auto._number-end, c.loop-number-test.false) in
    subst (λ k. LeadsTo c.args.world.now (commands_by c.args.job k) l.world) all l.invariant.0

pub returns-clause-none_left : goal.returns-clause-none_left
returns-clause-none_left g c =
    let w = c.args.world.now in let j = c.args.job in let l = c.loop-number in let at = l.invariant.2 in
    let same = l.invariant.0.same_plan in
    let many = left_same w l.world j at same
    ∙ sym (ap (λ (l : List (ℕ × Verb)). length l) c.commands.ensures.commands ∙ (λ i. length (commands (c.plan.ensures.plan i) j (c.job-phase.ensures.phase i).session))) in
    let there = ap (λ (p : JobState). p.position) at in
    let q = ap (λ (p : JobState). p.position) c.job-phase.ensures.phase in (
      subst (λ (p : LabPlan). IsJob p j) (sym same) c.requires.job,
      ap (λ (p : JobState). p.drinking) at ∙ c.requires.drinks,
      omega (arith, many, there, q, c.loop-number-test.false, l.auto._number-end),
    )

pub returns-clause-few : goal.returns-clause-few
returns-clause-few g c =
    let few = few_commands c.plan.result.now c.args.job c.job-phase.result.session
    (subst IsPlan (sym c.plan.ensures.plan) c.plan.ensures.reached.reached.is_plan) in
    omega (arith, ap (λ (l : List (ℕ × Verb)). length l) c.commands.ensures.commands, few)
