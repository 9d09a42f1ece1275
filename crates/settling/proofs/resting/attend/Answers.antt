use Rattle.std.proofs.Common.{◌≡◌, ◌+◌, ℕ, Bool, true, false, sym, ap, ◌∙◌, subst}
use Rattle.lab_plan.specs.LabPlan.{LabPlan}
use Rattle.legal_steps.specs.declared.event.Event.TheVariants.{Drink}
use Rattle.legal_steps.specs.Legal.{May, IsJob}
use Rattle.interleaving.specs.World.{WorldView}
use Rattle.settling.specs.Doing.{ActsAlone}
use Rattle.settling.specs.Left.{DueView, KeepsMarks, IsBySelf}
use Rattle.settling.specs.Visiting.{DrinksAlone}
use Rattle.settling.specs.Attending.{AttendsEdges, Attends, not_due}
use Rattle.settling.proofs.Rested.{job_drank, job_acted, job_done}
use Rattle.settling.proofs.resting.attend.Goals as goal

pub drink_alone-requires : goal.drink_alone-requires
drink_alone-requires g c = subst (λ (p : LabPlan). IsJob p c.args.job) (sym c.attend_edges-done.ensures.attends.alone.leads.same_plan) c.requires.job

pub returns-then-drink_alone-clause-attends : goal.returns-then-drink_alone-clause-attends
returns-then-drink_alone-clause-attends g c =
    let w : WorldView = c.args.world.now in
    let mid : WorldView = c.attend_edges-done.new.world in
    let new : WorldView = c.drink_alone.new.world in
    let j = c.args.job in
    let d1 : DueView = c.attend_edges-done.new.due in
    let drinks : DrinksAlone mid j true new = subst (λ (b : Bool). DrinksAlone mid j b new) c.if-drink_alone.true c.drink_alone.ensures.drinks in
    subst (λ (d : DueView). Attends (λ i. i ≡ j) w c.args.due.now (c.attend_edges-done.result + 1) new d) (sym c.drink_alone.ensures.same)
    (job_drank w mid c.args.due.now d1 j c.attend_edges-done.result c.requires.job c.attend_edges-done.ensures.attends new drinks)

-- it didn't drink, and nothing changed
dry : (w mid mid' : WorldView) (d0 d1 d2 : DueView) (j n : ℕ) (b : Bool) → b ≡ false → DrinksAlone mid j b mid' → d2 ≡ d1 → AttendsEdges w d0 j n mid d1 →
    (¬ May mid'.plan mid'.state (Drink j)) × AttendsEdges w d0 j n mid' d2
dry w mid mid' d0 d1 d2 j n b is drinks same a =
    let none : DrinksAlone mid j false mid' = subst (λ (z : Bool). DrinksAlone mid j z mid') is drinks in (
      subst (λ (x : WorldView). ¬ May x.plan x.state (Drink j)) (sym none.1) none.0,
      subst (λ (z : WorldView × DueView). AttendsEdges w d0 j n z.0 z.1) (λ i. (sym none.1 i, sym same i)) a,
    )

pub act_alone-requires-clause-no_drink : goal.act_alone-requires-clause-no_drink
act_alone-requires-clause-no_drink g c = (dry c.args.world.now c.attend_edges-done.new.world c.drink_alone.new.world c.args.due.now c.attend_edges-done.new.due
    c.drink_alone.new.due c.args.job c.attend_edges-done.result c.drink_alone.result c.if-drink_alone.false c.drink_alone.ensures.drinks
    c.drink_alone.ensures.same c.attend_edges-done.ensures.attends).0

pub act_alone-requires-clause-job : goal.act_alone-requires-clause-job
act_alone-requires-clause-job g c = let a = (dry c.args.world.now c.attend_edges-done.new.world c.drink_alone.new.world c.args.due.now c.attend_edges-done.new.due
    c.drink_alone.new.due c.args.job c.attend_edges-done.result c.drink_alone.result c.if-drink_alone.false c.drink_alone.ensures.drinks
    c.drink_alone.ensures.same c.attend_edges-done.ensures.attends).1 in
    subst (λ (p : LabPlan). IsJob p c.args.job) (sym a.alone.leads.same_plan) c.requires.job

pub returns-then-act_alone-clause-attends : goal.returns-then-act_alone-clause-attends
returns-then-act_alone-clause-attends g c =
    let w : WorldView = c.args.world.now in
    let mid : WorldView = c.drink_alone.new.world in
    let new : WorldView = c.act_alone.new.world in
    let j = c.args.job in
    let d1 : DueView = c.drink_alone.new.due in
    let a = (dry w c.attend_edges-done.new.world mid c.args.due.now c.attend_edges-done.new.due d1 j c.attend_edges-done.result c.drink_alone.result
    c.if-drink_alone.false c.drink_alone.ensures.drinks c.drink_alone.ensures.same c.attend_edges-done.ensures.attends).1 in
    let acts : ActsAlone mid j true new = subst (λ (b : Bool). ActsAlone mid j b new) c.if-act_alone.true c.act_alone.ensures.acts in
    job_acted w mid c.args.due.now d1 j c.attend_edges-done.result c.requires.job a new c.wake_self.new.due acts
    (subst (λ (z : LabPlan × DueView). KeepsMarks z.0 (IsBySelf j) z.1 c.wake_self.new.due) (λ i. (c.plan.ensures.plan i, c.act_alone.ensures.same i))
    c.wake_self.ensures.keeps)

pub returns-clause-attends : goal.returns-clause-attends
returns-clause-attends g c =
    let w : WorldView = c.args.world.now in
    let mid : WorldView = c.drink_alone.new.world in
    let new : WorldView = c.act_alone.new.world in
    let j = c.args.job in
    let n = c.attend_edges-done.result in
    let d1 : DueView = c.drink_alone.new.due in
    let a = (dry w c.attend_edges-done.new.world mid c.args.due.now c.attend_edges-done.new.due d1 j n c.drink_alone.result
    c.if-drink_alone.false c.drink_alone.ensures.drinks c.drink_alone.ensures.same c.attend_edges-done.ensures.attends).1 in
    let acts : ActsAlone mid j false new = subst (λ (b : Bool). ActsAlone mid j b new) c.if-act_alone.false c.act_alone.ensures.acts in
    subst (λ (z : WorldView × DueView). Attends (λ i. i ≡ j) w c.args.due.now n z.0 z.1)
    (λ i. (sym acts.1 i, sym (c.clear.ensures ∙ ap (λ (d : DueView). not_due d j) c.act_alone.ensures.same) i))
    (job_done w mid c.args.due.now d1 j n c.requires.job a acts.0)
