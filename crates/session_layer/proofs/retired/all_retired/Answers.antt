use Rattle.std.proofs.Common.{◌≢◌, length, ℕ, ◌+◌, Bool, not, ◌&&◌, inl, inr, sym, ap, ◌∙◌, subst, arith}
use Rattle.std.proofs.lemmas.Bool.{cases_eq, eq-eqb, ne_eqb, false≢true}
use Rattle.lab_plan.specs.LabPlan.{LabPlan}
use Rattle.legal_steps.specs.declared.phase.JobState.{JobState}
use Rattle.edge_rule.specs.DeskView.{DeskView}
use Rattle.session_layer.specs.Retired.{has_retired}
use Rattle.session_layer.proofs.Glances.{GlancedTo, glanced_none, glanced_skip, glanced_more, glanced_all}
use Rattle.session_layer.proofs.retired.all_retired.Goals as goal
use Rattle.session_layer.proofs.retired.all_retired.Goals.{then-ne+then-sees_retired, then-ne+else-sees_retired, else-ne}

pub loop-k-init : goal.loop-k-init
loop-k-init g c = glanced_none c.args.desk.now c.is_retired-all.result (c.is_retired-all.ensures
    ∙ ap (λ (x : JobState). has_retired x.drinking) c.phase.ensures.phase)

pub loop-k-preserved : goal.loop-k-preserved
loop-k-preserved g c = let d : DeskView = c.args.desk.now in let n : ℕ = c.loop-k.k in let a = c.loop-k.invariant in let e : DeskView = c.loop-k.desk in
    let P : Bool × DeskView → Type 0 = λ z. GlancedTo d (n + 1) z.0 z.1 in let me = c.job-me.ensures.job in let test = c.ne.ensures in
    elim c.if-ne.branch [
      | then-ne+then-sees_retired w ↦ let apart : n ≢ d.job = λ q. false≢true (ap not (sym (eq-eqb _ _ (q ∙ sym me))) ∙ (sym test ∙ w.if-ne.true)) in
          subst P (λ i. (sym w.all-is i, sym w.desk-is i)) (glanced_more d n c.loop-k.all e a w.sees_retired.new.desk
          w.sees_retired.result apart w.sees_retired.ensures c.loop-k.all (λ i. sym w.if-sees_retired.true i && c.loop-k.all))
      | then-ne+else-sees_retired w ↦ let apart : n ≢ d.job = λ q. false≢true (ap not (sym (eq-eqb _ _ (q ∙ sym me))) ∙ (sym test ∙ w.if-ne.true)) in
          subst P (λ i. (sym w.all-is i, sym w.desk-is i)) (glanced_more d n c.loop-k.all e a w.sees_retired.new.desk w.sees_retired.result
          apart w.sees_retired.ensures w.sees_retired.result (w.if-sees_retired.false ∙ (λ i. sym w.if-sees_retired.false i && c.loop-k.all)))
      | else-ne w ↦ subst P (λ i. (sym w.all-is i, sym w.desk-is i)) (glanced_skip d n c.loop-k.all e a (elim (cases_eq c.loop-k.k c.job-me.result) [
        | inl is ↦ is ∙ me
        | inr other ↦ absurd (false≢true (sym w.if-ne.false ∙ (test ∙ ap not (ne_eqb _ _ other))))
      ]))
    ]

pub returns : goal.returns
returns g c =
    let wide = c.jobs-jobs.ensures.jobs in
    let same = ap (λ (p : LabPlan). length p.jobs) (c.plan.ensures ∙ sym c.requires.own.1) in
    let last = c.loop-k.auto.k-end in
    let at_end = c.loop-k-test.false in
    glanced_all c.args.desk.now c.loop-k.k c.loop-k.all c.loop-k.desk c.loop-k.invariant (omega (arith, wide, same, last, at_end)) c.job-me.ensures.rest
