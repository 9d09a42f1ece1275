use Rattle.std.proofs.Common.{◌≡◌, ℕ, bit_and, nat_eq, true, length, sym, subst, arith, eq-eqb}
use Rattle.std.proofs.lemmas.Bool.Decides.{nat_tests}
use Rattle.lab_plan.specs.LabPlan.{LabPlan, bottles}
use Rattle.legal_steps.specs.declared.phase.JobState.{JobState}
use Rattle.legal_steps.specs.State.{Has, bottle_marks, phase}
use Rattle.legal_steps.proofs.BottleSets.{subset, member_below}
use Rattle.interleaving.specs.World.{WorldView}
use Rattle.edge_rule.specs.NeededBottles.{AreNeededIn}
use Rattle.settling.proofs.own_acts.has_needed_at.Goals as goal

is_equal : (a b : ℕ) → nat_eq a b ≡ true → a ≡ b
is_equal a b h = grind (arith, nat_tests)

pub returns : goal.returns
returns g c =
    let d : WorldView = c.args.world.now in
    let j = c.args.job in
    let e = c.args.edge in
    let n = c.needed_in-needed.result in
    let w : AreNeededIn d.plan j (phase d.state j) e n = subst (λ (z : LabPlan × JobState). AreNeededIn z.0 j z.1 e n)
    (λ i. (c.plan.ensures.plan i, c.job.ensures.phase i)) c.needed_in-needed.ensures in
    let m = c.bottle_marks-marks.result in
    let same : m ≡ bottle_marks d.state j e = c.bottle_marks-marks.ensures in
    let s = subset n m in (
      λ t k l needs. subst (λ z. Has z k) same
          (s.0 (is_equal (bit_and n m) n t) k ((w.just k l).1 (record { in_session = needs.in_session; named = needs.named }))),
      λ all. eq-eqb (bit_and n m) n (s.1 (λ k h. let l = member_below n (length (bottles d.plan e)) k w.of_edge h in let needs = (w.just k l).0 h in
          subst (λ z. Has z k) (sym same) (all k l (record { in_session = needs.in_session; named = needs.named })))),
    )
