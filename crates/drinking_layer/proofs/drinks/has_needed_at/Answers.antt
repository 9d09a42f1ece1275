use Rattle.std.proofs.Common.{◌≡◌, ℕ, bit_and, nat_eq, true, length, sym, subst, arith, eq-eqb}
use Rattle.std.proofs.lemmas.Bool.Decides.{nat_tests}
use Rattle.lab_plan.specs.LabPlan.{bottles}
use Rattle.legal_steps.specs.State.{Has, bottle_marks}
use Rattle.edge_rule.specs.DeskView.{DeskView, known}
use Rattle.legal_steps.proofs.BottleSets.{subset, member_below}
use Rattle.drinking_layer.proofs.drinks.has_needed_at.Goals as goal

is_equal : (a b : ℕ) → nat_eq a b ≡ true → a ≡ b
is_equal a b h = grind (arith, nat_tests)

pub returns : goal.returns
returns g c = let d : DeskView = c.args.desk.now in let e = c.args.edge in let n = c.needed-needed.result in let w = c.needed-needed.ensures in
    let m = c.bottle_marks-marks.result in
    let same : m ≡ bottle_marks (known d) d.job e = c.bottle_marks-marks.ensures in
    let s = subset n m in (
      λ t k l needs. subst (λ z. Has z k) same
          (s.0 (is_equal (bit_and n m) n t) k ((w.just k l).1 (record { in_session = needs.in_session; named = needs.named }))),
      λ all. eq-eqb (bit_and n m) n (s.1 (λ k h. let l = member_below n (length (bottles d.plan e)) k w.of_edge h in let needs = (w.just k l).0 h in
          subst (λ z. Has z k) (sym same) (all k l (record { in_session = needs.in_session; named = needs.named })))),
    )
