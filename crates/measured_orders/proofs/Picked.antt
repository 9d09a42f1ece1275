-- The best of what was tried.
use Rattle.std.proofs.Common.{◌≡◌, ◌⊎◌, inl, inr, ℕ, true, false, List, sym, subst}
use Rattle.lab_plan.specs.LabPlan.{LabPlan}
use Rattle.arranged_scripts.specs.Arranged.{with_line_end, IsArranged}
use Rattle.script_reader.specs.Script.{ScriptMeans}
use Rattle.script_reader.specs.Laws.{HasOnePlan}
use Rattle.measured_orders.specs.declared.measure.Measure.{Measure}
use Rattle.measured_orders.specs.Measures.{is_better, IsMeasureOf, IsScriptMeasure, NoWorse, OneMeasure}
use Rattle.measured_orders.specs.Orders.{IsInOrder, IsReordered, TriedView, IsClimbed, IsBestOf, BestView, IsBest, BestIsNoWorse}
use Rattle.measured_orders.proofs.Better.{better_no_worse, no_worse_then}
use Rattle.measured_orders.proofs.Ordered.{arranged_in_order}

-- ---- the climb

pub goes_on : (plan : LabPlan) (limit : ℕ) (script order : List ℕ) (start best found : TriedView) → IsClimbed plan limit script start best
    → is_better found.measure best.measure ≡ true → IsInOrder plan limit script order found.text found.measure → IsClimbed plan limit script start found
goes_on plan limit script order start best found is better made = record {
  no_worse = no_worse_then found.measure best.measure start.measure (better_no_worse found.measure best.measure better) is.no_worse;
  is_one = inr (order, made);
}

-- ---- its start

pub from_other : (plan : LabPlan) (limit : ℕ) (script : List ℕ) (own other best : TriedView) → is_better other.measure own.measure ≡ true
    → IsClimbed plan limit script other best → IsBestOf plan limit script own other best
from_other plan limit script own other best better is = record {
  no_worse = no_worse_then best.measure other.measure own.measure is.no_worse (better_no_worse other.measure own.measure better);
  as_good = is.no_worse;
  is_one = inr is.is_one;
}

pub from_own : (plan : LabPlan) (limit : ℕ) (script : List ℕ) (own other best : TriedView) → is_better other.measure own.measure ≡ false
    → IsClimbed plan limit script own best → IsBestOf plan limit script own other best
from_own plan limit script own other best worse is = record {
  no_worse = is.no_worse;
  as_good = no_worse_then best.measure own.measure other.measure is.no_worse worse;
  is_one = elim is.is_one [ inl same ↦ inl same | inr made ↦ inr (inr made) ];
}

-- ---- the whole

abbrev IsOne : LabPlan → ℕ → List ℕ → TriedView → Type 0
IsOne plan limit input best = ((best.text ≡ input) × IsMeasureOf plan limit best.measure) ⊎ IsReordered plan limit (with_line_end input) best.text best.measure

pub is_best : HasOnePlan → (plan : LabPlan) (limit : ℕ) (input whole : List ℕ) (own other best : TriedView) → IsMeasureOf plan limit own.measure → own.text ≡ input
    → IsArranged plan input other.text → IsScriptMeasure other.text limit other.measure → whole ≡ with_line_end input → IsBestOf plan limit whole own other best
    → IsBest plan limit input (record { text = best.text; gain = record { before = own.measure; after = best.measure } })
is_best one_plan plan limit input whole own other best measured itself arranged ran ended is = record {
  own = measured;
  is_one = one;
  no_worse = is.no_worse;
  arranged = other.text;
  is_arranged = arranged;
  by_colours = other.measure;
  ran = ran;
  as_good = is.as_good;
}
  where
    one : IsOne plan limit input best
    one = elim is.is_one [
      | inl same ↦ subst (IsOne plan limit input) (sym same) (inl (itself, measured))
      | inr more ↦ elim more [
        | inl same ↦ subst (IsOne plan limit input) (sym same) (inr (arranged_in_order one_plan plan limit input other.text other.measure arranged ran))
        | inr made ↦ inr (subst (λ l. IsReordered plan limit l best.text best.measure) ended made)
      ]
    ]

-- ---- the law

text_measure : HasOnePlan → OneMeasure → (plan : LabPlan) (limit : ℕ) (text : List ℕ) (measure other : Measure) → ScriptMeans text plan → IsMeasureOf plan limit measure
    → IsScriptMeasure text limit other → other ≡ measure
text_measure one_plan one_measure plan limit text measure other means measured ran =
    let same : ran.plan ≡ plan = one_plan text ran.plan plan ran.means means in
    one_measure plan limit other measure (subst (λ p. IsMeasureOf p limit other) same ran.ran) measured

after_is : HasOnePlan → OneMeasure → (plan : LabPlan) (limit : ℕ) (input : List ℕ) (best : BestView) (after : Measure) → ScriptMeans input plan
    → ((best.text ≡ input) × IsMeasureOf plan limit best.gain.after) ⊎ IsReordered plan limit (with_line_end input) best.text best.gain.after
    → IsScriptMeasure best.text limit after → after ≡ best.gain.after
after_is one_plan one_measure plan limit input best after means (inl own) ran =
    text_measure one_plan one_measure plan limit best.text best.gain.after after (subst (λ t. ScriptMeans t plan) (sym own.0) means) own.1 ran
after_is one_plan one_measure plan limit input best after means (inr made) ran =
    text_measure one_plan one_measure made.1.read limit best.text best.gain.after after made.1.means made.1.measured ran

pub best_is_no_worse : HasOnePlan → OneMeasure → BestIsNoWorse
best_is_no_worse one_plan one_measure plan limit input best means is after before coloured ran old by =
    let now : after ≡ best.gain.after = after_is one_plan one_measure plan limit input best after means is.is_one ran in
    let was : before ≡ best.gain.before = text_measure one_plan one_measure plan limit input best.gain.before before means is.own old in
    let same : coloured ≡ is.by_colours = text_measure one_plan one_measure is.ran.plan limit is.arranged is.by_colours coloured is.ran.means is.ran.ran by in (
      subst (λ m. NoWorse m before) (sym now) (subst (λ m. NoWorse best.gain.after m) (sym was) is.no_worse),
      subst (λ m. NoWorse m coloured) (sym now) (subst (λ m. NoWorse best.gain.after m) (sym same) is.as_good),
    )
