-- Orders of a plan's jobs, and scripts in them.
use Rattle.std.proofs.Common.{◌≡◌, ℕ, ◌<◌, ◌≤◌, List, length, refl, subst, sym, ◌∙◌, arith}
use Rattle.std.specs.List.{All, range_with_len}
use Rattle.std.specs.List.Sorted.{IsPermutation}
use Rattle.std.proofs.lemmas.List.FromFn.{length-range_with_len, get_or-range_with_len}
use Rattle.std.proofs.lemmas.List.Sorted.{All-permutation, length_permutation}
use Rattle.lab_plan.specs.LabPlan.{LabPlan}
use Rattle.arranging.specs.Colours.{IsColouring, in_order}
use Rattle.arranging.specs.Reordered.{HasJobsOf}
use Rattle.arranging.proofs.Orders.{orders_keep_jobs}
use Rattle.arranged_scripts.specs.Arranged.{with_line_end, MovesBlocks, IsArranged}
use Rattle.script_reader.specs.Script.{ScriptMeans}
use Rattle.script_reader.specs.Laws.{HasOnePlan}
use Rattle.measured_orders.specs.declared.measure.Measure.{Measure}
use Rattle.measured_orders.specs.Measures.{IsMeasureOf, IsScriptMeasure}
use Rattle.measured_orders.specs.Orders.{IsOrder, IsInOrder, IsReordered}

-- an order has as many jobs as the plan, and only jobs of the plan
many : (plan : LabPlan) (order : List ℕ) → IsOrder plan order → length order ≡ length plan.jobs
many plan order is =
    length_permutation (range_with_len 0 (length plan.jobs)) order is ∙ length-range_with_len 0 (length plan.jobs)

pub of_plan : (plan : LabPlan) (order : List ℕ) → IsOrder plan order → All (λ job. job < length plan.jobs) order
of_plan plan order is =
    let long = length-range_with_len 0 (length plan.jobs) in
    All-permutation (λ job. job < length plan.jobs) (range_with_len 0 (length plan.jobs)) order is
    (λ k d below.
    let number = get_or-range_with_len 0 (length plan.jobs) k d (omega (arith, below, long)) in
    omega (arith, number, below, long))

pub within : (plan : LabPlan) (order : List ℕ) → IsOrder plan order → All (λ job. job < length order) order
within plan order is = subst (λ n. All (λ job. job < n) order) (sym (many plan order is)) (of_plan plan order is)

-- the jobs in the order of their colours
pub colour_order : (plan : LabPlan) (colours : List ℕ) (count : ℕ) (order : List ℕ) → IsColouring plan colours count → order ≡ in_order colours count
    → IsOrder plan order
colour_order plan colours count order is by =
    subst (λ l. IsOrder plan l) (sym by) (subst (λ n. IsPermutation (range_with_len 0 n) (in_order colours count)) is.one_each (orders_keep_jobs colours count is.few))

pub is_in_order : (plan other : LabPlan) (limit : ℕ) (script order text sent : List ℕ) (measure : Measure) → IsOrder plan order → MovesBlocks script order text
    → length text ≤ 16777216 → sent ≡ text → ScriptMeans sent other → plan.version ≡ other.version → HasJobsOf plan order other → IsMeasureOf other limit measure
    → IsInOrder plan limit script order text measure
is_in_order plan other limit script order text sent measure is moved short same means version jobs measured = record {
  each_once = is;
  moved = moved;
  short = short;
  read = other;
  means = subst (λ l. ScriptMeans l other) same means;
  version = sym version;
  same_jobs = jobs;
  measured = measured;
}

-- a script that was arranged is in an order
pub arranged_in_order : HasOnePlan → (plan : LabPlan) (limit : ℕ) (input text : List ℕ) (measure : Measure) → IsArranged plan input text → IsScriptMeasure text limit measure
    → IsReordered plan limit (with_line_end input) text measure
arranged_in_order one_plan plan limit input text measure is ran =
    let order = in_order is.made.colours is.made.count in
    let same : ran.plan ≡ is.arranged = one_plan text ran.plan is.arranged ran.means is.read_back in (
      order,
      record {
        each_once = colour_order plan is.made.colours is.made.count order is.is_colouring refl;
        moved = is.moved;
        short = is.short;
        read = is.arranged;
        means = is.read_back;
        version = is.is_arrangement.version;
        same_jobs = is.is_arrangement.same_jobs;
        measured = subst (λ p. IsMeasureOf p limit measure) same ran.ran;
      },
    )
