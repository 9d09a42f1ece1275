-- For readers: a script with its jobs in another order, and the best order that was measured.
use Rattle.std.specs.Prelude.{ℕ, ◌≡◌, ◌≤◌, ◌⊎◌, List, length}
use Rattle.std.specs.List.{range_with_len}
use Rattle.std.specs.List.Sorted.{IsPermutation}
use Rattle.lab_plan.specs.LabPlan.{LabPlan}
use Rattle.arranging.specs.Reordered.{HasJobsOf}
use Rattle.arranged_scripts.specs.Arranged.{with_line_end, MovesBlocks, IsArranged}
use Rattle.script_reader.specs.Script.{ScriptMeans}
use Rattle.measured_orders.specs.declared.measure.Measure.{Measure}
use Rattle.measured_orders.specs.declared.gain.Gain.{Gain}
use Rattle.measured_orders.specs.Measures.{IsMeasureOf, IsScriptMeasure, NoWorse}

-- each job of the plan once
abbrev pub IsOrder : LabPlan → List ℕ → Type 0
IsOrder plan order = IsPermutation (range_with_len 0 (length plan.jobs)) order

-- The text is the script with the blocks of its jobs in this order. It is no longer than a run reads, and it is read as a plan of the same
-- version that has the same jobs in this order, each with its own sessions, commands and patience. The run of that plan by at most so many
-- rounds has this measure
pub record IsInOrder (plan : LabPlan) (limit : ℕ) (script order text : List ℕ) (measure : Measure) : Type 0 where
  pub each_once : IsOrder plan order
  pub moved : MovesBlocks script order text
  pub short : length text ≤ 16777216
  pub read : LabPlan
  pub means : ScriptMeans text read
  pub version : read.version ≡ plan.version
  pub same_jobs : HasJobsOf plan order read
  pub measured : IsMeasureOf read limit measure

-- in some order
abbrev pub IsReordered : LabPlan → ℕ → List ℕ → List ℕ → Measure → Type 0
IsReordered plan limit script text measure = (order : List ℕ) × IsInOrder plan limit script order text measure

-- a text that was tried, with its measure
pub record TriedView : Type 0 where
  pub text : List ℕ
  pub measure : Measure

-- the start itself, or the script in some order in which its run is no worse
pub record IsClimbed (plan : LabPlan) (limit : ℕ) (script : List ℕ) (start best : TriedView) : Type 0 where
  pub no_worse : NoWorse best.measure start.measure
  pub is_one : (best ≡ start) ⊎ IsReordered plan limit script best.text best.measure

-- one of the two, or the script in some order; and its run is worse than neither
pub record IsBestOf (plan : LabPlan) (limit : ℕ) (script : List ℕ) (own other best : TriedView) : Type 0 where
  pub no_worse : NoWorse best.measure own.measure
  pub as_good : NoWorse best.measure other.measure
  pub is_one : (best ≡ own) ⊎ ((best ≡ other) ⊎ IsReordered plan limit script best.text best.measure)

-- a text, with the measures of the script as it came and of this text
pub record BestView : Type 0 where
  pub text : List ℕ
  pub gain : Gain

-- The text is the script itself, or the script in some order (with an end for its last line). Its run is worse neither than that of the
-- script as it came, nor than that of the script as `arrange` writes it, in the order of its jobs' colours
pub record IsBest (plan : LabPlan) (limit : ℕ) (input : List ℕ) (best : BestView) : Type 0 where
  pub own : IsMeasureOf plan limit best.gain.before
  pub is_one : ((best.text ≡ input) × IsMeasureOf plan limit best.gain.after) ⊎ IsReordered plan limit (with_line_end input) best.text best.gain.after
  pub no_worse : NoWorse best.gain.after best.gain.before
  pub arranged : List ℕ
  pub is_arranged : IsArranged plan input arranged
  pub by_colours : Measure
  pub ran : IsScriptMeasure arranged limit by_colours
  pub as_good : NoWorse best.gain.after by_colours

-- whatever measures the runs of the three texts have, that of the best is worse neither than that of the script as it came, nor than that
-- of the script as `arrange` writes it
abbrev pub BestIsNoWorse : Type 0
BestIsNoWorse = (plan : LabPlan) (limit : ℕ) (input : List ℕ) (best : BestView) → ScriptMeans input plan → (is : IsBest plan limit input best)
    → (after before coloured : Measure) → IsScriptMeasure best.text limit after → IsScriptMeasure input limit before
    → IsScriptMeasure is.arranged limit coloured
    → NoWorse after before × NoWorse after coloured
