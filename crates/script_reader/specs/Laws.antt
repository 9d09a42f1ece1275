-- A text has at most one meaning: one plan, or one fault; and with steps one plan and list, or one fault.
use Rattle.std.specs.Prelude.{ℕ, ◌≡◌, List}
use Rattle.lab_plan.specs.LabPlan.{LabPlan}
use Rattle.script_reader.specs.declared.fault.ScriptCause.{ScriptCause}
use Rattle.legal_steps.specs.declared.event.StepLine.{StepLine}
use Rattle.script_reader.specs.Script.{ScriptMeans, ScriptFaults}
use Rattle.script_reader.specs.Steps.{StepsMean, StepsFault}

abbrev pub HasOnePlan : Type 0
HasOnePlan = (text : List ℕ) (p q : LabPlan) → ScriptMeans text p → ScriptMeans text q → p ≡ q

abbrev pub HasPlanOrFault : Type 0
HasPlanOrFault = (text : List ℕ) (p : LabPlan) (n : ℕ) (cause : ScriptCause) → ScriptMeans text p → ScriptFaults text n cause → ⊥

abbrev pub HasOneFault : Type 0
HasOneFault = (text : List ℕ) (m n : ℕ) (cause other : ScriptCause) → ScriptFaults text m cause → ScriptFaults text n other → (m ≡ n) × (cause ≡ other)

abbrev pub HasOneList : Type 0
HasOneList = (text : List ℕ) (p q : LabPlan) (s t : List StepLine) → StepsMean text p s → StepsMean text q t → (p ≡ q) × (s ≡ t)

abbrev pub HasListOrFault : Type 0
HasListOrFault = (text : List ℕ) (p : LabPlan) (s : List StepLine) (n : ℕ) (cause : ScriptCause) → StepsMean text p s → StepsFault text n cause → ⊥

abbrev pub HasOneStepFault : Type 0
HasOneStepFault = (text : List ℕ) (m n : ℕ) (cause other : ScriptCause) → StepsFault text m cause → StepsFault text n other → (m ≡ n) × (cause ≡ other)
