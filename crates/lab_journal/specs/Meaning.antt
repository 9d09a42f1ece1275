-- For readers: what a journal means: the plan of its script with all sessions that came, and its steps.
use Rattle.std.specs.Prelude.{◌≡◌, ◌⊎◌, ℕ, List, [], ◌∷◌, Option, None, Some, Result, Ok, Err}
use Rattle.lab_plan.specs.LabPlan.{LabPlan, SessionPlan}
use Rattle.lab_plan.specs.Building.{job_number}
use Rattle.legal_steps.specs.declared.event.StepLine.{StepLine}
use Rattle.script_reader.specs.declared.fault.ScriptFault.{ScriptFault}
use Rattle.script_reader.specs.declared.fault.ScriptCause.TheVariants.{NotInJob, NoMemory}
use Rattle.script_reader.specs.More.{sessions_in}
use Rattle.script_reader.specs.Steps.{StepsMean}
use Rattle.live_lab.specs.Adding.{with_all}
use Rattle.journal_texts.specs.Additions.{Addition, additions}

-- ---- the sessions that came

-- the plan with the sessions that were read for job j, one behind the other
abbrev pub with_read : LabPlan → ℕ → ℕ → Result (List SessionPlan) ScriptFault → Result LabPlan ScriptFault
with_read plan line j (Ok further) = Ok (with_all plan j further)
with_read plan line j (Err fault) = Err (record { line = line; cause = fault.cause })

abbrev pub with_its : LabPlan → Addition → Option ℕ → Result LabPlan ScriptFault
with_its plan addition None = Err (record { line = addition.line; cause = NotInJob })
with_its plan addition (Some j) = with_read plan addition.line j (sessions_in plan j addition.session)

-- the plan with an addition, behind the other sessions of the job that it names; or there is no such job, or they aren't sessions that this job takes: a fault
-- at the addition's first line
abbrev pub with_addition : LabPlan → Addition → Result LabPlan ScriptFault
with_addition plan addition = with_its plan addition (job_number addition.job plan)

abbrev pub and_then : (LabPlan → Result LabPlan ScriptFault) → Result LabPlan ScriptFault → Result LabPlan ScriptFault
and_then more (Ok plan) = more plan
and_then more (Err fault) = Err fault

-- with all of them, one after another; or the first fault
abbrev pub with_additions : LabPlan → List Addition → Result LabPlan ScriptFault
with_additions plan [] = Ok plan
with_additions plan (addition ∷ more) = and_then (λ longer. with_additions longer more) (with_addition plan addition)

-- ---- texts

-- The text is a script with these steps, and the plan is the script's with all sessions that came, also those that came behind some of the steps: by a longer
-- plan the same steps lead to the same state (`StaysLegal` in longer_plans)
pub record JournalMeans (text : List ℕ) (plan : LabPlan) (steps : List StepLine) : Type 0 where
  pub script : LabPlan
  pub means : StepsMean text script steps
  pub came : with_additions script (additions text) ≡ Ok plan

-- the text is a script with steps, but this is the fault of what came, or that memory ran out
pub record HasBadAddition (text : List ℕ) (fault : ScriptFault) : Type 0 where
  pub script : LabPlan
  pub steps : List StepLine
  pub means : StepsMean text script steps
  pub is_bad : (fault.cause ≡ NoMemory) ⊎ (with_additions script (additions text) ≡ Err fault)
