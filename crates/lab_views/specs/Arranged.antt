-- For readers: what `arrange` writes for a script.
use Rattle.std.specs.Prelude.{ℕ, ◌≡◌, List, Option, Result}
use Rattle.lab_plan.specs.LabPlan.{LabPlan}
use Rattle.script_reader.specs.Script.{ScriptMeans}
use Rattle.arranged_scripts.specs.Arranged.{IsArranged, IsNotArranged}
use Rattle.lab_program.specs.declared.faults.RunFault.{RunFault}
use Rattle.lab_program.specs.declared.faults.Outcome.{Outcome}
use Rattle.lab_program.specs.declared.faults.Outcome.TheVariants.{Finished, Unfinished}
use Rattle.lab_program.specs.Answers.{ScriptRefuses, AnswersTo}

-- the input is a script; Finished means that it was arranged, and Unfinished that it can't be, for a reason, and went out as it was
abbrev pub Arranges : List ℕ → List ℕ → Outcome → Type 0
Arranges input text Finished = (plan : LabPlan) × ScriptMeans input plan × IsArranged plan input text
Arranges input text Unfinished = (plan : LabPlan) × ScriptMeans input plan × IsNotArranged plan input × (text ≡ input)

abbrev pub ArrangeAnswers : Option (List ℕ) → Option (List ℕ) → Option (List ℕ) → Result Outcome RunFault → Type 0
ArrangeAnswers left old new result = AnswersTo Arranges ScriptRefuses left old new result
