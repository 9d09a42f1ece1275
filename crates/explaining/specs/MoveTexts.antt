-- For readers: the moves that are legal, in words.
use Rattle.std.specs.Prelude.{ℕ, List, ◌++◌, codes}
use Rattle.std.specs.List.{flat_map}
use Rattle.lab_plan.specs.LabPlan.{LabPlan}
use Rattle.legal_steps.specs.declared.event.Step.{Step}
use Rattle.step_texts.specs.StepTexts.{step_text}

unfoldable pub move_line : LabPlan → Step → List ℕ
move_line plan step = codes "  " ++ step_text plan step ++ codes "\n"

unfoldable pub moves_text : LabPlan → List Step → List ℕ
moves_text plan moves = codes "legal now, besides looks and glances:\n" ++ flat_map (move_line plan) moves
