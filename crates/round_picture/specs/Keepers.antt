-- For readers: what a session's tooltip says of those who kept it waiting.
use Rattle.std.specs.Prelude.{ℕ, ◌==◌, List, [], ◌∷◌, ◌++◌, codes, decimal, if◌then◌else◌}
use Rattle.std.specs.List.{flat_map}
use Rattle.lab_plan.specs.LabPlan.{LabPlan}
use Rattle.lab_plan.specs.Texts.{job_name, instrument_name}
use Rattle.block_lines.specs.declared.block.Block.{Block}

abbrev pub rounds_word : ℕ → List ℕ
rounds_word n = if n == 1 then codes " round, used " else codes " rounds, used "

-- ` by K (I) B rounds, used H`
unfoldable pub keeper_text : LabPlan → Block → List ℕ
keeper_text plan x =
    codes " by " ++ job_name plan x.neighbour ++ codes " (" ++ instrument_name plan x.instrument ++ codes ") "
    ++ decimal x.rounds ++ rounds_word x.rounds ++ decimal x.held

abbrev pub further_text : LabPlan → Block → List ℕ
further_text plan x = codes ";" ++ keeper_text plan x

-- nothing of a session that nobody kept
abbrev pub keepers_text : LabPlan → List Block → List ℕ
keepers_text plan [] = []
keepers_text plan (x ∷ later) = codes "; kept waiting" ++ keeper_text plan x ++ flat_map (further_text plan) later
