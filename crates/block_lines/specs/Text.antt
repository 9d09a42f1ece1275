-- For readers: what is written of who keeps whom waiting, for people and for scripts.
use Rattle.std.specs.Prelude.{ℕ, ◌<◌, Bool, List, ◌++◌, codes, decimal, length, map, slice_index_or, if◌then◌else◌}
use Rattle.std.specs.List.{flat_map}
use Rattle.lab_plan.specs.LabPlan.{LabPlan, instrument_numbers}
use Rattle.lab_plan.specs.Texts.{job_name, instrument_name}
use Rattle.block_lines.specs.declared.block.Block.{Block}
use Rattle.block_lines.specs.Ranking.{count_at, ranked}
use Rattle.block_lines.specs.Sums.{rounds_of, rounds_on, held_on}

-- it names jobs and an instrument of the plan
pub record IsOfPlan (plan : LabPlan) (x : Block) : Type 0 where
  pub job : x.job < length plan.jobs
  pub neighbour : x.neighbour < length plan.jobs
  pub instrument : x.instrument < length plan.instruments

abbrev pub block_at : List Block → ℕ → Block
block_at blocks place = slice_index_or blocks place (record { job = 0; neighbour = 0; instrument = 0; rounds = 0; held = 0 })

-- `rounds R finished` or `rounds R unfinished`
abbrev pub ending : Bool → List ℕ
ending retired = if retired then codes " finished\n" else codes " unfinished\n"

unfoldable pub rounds_line : ℕ → Bool → List ℕ
rounds_line number retired = codes "rounds " ++ decimal number ++ ending retired

unfoldable pub counts_text : List ℕ → ℕ → ℕ → List ℕ
counts_text word rounds held = word ++ decimal rounds ++ codes " held " ++ decimal held ++ codes "\n"

-- `blocked J by K on I rounds B held H`
unfoldable pub block_line : LabPlan → Block → List ℕ
block_line plan x =
    codes "blocked " ++ job_name plan x.job ++ codes " by " ++ job_name plan x.neighbour ++ codes " on " ++ instrument_name plan x.instrument
    ++ counts_text (codes " rounds ") x.rounds x.held

-- `instrument I blocked B held H`
unfoldable pub instrument_line : LabPlan → ℕ → ℕ → ℕ → List ℕ
instrument_line plan i rounds held = codes "instrument " ++ instrument_name plan i ++ counts_text (codes " blocked ") rounds held

-- ---- the whole

abbrev pub all_blocks_text : LabPlan → List Block → List ℕ
all_blocks_text plan blocks = flat_map (λ place. block_line plan (block_at blocks place)) (ranked (map rounds_of blocks))

-- of instruments, by how many rounds each was waited for
abbrev pub instruments_text : LabPlan → List Block → List ℕ → List ℕ
instruments_text plan blocks counts = flat_map (λ i. instrument_line plan i (count_at counts i) (held_on blocks i)) (ranked counts)

-- the blocks with rounds, and the instruments that were waited for, each largest first, and equal ones in the script's order
unfoldable pub blocks_text : LabPlan → ℕ → Bool → List Block → List ℕ
blocks_text plan number retired blocks =
    rounds_line number retired ++ all_blocks_text plan blocks ++ instruments_text plan blocks (map (rounds_on blocks) (instrument_numbers plan))
