-- For readers: a script with its jobs in an order in which chains at the start are short.
use Rattle.std.specs.Prelude.{ℕ, ◌≡◌, ◌≢◌, ◌<◌, ◌≤◌, ◌⊎◌, List, [], ◌∷◌, ◌++◌, length, slice_index_or, if◌then◌else◌}
use Rattle.std.specs.List.{flat_map, concat}
use Rattle.std.specs.Io.BufRead.{ends_with_byte}
use Rattle.lab_plan.specs.LabPlan.{LabPlan}
use Rattle.legal_steps.specs.Opening.{the_opening}
use Rattle.arranging.specs.Colours.{ColouringView, IsColouring, IsGreedy, in_order}
use Rattle.arranging.specs.Chains.{IsChain}
use Rattle.arranging.specs.Reordered.{IsArrangement}
use Rattle.script_reader.specs.Script.{ScriptMeans}
use Rattle.arranged_scripts.specs.Blocks.{IsCut}

-- the text, with a line end added if its last line has none
unfoldable pub with_line_end : List ℕ → List ℕ
with_line_end text = if ends_with_byte 10 text then text else text ++ 10 ∷ []

-- the lines of a text are a head and a block for each job; the other has the same head, and behind it the same blocks in this order
pub record MovesBlocks (text : List ℕ) (order : List ℕ) (moved : List ℕ) : Type 0 where
  pub head : List (List ℕ)
  pub blocks : List (List (List ℕ))
  pub is_cut : IsCut text head blocks
  pub one_each : length blocks ≡ length order
  pub joined : moved ≡ concat head ++ flat_map (λ job. concat (slice_index_or blocks job [])) order

-- There are greedy colours of the plan's jobs, and the text is the input with the blocks of its jobs in the order of these colours. It is no
-- longer than a run reads, and it is read as a plan that has the same jobs in that order, each with its own sessions, commands and patience
pub record IsArranged (plan : LabPlan) (input text : List ℕ) : Type 0 where
  pub made : ColouringView
  pub is_colouring : IsColouring plan made.colours made.count
  pub is_greedy : IsGreedy plan made.colours
  pub moved : MovesBlocks (with_line_end input) (in_order made.colours made.count) text
  pub short : length text ≤ 16777216
  pub arranged : LabPlan
  pub read_back : ScriptMeans text arranged
  pub is_arrangement : IsArrangement plan made arranged

-- the text is no script
abbrev pub IsNoScript : List ℕ → Type 0
IsNoScript text = (plan : LabPlan) → ScriptMeans text plan → ⊥

-- the blocks of the text aren't as many as the jobs
abbrev pub HasOtherBlocks : List ℕ → ℕ → Type 0
HasOtherBlocks text jobs = (head : List (List ℕ)) × (blocks : List (List (List ℕ))) × IsCut text head blocks × (length blocks ≢ jobs)

-- the text is longer than a run reads, or it isn't read as the jobs of the plan in the order of their colours
abbrev pub IsUnfit : LabPlan → ColouringView → List ℕ → Type 0
IsUnfit plan made text = (16777216 < length text) ⊎ ((read : LabPlan) → ScriptMeans text read → IsArrangement plan made read → ⊥)

-- Why a script isn't arranged. There are greedy colours of the plan's jobs; the blocks of the script aren't as many as the jobs, or they
-- make, in the order of these colours, a text that is unfit
pub record IsNotArranged (plan : LabPlan) (input : List ℕ) : Type 0 where
  pub made : ColouringView
  pub is_colouring : IsColouring plan made.colours made.count
  pub is_greedy : IsGreedy plan made.colours
  pub why : HasOtherBlocks (with_line_end input) (length plan.jobs)
      ⊎ ((text : List ℕ) × MovesBlocks (with_line_end input) (in_order made.colours made.count) text × IsUnfit plan made text)

-- whatever plan an arranged text means, at its opening no chain of precedence has more jobs than there are colours
abbrev pub ArrangedTextsHaveShortChains : Type 0
ArrangedTextsHaveShortChains = (plan : LabPlan) (input text : List ℕ) (is : IsArranged plan input text) (read : LabPlan) → ScriptMeans text read
    → (jobs : List ℕ) → IsChain read (the_opening read) jobs → length jobs ≤ is.made.count
