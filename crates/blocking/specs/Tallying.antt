-- What is counted of a job's present session, and kept of its earlier ones.
use Rattle.std.specs.Prelude.{◌≡◌, ℕ, ◌+◌, ◌-◌, ◌<◌, ◌≤◌, ◌==◌, List, [], length, map, replicate, slice_index_or, slice_set, if◌then◌else◌}
use Rattle.std.specs.List.{All, AllZip, flat_map}
use Rattle.lab_plan.specs.LabPlan.{LabPlan, sessions}
use Rattle.legal_steps.specs.declared.event.Event.{Event}
use Rattle.legal_steps.specs.State.{session}
use Rattle.rounds.specs.Rounds.{known_in}
use Rattle.block_lines.specs.declared.block.Block.{Block}
use Rattle.block_lines.specs.Largest.{largest_three}
use Rattle.waiting.specs.Rounds.{joined}
use Rattle.waiting.specs.Noting.{LogView}
use Rattle.waiting.specs.Watching.{LogsTell}
use Rattle.blocking.specs.Blocks.{places_of}
use Rattle.blocking.specs.Keepers.{session_block, keepers}
use Rattle.blocking.specs.Watching.{AreHeld, block_then}
use Rattle.blocking.specs.Owing.{SideView, side_places, all_settled, sides_of, cleared_side, FitsSide, SideThen}

-- the number of the present session, what is counted of it at each end of an edge of its job, and who kept each of the others
pub record TallyView : Type 0 where
  pub session : ℕ
  pub sides : List SideView
  pub kept : List (List Block)

abbrev pub no_tally : TallyView
no_tally = record { session = 0; sides = []; kept = [] }

abbrev pub tally_at : List TallyView → ℕ → TallyView
tally_at tallies j = slice_index_or tallies j no_tally

-- before the first round
abbrev pub fresh_tally : LabPlan → ℕ → TallyView
fresh_tally plan j = record { session = 0; sides = sides_of plan j; kept = replicate (length (sessions plan j)) [] }

-- who kept the present session is put to the others, and nothing is counted
abbrev pub kept_then : LabPlan → TallyView → List (List Block)
kept_then plan x = if x.session == 0 then x.kept else slice_set x.kept (x.session - 1) (largest_three (all_settled plan x.sides))

abbrev pub put_away : LabPlan → TallyView → TallyView
put_away plan x = record x { sides = map (cleared_side plan) x.sides; kept = kept_then plan x }

-- in session s now
abbrev pub moved_to : LabPlan → ℕ → TallyView → TallyView
moved_to plan s x = if x.session == s then x else record { session = s; sides = map (cleared_side plan) x.sides; kept = kept_then plan x }

pub record FitsTally (plan : LabPlan) (x : TallyView) : Type 0 where
  pub fit : All (FitsSide plan) x.sides
  pub there : x.session ≤ length x.kept

-- after a round that was ended in session s
pub record TallyThen (plan : LabPlan) (h : List Event) (before after : List ℕ) (s : ℕ) (old new : TallyView) : Type 0 where
  pub session : new.session ≡ s
  pub sides : AllZip (SideThen plan (block_then plan h before after)) (moved_to plan s old).sides new.sides
  pub kept : new.kept ≡ (moved_to plan s old).kept

-- each tally is this to what it was
pub record EachThen (R : ℕ → TallyView → TallyView → Type 0) (old new : List TallyView) : Type 0 where
  pub many : length new ≡ length old
  pub each : (j : ℕ) → j < length old → R j (tally_at old j) (tally_at new j)

-- job j after a round
abbrev pub NotedThen : LabPlan → List Event → List ℕ → List ℕ → ℕ → TallyView → TallyView → Type 0
NotedThen plan h before after j old new = TallyThen plan h before after (session (known_in plan h j) j) old new

abbrev pub IsPutAway : LabPlan → ℕ → TallyView → TallyView → Type 0
IsPutAway plan j old new = new ≡ put_away plan old

abbrev pub kept_of : TallyView → List (List Block)
kept_of x = x.kept

-- what a tally of job j tells of these rounds
pub record Tells (plan : LabPlan) (rounds : List (List Event)) (j : ℕ) (x : TallyView) : Type 0 where
  pub session : x.session ≡ session (known_in plan (joined rounds) j) j
  pub there : x.session ≤ length (sessions plan j)
  pub fit : All (FitsSide plan) x.sides
  pub at_places : flat_map (side_places plan) x.sides ≡ places_of plan j
  pub counts : all_settled plan x.sides ≡ map (session_block plan rounds x.session) (places_of plan j)
  pub many : length x.kept ≡ length (sessions plan j)
  pub kept : (i : ℕ) → i < length (sessions plan j) → ¬ (i + 1 ≡ x.session) → slice_index_or x.kept i [] ≡ keepers plan rounds j (i + 1)

-- what is told of these rounds, by what jobs held before the last and after it, by their logs, and by the tallies
pub record SessionsTell (plan : LabPlan) (before after : List ℕ) (logs : List LogView) (tallies : List TallyView) (rounds : List (List Event)) : Type 0 where
  pub many_before : length before ≡ length plan.jobs
  pub held : AreHeld plan (joined rounds) after
  pub logs_tell : LogsTell plan logs rounds
  pub many : length tallies ≡ length plan.jobs
  pub tell : (j : ℕ) → j < length plan.jobs → Tells plan rounds j (tally_at tallies j)
