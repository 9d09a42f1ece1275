-- What is counted at a job's end of an edge, and what is owed to the counts there.
use Rattle.std.specs.Prelude.{◌≡◌, ℕ, ◌<◌, List, [], length, map}
use Rattle.std.specs.List.{All, flat_map, range_with_len}
use Rattle.lab_plan.specs.LabPlan.{LabPlan, edges_of}
use Rattle.legal_steps.specs.declared.event.Event.{Event}
use Rattle.legal_steps.specs.State.{IsOwn}
use Rattle.block_lines.specs.declared.block.Block.{Block}
use Rattle.waiting.specs.Rounds.{joined}
use Rattle.blocking.specs.declared.counted.Wait.{Wait}
use Rattle.blocking.specs.declared.places.Place.{Place}
use Rattle.blocking.specs.Blocks.{block_of, places_on, places}
use Rattle.blocking.specs.Watching.{AreHeld, rounds_then, each_by}

-- a job, one of its edges, how the job has waited there in each of the last rounds, how many these are, and what was counted of those before
pub record SideView : Type 0 where
  pub job : ℕ
  pub edge : ℕ
  pub wait : Wait
  pub rounds : ℕ
  pub blocks : List Block

abbrev pub no_side : SideView
no_side = record { job = 0; edge = 0; wait = record { bottles = 0; held = 0 }; rounds = 0; blocks = [] }

abbrev pub side_places : LabPlan → SideView → List Place
side_places plan s = places_on plan s.job s.edge

-- the counts, with what is owed
abbrev pub settled : LabPlan → SideView → List Block
settled plan s = each_by (rounds_then plan s.wait s.rounds) (side_places plan s) s.blocks

abbrev pub all_settled : LabPlan → List SideView → List Block
all_settled plan sides = flat_map (settled plan) sides

-- before the first round
abbrev pub fresh_side : LabPlan → ℕ → ℕ → SideView
fresh_side plan j e = record {
  job = j;
  edge = e;
  wait = record { bottles = 0; held = 0 };
  rounds = 0;
  blocks = map (block_of plan []) (places_on plan j e);
}

abbrev pub sides_of : LabPlan → ℕ → List SideView
sides_of plan j = map (fresh_side plan j) (edges_of plan j)

abbrev pub fresh_sides : LabPlan → List SideView
fresh_sides plan = flat_map (sides_of plan) (range_with_len 0 (length plan.jobs))

-- what is owed is counted
abbrev pub settled_side : LabPlan → SideView → SideView
settled_side plan s = record s { blocks = settled plan s }

-- nothing is counted, and nothing owed
abbrev pub cleared : Block → Block
cleared b = record b { rounds = 0; held = 0 }

abbrev pub cleared_side : LabPlan → SideView → SideView
cleared_side plan s = record s { rounds = 0; blocks = map cleared (settled plan s) }

-- the first round of another wait
abbrev pub turned_to : LabPlan → Wait → SideView → SideView
turned_to plan w s = record s { wait = w; rounds = 1; blocks = settled plan s }

pub record FitsSide (plan : LabPlan) (s : SideView) : Type 0 where
  pub job : s.job < length plan.jobs
  pub own : IsOwn plan s.job s.edge
  pub many : length s.blocks ≡ length (side_places plan s)

-- at the same end of the edge the counts, with what is owed, are changed like this
pub record SideThen (plan : LabPlan) (change : Place → Block → Block) (old new : SideView) : Type 0 where
  pub job : new.job ≡ old.job
  pub edge : new.edge ≡ old.edge
  pub many : length new.blocks ≡ length old.blocks
  pub counts : settled plan new ≡ each_by change (side_places plan old) (settled plan old)

-- what is told of these rounds, by what jobs held before the last and after it, and by what is counted
pub record CountsTell (plan : LabPlan) (before after : List ℕ) (sides : List SideView) (rounds : List (List Event)) : Type 0 where
  pub many_before : length before ≡ length plan.jobs
  pub held : AreHeld plan (joined rounds) after
  pub fit : All (FitsSide plan) sides
  pub at_places : flat_map (side_places plan) sides ≡ places plan
  pub counts : all_settled plan sides ≡ map (block_of plan rounds) (places plan)
