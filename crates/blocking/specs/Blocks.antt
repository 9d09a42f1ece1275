-- For readers: who keeps whom waiting in a run by rounds.
use Rattle.std.specs.Prelude.{◌≡◌, ℕ, zero, suc, ◌+◌, nat_lt, Bool, ◌&&◌, List, length, map, take, if◌then◌else◌}
use Rattle.std.specs.List.{flat_map, range_with_len}
use Rattle.lab_plan.specs.LabPlan.{LabPlan, bottles, edges_of}
use Rattle.legal_steps.specs.declared.event.Event.{Event}
use Rattle.legal_steps.specs.State.{neighbour, phase}
use Rattle.legal_steps.specs.Legal.{instrument_of}
use Rattle.rounds.specs.Rounds.{known_in}
use Rattle.block_lines.specs.declared.block.Block.{Block}
use Rattle.waiting.specs.Rounds.{joined, AreRoundsOf}
use Rattle.blocking.specs.declared.places.Place.{Place}
use Rattle.waiting.specs.Holding.{holds_in}
use Rattle.blocking.specs.Waiting.{waits_at}

-- ---- where a job may wait

abbrev pub place : ℕ → ℕ → ℕ → Place
place j e k = record { job = j; edge = e; bottle = k }

-- for the bottles of an edge: of the instruments that both jobs name, in the order of first naming
abbrev pub places_on : LabPlan → ℕ → ℕ → List Place
places_on plan j e = map (place j e) (range_with_len 0 (length (bottles plan e)))

-- on each edge of the job, in ascending order: so its neighbours are in the order of the script
abbrev pub places_of : LabPlan → ℕ → List Place
places_of plan j = flat_map (places_on plan j) (edges_of plan j)

abbrev pub places : LabPlan → List Place
places plan = flat_map (places_of plan) (range_with_len 0 (length plan.jobs))

-- ---- in a round, by the history before it and the history after it

-- the job has waited there when its turn of the round was over. What a job knows is by its own events alone, so the turns behind its own change nothing
abbrev pub is_blocked : LabPlan → Place → List Event → List Event → Bool
is_blocked plan x before after = waits_at plan (known_in plan after x.job) x

-- what has been done of job k when the turn of job j was over: each job has one turn a round, in the order of the script
abbrev pub when_turned : ℕ → ℕ → List Event → List Event → List Event
when_turned j k before after = if nat_lt k j then after else before

-- and the neighbour held the instrument then
abbrev pub is_held : LabPlan → Place → List Event → List Event → Bool
is_held plan x before after =
    let k = neighbour plan x.job x.edge in
    is_blocked plan x before after
    && holds_in plan k (phase (known_in plan (when_turned x.job k before after) k) k) (instrument_of plan x.edge x.bottle)

-- ---- in all rounds

abbrev pub history_after : List (List Event) → ℕ → List Event
history_after rounds k = joined (take k rounds)

-- how many of the first rounds, this many, pass a test of the history before them and after them
abbrev pub rounds_where : (List Event → List Event → Bool) → List (List Event) → ℕ → ℕ
rounds_where test rounds zero = 0
rounds_where test rounds (suc k) =
    if test (history_after rounds k) (history_after rounds (suc k)) then rounds_where test rounds k + 1 else rounds_where test rounds k

abbrev pub block_of : LabPlan → List (List Event) → Place → Block
block_of plan rounds x = record {
  job = x.job;
  neighbour = neighbour plan x.job x.edge;
  instrument = instrument_of plan x.edge x.bottle;
  rounds = rounds_where (is_blocked plan x) rounds (length rounds);
  held = rounds_where (is_held plan x) rounds (length rounds);
}

-- what is known of a run: how many rounds were done, whether all jobs are retired, and who kept whom waiting
pub record RunView : Type 0 where
  pub number : ℕ
  pub retired : Bool
  pub blocks : List Block

-- the run of the plan by at most this many rounds
pub record IsBlockedRun (plan : LabPlan) (limit : ℕ) (run : RunView) : Type 0 where
  pub rounds : List (List Event)
  pub are_rounds : AreRoundsOf plan limit run.retired rounds
  pub number : run.number ≡ length rounds
  pub blocks : run.blocks ≡ map (block_of plan rounds) (places plan)
