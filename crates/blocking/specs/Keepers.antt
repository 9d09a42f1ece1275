-- For readers: who kept each session waiting in a run by rounds.
use Rattle.std.specs.Prelude.{◌≡◌, ℕ, ◌+◌, ◌-◌, ◌==◌, Bool, ◌&&◌, List, [], length, map, slice_index_or}
use Rattle.std.specs.List.{All, range_with_len}
use Rattle.lab_plan.specs.LabPlan.{LabPlan, sessions}
use Rattle.legal_steps.specs.declared.event.Event.{Event}
use Rattle.legal_steps.specs.State.{neighbour, session}
use Rattle.legal_steps.specs.Legal.{instrument_of}
use Rattle.rounds.specs.Rounds.{known_in}
use Rattle.block_lines.specs.declared.block.Block.{Block}
use Rattle.block_lines.specs.Largest.{largest_three}
use Rattle.block_lines.specs.Text.{IsOfPlan}
use Rattle.waiting.specs.Rounds.{AreRoundsOf}
use Rattle.waiting.specs.Waits.{RunView, run_of}
use Rattle.blocking.specs.declared.places.Place.{Place}
use Rattle.blocking.specs.Blocks.{is_blocked, is_held, rounds_where, places_of}

-- a test of rounds, for those alone after which s is the last session that job j has begun
abbrev pub in_session : LabPlan → ℕ → ℕ → (List Event → List Event → Bool) → List Event → List Event → Bool
in_session plan j s test before after = (session (known_in plan after j) j == s) && test before after

-- what is counted of the whole run, of the rounds of session s alone
abbrev pub session_block : LabPlan → List (List Event) → ℕ → Place → Block
session_block plan rounds s x = record {
  job = x.job;
  neighbour = neighbour plan x.job x.edge;
  instrument = instrument_of plan x.edge x.bottle;
  rounds = rounds_where (in_session plan x.job s (is_blocked plan x)) rounds (length rounds);
  held = rounds_where (in_session plan x.job s (is_held plan x)) rounds (length rounds);
}

-- the three that kept session s of job j waiting for the most rounds
abbrev pub keepers : LabPlan → List (List Event) → ℕ → ℕ → List Block
keepers plan rounds j s = largest_three (map (session_block plan rounds s) (places_of plan j))

-- of each session that the job has in the plan, counted from 1
abbrev pub keepers_of : LabPlan → List (List Event) → ℕ → List (List Block)
keepers_of plan rounds j = map (λ i. keepers plan rounds j (i + 1)) (range_with_len 0 (length (sessions plan j)))

-- what is known of a run: the rounds of its sessions and meals, and who kept each session of each job
pub record KeptView : Type 0 where
  pub run : RunView
  pub keepers : List (List (List Block))

-- of session s of job j; nobody if there is no such session
abbrev pub keepers_at : KeptView → ℕ → ℕ → List Block
keepers_at x j s = slice_index_or (slice_index_or x.keepers j []) (s - 1) []

-- the run of the plan by at most this many rounds
pub record IsKeptRun (plan : LabPlan) (limit : ℕ) (x : KeptView) : Type 0 where
  pub rounds : List (List Event)
  pub are_rounds : AreRoundsOf plan limit x.run.retired rounds
  pub known : x.run ≡ run_of (length plan.jobs) x.run.retired rounds
  pub keepers : x.keepers ≡ map (keepers_of plan rounds) (range_with_len 0 (length plan.jobs))

-- what is known of a run tells of each job of the plan, and names jobs and instruments of the plan
pub record IsKeptOf (plan : LabPlan) (x : KeptView) : Type 0 where
  pub jobs : length x.run.jobs ≡ length plan.jobs
  pub keepers : length x.keepers ≡ length plan.jobs
  pub of_plan : (j s : ℕ) → All (IsOfPlan plan) (keepers_at x j s)
