-- For readers: what is counted of the sessions of a job is, all together, what is counted of the whole run.
use Rattle.std.specs.Prelude.{◌≡◌, ℕ, ◌+◌, Bool, List, length}
use Rattle.std.specs.List.{sum_by, range_with_len}
use Rattle.lab_plan.specs.LabPlan.{LabPlan, sessions}
use Rattle.legal_steps.specs.declared.event.Event.{Event}
use Rattle.waiting.specs.Rounds.{AreRoundsOf}
use Rattle.blocking.specs.declared.places.Place.{Place}
use Rattle.blocking.specs.Blocks.{block_of}
use Rattle.blocking.specs.Keepers.{session_block}
use Rattle.blocking.specs.Watching.{IsPlace}

abbrev pub SessionsAddUp : Type 0
SessionsAddUp = (plan : LabPlan) (limit : ℕ) (retired : Bool) (rounds : List (List Event)) → AreRoundsOf plan limit retired rounds
    → (x : Place) → IsPlace plan x
    → (sum_by (λ i. (session_block plan rounds (i + 1) x).rounds) (range_with_len 0 (length (sessions plan x.job))) ≡ (block_of plan rounds x).rounds)
    × (sum_by (λ i. (session_block plan rounds (i + 1) x).held) (range_with_len 0 (length (sessions plan x.job))) ≡ (block_of plan rounds x).held)
