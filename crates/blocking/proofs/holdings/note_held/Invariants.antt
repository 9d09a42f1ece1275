use Rattle.std.proofs.Common.{◌≡◌, ◌<◌, ℕ, length}
use Rattle.lab_plan.specs.InstrumentSets.{holds}
use Rattle.legal_steps.specs.State.{phase}
use Rattle.rounds.specs.Company.{first_front}
use Rattle.rounds.specs.Rounds.{known_in}
use Rattle.waiting.specs.Holding.{holds_in}
use Rattle.blocking.specs.Watching.{set_at}
use Rattle.blocking.proofs.holdings.note_held.Given as goal

-- so many desks were asked
abbrev pub invariant-loop-place : goal.invariant-loop-place
invariant-loop-place g l = (length l.sets ≡ length l.desks)
    × ((j : ℕ) → j < l.place → (i : ℕ) → holds (set_at l.sets j) i ≡ holds_in l.plan j (phase (known_in l.plan (first_front l.desks) j) j) i)
