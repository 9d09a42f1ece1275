-- For readers: rounds of all desks of a bench that was just opened.
use Rattle.std.specs.Prelude.{◌≡◌, ◌≢◌, ℕ, zero, suc, List, [], ◌∷◌, ◌++◌, length}
use Rattle.turns.specs.Patience.{no_wait}
use Rattle.edge_rule.specs.DeskView.{DeskView, BenchView, fresh_desks}
use Rattle.rounds.specs.declared.ended.Ended.{Ended}
use Rattle.rounds.specs.declared.ended.Ended.TheVariants.{Quiet}
use Rattle.rounds.specs.Company.{first_front}
use Rattle.rounds.specs.Rounds.{Player, Drove}
use Rattle.rounds.specs.OneRun.{RanRounds}

-- the desks of a bench as it was opened
abbrev pub opened : BenchView → List DeskView
opened b = fresh_desks b.table b.plan (length b.plan.jobs)

-- the jobs below n, none of which has waited
abbrev pub fresh_players : ℕ → List Player
fresh_players zero = []
fresh_players (suc n) = fresh_players n ++ record { job = n; waited = no_wait } ∷ []

-- what is driven of them is rounds of all jobs from the initial state
abbrev pub DrivesFromOpening : Type 0
DrivesFromOpening = (b : BenchView) (limit : ℕ) (ended : Ended) (n : ℕ) (desks : List DeskView) → Drove b limit (opened b) ended n desks
    → RanRounds b.plan limit (fresh_players (length b.plan.jobs)) [] ended n (first_front desks)

-- no run by rounds ends because it is quiet
abbrev pub NeverEndsQuiet : Type 0
NeverEndsQuiet = (b : BenchView) (limit : ℕ) (ended : Ended) (n : ℕ) (desks : List DeskView) → Drove b limit (opened b) ended n desks → ended ≢ Quiet

-- the rounds of two benches of one plan, with one limit, end for the same reason, after as many rounds, with the same history
abbrev pub OneRunOfAPlan : Type 0
OneRunOfAPlan = (a b : BenchView) (limit : ℕ) (ended ended' : Ended) (n n' : ℕ) (desks desks' : List DeskView) → a.plan ≡ b.plan
    → Drove a limit (opened a) ended n desks → Drove b limit (opened b) ended' n' desks'
    → (ended ≡ ended') × (n ≡ n') × (first_front desks ≡ first_front desks')
