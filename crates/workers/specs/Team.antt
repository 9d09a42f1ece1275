-- For readers: desks that a team drives.
use Rattle.std.specs.Prelude.{◌≡◌, ◌⊎◌, ℕ, zero, suc, ◌<◌, ◌≤◌, Bool, true, false, List, [], ◌∷◌}
use Rattle.edge_rule.specs.DeskView.{DeskView}
use Rattle.edge_rule.specs.Ending.{Any}
use Rattle.session_layer.specs.Grown.{TookTurns}
use Rattle.turns.specs.AtTheEnd.{AllRetired}
use Rattle.session_layer.specs.Retired.{Glanced, is_retired}
use Rattle.workers.specs.Pairs.{Pairs}
use Rattle.workers.specs.declared.halt.Halt.{Halt}
use Rattle.workers.specs.declared.halt.Halt.TheVariants as halts

-- the desk glanced at all others, and answers whether all jobs are retired; or its own job isn't, it did nothing, and answers no
abbrev pub LookedOut : DeskView → Bool → DeskView → Type 0
LookedOut d r e = Glanced d r e ⊎ ((is_retired d ≡ false) × (e ≡ d) × (r ≡ false))

-- the desk took at most this many turns
abbrev pub TookUpTo : ℕ → DeskView → DeskView → Type 0
TookUpTo most d e = (n : ℕ) × (n ≤ most) × TookTurns n d e

-- Desks of workers: each took as many turns as the answer says, at most this many; or took some, and one has seen that every job is retired
abbrev pub Worked : ℕ → List DeskView → Halt → List DeskView → Type 0
Worked turns old (halts.After n) new = (n ≤ turns) × Pairs (TookTurns n) old new
Worked turns old halts.AllRetired new = Pairs (TookUpTo turns) old new × Any (λ (e : DeskView). AllRetired e.plan e.front) new

-- how many of the turns are taken, or needn't be
abbrev pub taken : ℕ → Halt → ℕ
taken turns (halts.After n) = n
taken turns halts.AllRetired = turns

-- this many rounds of a worker's first desk, after none of which it may end: after each its job isn't retired, or it saw another that isn't
abbrev pub GoesOn : ℕ → DeskView → DeskView → Type 0
GoesOn zero d e = e ≡ d
GoesOn (suc n) d e = (m : DeskView) × (x : DeskView) × GoesOn n d m × TookTurns 1 m x × LookedOut x false e

-- a worker's first desk: as long as the worker goes on, its job isn't retired or it sees another that isn't; and the worker ends once it sees that all are
abbrev pub LooksOut : ℕ → Halt → DeskView → DeskView → Type 0
LooksOut turns (halts.After n) d e = GoesOn n d e
LooksOut turns halts.AllRetired d e =
    (n : ℕ) × (m : DeskView) × (x : DeskView) × (n < turns) × GoesOn n d m × TookTurns 1 m x × LookedOut x true e

-- the first is as R says of the first
abbrev pub AtFirst : (DeskView → DeskView → Type 0) → List DeskView → List DeskView → Type 0
AtFirst R [] new = Unit {0}
AtFirst R (d ∷ old) [] = Unit {0}
AtFirst R (d ∷ old) (e ∷ new) = R d e
