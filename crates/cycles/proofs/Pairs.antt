-- Pairs by their places.
use Rattle.std.proofs.Common.{ℕ, ◌<◌, List, subst}
use Rattle.cycles.specs.Cycles.{IsAmong, AreBelow}

-- both jobs of a pair are below the number
pub IsAmong-below : (pairs : List (ℕ × ℕ)) (n job next : ℕ) → AreBelow n pairs → IsAmong pairs job next → (job < n) × (next < n)
IsAmong-below pairs n job next b p = subst (λ (pair : ℕ × ℕ). (pair.0 < n) × (pair.1 < n)) p.2 (b p.0 (job, next) p.1)
