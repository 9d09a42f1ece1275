-- For readers: which bottles of an edge a session needs.
use Rattle.std.specs.Prelude.{◌≡◌, ◌↔◌, ℕ, ◌^◌, ◌<◌, true, length, slice_index_or}
use Rattle.std.specs.Int.{bit_at}
use Rattle.lab_plan.specs.LabPlan.{LabPlan, bottles, session_names}

-- the set has just the bottles of the edge whose instruments session s of job j names: bit k stands for bottle k
pub record AreNamed (plan : LabPlan) (j s e set : ℕ) : Type 0 where
  pub of_edge : set < 2 ^ length (bottles plan e)
  pub just : (k : ℕ) → k < length (bottles plan e) → (bit_at set k ≡ 1) ↔ (session_names plan j s (slice_index_or (bottles plan e) k 0) ≡ true)
