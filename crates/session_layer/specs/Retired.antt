-- Whether all jobs are retired, and how one desk finds out.
use Rattle.std.specs.Prelude.{◌≡◌, ℕ, zero, suc, Bool, true, false, ◌&&◌, ◌==◌, if◌then◌else◌, List, [], ◌∷◌, ◌++◌, length, map}
use Rattle.legal_steps.specs.declared.event.Event.{Event}
use Rattle.legal_steps.specs.declared.event.Event.TheVariants.{Glance}
use Rattle.legal_steps.specs.declared.phase.Drinking.{Drinking}
use Rattle.legal_steps.specs.declared.phase.Drinking.TheVariants.{Tranquil, Thirsty, Drinking as Drinks, Reaching, Retired}
use Rattle.legal_steps.specs.declared.phase.JobState.{JobState}
use Rattle.legal_steps.specs.State.{drinking}
use Rattle.turns.specs.AtTheEnd.{AllRetired}
use Rattle.edge_rule.specs.DeskView.{DeskView, Adds, known}
use Rattle.session_layer.specs.Grown.{Grew}

abbrev pub has_retired : Drinking → Bool
has_retired Retired = true
has_retired Tranquil = false
has_retired Thirsty = false
has_retired Drinks = false
has_retired Reaching = false

-- the desk's own job is retired
abbrev pub is_retired : DeskView → Bool
is_retired d = has_retired (drinking (known d) d.job)

-- the jobs below n but j, in ascending order
abbrev pub other_jobs : ℕ → ℕ → List ℕ
other_jobs j zero = []
other_jobs j (suc n) = other_jobs j n ++ (if n == j then [] else n ∷ [])

-- a glance of job j at each of these jobs, with the phase that it saw
abbrev pub glances : ℕ → List (ℕ × JobState) → List Event
glances j [] = []
glances j (s ∷ saw) = Glance j s.0 s.1 ∷ glances j saw

-- each of these phases is that of a retired job
abbrev pub all_seen_retired : List (ℕ × JobState) → Bool
all_seen_retired [] = true
all_seen_retired (s ∷ saw) = has_retired s.1.drinking && all_seen_retired saw

-- one glance at another job, which may have seen it retired
pub record Sees (d : DeskView) (other : ℕ) (r : Bool) (e : DeskView) : Type 0 where
  pub seen : JobState
  pub says : r ≡ has_retired seen.drinking
  pub adds : Adds d (Glance d.job other seen ∷ []) e

-- The desk glanced at every other job, in ascending order. It answers true exactly if it is retired and each glance saw a retired job; then all are, in the
-- history that it has seen
pub record Glanced (d : DeskView) (r : Bool) (e : DeskView) : Type 0 where
  pub saw : List (ℕ × JobState)
  pub each : map (λ (s : ℕ × JobState). s.0) saw ≡ other_jobs d.job (length d.plan.jobs)
  pub grew : Grew d (glances d.job saw) e
  pub clock : e.clock ≡ d.clock
  pub says : r ≡ (is_retired d && all_seen_retired saw)
  pub done : r ≡ true → AllRetired e.plan e.front
