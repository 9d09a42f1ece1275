-- For readers: what an owner may rely on after each call.
use Rattle.std.specs.Prelude.{◌≡◌, ◌⊎◌, ℕ, zero, suc, ◌≤◌, Bool, false, List, length}
use Rattle.legal_steps.specs.declared.event.Event.TheVariants.{Quit}
use Rattle.legal_steps.specs.declared.phase.Drinking.TheVariants as drinks
use Rattle.legal_steps.specs.State.{IsDrinking, IsInSession, phase, drinking}
use Rattle.legal_steps.specs.Legal.{May}
use Rattle.edge_rule.specs.DeskView.{BenchView, DeskView, Owns, known, fresh_desks}
use Rattle.session_layer.specs.declared.turning.Turned.{Turned}
use Rattle.session_layer.specs.Turn.{Took}
use Rattle.session_layer.specs.Grown.{TookTurns}
use Rattle.session_layer.specs.Retired.{Glanced}
use Rattle.desk_user.specs.declared.until.Until.{Until}
use Rattle.desk_user.specs.declared.until.Until.TheVariants.{Holds, CommandsDone, IsOut, Retired}

-- the desks that a bench opens with
abbrev pub opened : BenchView → List DeskView
opened b = fresh_desks b.table b.plan (length b.plan.jobs)

-- the desk is still of this bench, and of the same job
abbrev pub Keeps : BenchView → DeskView → DeskView → Type 0
Keeps b d e = Owns b e × (e.job ≡ d.job)

-- the desk took at most this many turns, and did nothing else but glance at other jobs
abbrev pub TookUpTo : ℕ → DeskView → DeskView → Type 0
TookUpTo most d e = (n : ℕ) × (n ≤ most) × TookTurns n d e

-- the job has come so far
abbrev pub IsAt : Until → DeskView → Type 0
IsAt Holds d = IsDrinking (phase (known d) d.job)
IsAt CommandsDone d = May d.plan (known d) (Quit d.job)
IsAt IsOut d = IsInSession (drinking (known d) d.job) → ⊥
IsAt Retired d = drinking (known d) d.job ≡ drinks.Retired

-- the desk took this many turns, one after another, and before none of them had its job come so far
abbrev pub TookBefore : Until → ℕ → DeskView → DeskView → Type 0
TookBefore until zero d e = e ≡ d
TookBefore until (suc n) d e = (m : DeskView) × TookBefore until n d m × (IsAt until m → ⊥) × (r : Turned) × Took m r e

-- the desk took turns until its job had come so far, at most this many, and all of them if the answer is no
abbrev pub TookUntil : Until → ℕ → DeskView → Bool → DeskView → Type 0
TookUntil until most d r e = (n : ℕ) × (n ≤ most) × TookBefore until n d e × (r ≡ false → n ≡ most)

-- the desk looked whether all jobs are retired: at its own job first, and if that is retired, at all others
abbrev pub Looked : DeskView → Bool → DeskView → Type 0
Looked d r e = ((IsAt Retired d → ⊥) × (r ≡ false) × (e ≡ d)) ⊎ (IsAt Retired d × Glanced d r e)

-- the desk took this many turns, one after another, and before each it looked and did not see all jobs retired
abbrev pub TookBeforeAll : ℕ → DeskView → DeskView → Type 0
TookBeforeAll zero d e = e ≡ d
TookBeforeAll (suc n) d e = (m : DeskView) × TookBeforeAll n d m × (k : DeskView) × Looked m false k × (r : Turned) × Took k r e

-- the desk took turns until it saw all jobs retired, at most this many, and all of them if the answer is no
abbrev pub TookUntilAll : ℕ → DeskView → Bool → DeskView → Type 0
TookUntilAll most d r e = (n : ℕ) × (n ≤ most) × (m : DeskView) × TookBeforeAll n d m × Looked m r e × (r ≡ false → n ≡ most)
