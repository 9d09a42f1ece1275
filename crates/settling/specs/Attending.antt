-- What is done for one edge of a job, for one job, and for one job after another.
use Rattle.std.specs.Prelude.{◌≡◌, ◌≢◌, ◌+◌, ◌==◌, ℕ, Bool, true, false, slice_set}
use Rattle.lab_plan.specs.LabPlan.{LabPlan, ends}
use Rattle.legal_steps.specs.declared.end.End.{End}
use Rattle.legal_steps.specs.declared.end.End.TheVariants.{Lower, Higher}
use Rattle.legal_steps.specs.State.{IsOwn, end_of}
use Rattle.interleaving.specs.World.{WorldView}
use Rattle.settling.specs.Left.{DueView, AreMarked, HasNothingAt, is_due, is_noted, only_at}
use Rattle.settling.specs.Resting.{DoesAlone}

-- a note for an end of the edge, or none
abbrev pub with_note : DueView → End → ℕ → Bool → DueView
with_note due Lower e note = record due { lower = slice_set due.lower e note }
with_note due Higher e note = record due { higher = slice_set due.higher e note }

-- job j is due, or isn't
abbrev pub with_due : DueView → ℕ → DueView
with_due due j = record due { jobs = slice_set due.jobs j true }

-- where it may have something to do, once it has at edge e: there only, if it had nothing to do or had there only
abbrev pub place : Bool → Bool → ℕ → ℕ
place false there e = e + 1
place true true e = e + 1
place true false e = 0

abbrev pub place_of : DueView → ℕ → ℕ → ℕ
place_of due j e = place (is_due due j) (only_at due j == e + 1) e

abbrev pub placed : DueView → ℕ → ℕ → DueView
placed due j e = record due { only = slice_set due.only j (place_of due j e) }

abbrev pub not_due : DueView → ℕ → DueView
not_due due j = record due { jobs = slice_set due.jobs j false }

-- both its jobs are due, and nothing is noted of the edge
abbrev pub woken_at : LabPlan → DueView → ℕ → DueView
woken_at plan due e = with_note (with_note (with_due (with_due (placed (placed due (ends plan e).0 e) (ends plan e).1 e) (ends plan e).0) (ends plan e).1)
    Lower e false) Higher e false

-- one of the job's edges. The job stays due, and it is noted that there is nothing to do for it there any more. If nothing was done, nobody else is due
-- now. All that was noted of other edges still is
pub record AttendsEdge (old : WorldView) (due : DueView) (j e n : ℕ) (new : WorldView) (due' : DueView) : Type 0 where
  pub alone : DoesAlone old n new
  pub marked : AreMarked new.plan new.state due'
  pub still_due : is_due due' j ≡ true
  pub noted : is_noted due' (end_of old.plan j e) e ≡ true
  pub kept : (end : End) (f : ℕ) → f ≢ e → is_noted due end f ≡ true → is_noted due' end f ≡ true
  pub only : only_at due j ≡ e + 1 → only_at due' j ≡ e + 1
  pub stays : n ≡ 0 → (k : ℕ) → is_due due k ≡ false → is_due due' k ≡ false

-- all edges of the job where it may have something to do. The job stays due, and has nothing to do at any of its edges any more
pub record AttendsEdges (old : WorldView) (due : DueView) (j n : ℕ) (new : WorldView) (due' : DueView) : Type 0 where
  pub alone : DoesAlone old n new
  pub marked : AreMarked new.plan new.state due'
  pub still_due : is_due due' j ≡ true
  pub nothing : (e : ℕ) → IsOwn new.plan j e → HasNothingAt new.plan new.state j e
  pub stays : n ≡ 0 → (k : ℕ) → is_due due k ≡ false → is_due due' k ≡ false

-- some jobs. If nothing was done, none of them is due any more, and no other is that wasn't
pub record Attends (Asked : ℕ → Type 0) (old : WorldView) (due : DueView) (n : ℕ) (new : WorldView) (due' : DueView) : Type 0 where
  pub alone : DoesAlone old n new
  pub marked : AreMarked new.plan new.state due'
  pub unmarked : n ≡ 0 → (k : ℕ) → Asked k → is_due due' k ≡ false
  pub stays : n ≡ 0 → (k : ℕ) → is_due due k ≡ false → is_due due' k ≡ false
