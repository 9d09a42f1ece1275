-- For readers: states without a way on.
use Rattle.std.specs.Prelude.{◌≡◌, ◌≢◌, ℕ}
use Rattle.lab_plan.specs.LabPlan.{LabPlan}
use Rattle.legal_steps.specs.declared.event.Event.{Event}
use Rattle.legal_steps.specs.declared.event.Event.TheVariants.{Look, Glance, Withdraw}
use Rattle.legal_steps.specs.declared.phase.Drinking.TheVariants.{Retired}
use Rattle.legal_steps.specs.State.{State, IsOwn, edge, dining, drinking, fork_mark, bottle_marks, end_of, bottles_at}
use Rattle.legal_steps.specs.Legal.{IsJob, May, after, fork_mark_seen}

-- every job of the plan is retired
abbrev pub AllRetired : LabPlan → State → Type 0
AllRetired plan s = (j : ℕ) → IsJob plan j → drinking s j ≡ Retired

abbrev pub IsNoWithdraw : Event → Type 0
IsNoWithdraw (Withdraw j) = ⊥
IsNoWithdraw _ = Unit {0}

-- a way on: a legal event, not Withdraw, that changes the state
pub record IsWayOn (plan : LabPlan) (s : State) (event : Event) : Type 0 where
  pub may : May plan s event
  pub no_withdraw : IsNoWithdraw event
  pub changes : after plan s event ≢ s

-- stuck: no event but Withdraw changes anything
abbrev pub IsStuck : LabPlan → State → Type 0
IsStuck plan s = (event : Event) → ¬ IsWayOn plan s event

-- an event that is no look, no glance and no Withdraw
abbrev pub IsMove : Event → Type 0
IsMove (Look j e seen) = ⊥
IsMove (Glance j other seen) = ⊥
IsMove (Withdraw j) = ⊥
IsMove _ = Unit {0}

-- the marks of job j for edge e are what a look would set
pub record IsUpToDate (plan : LabPlan) (s : State) (j e : ℕ) : Type 0 where
  pub fork : fork_mark s j e ≡ fork_mark_seen (dining s j) (end_of plan j e) (edge s e)
  pub bottles : bottle_marks s j e ≡ bottles_at plan e (end_of plan j e) (edge s e)

-- quiet: every mark is what a look would set, and nothing else is legal
pub record IsQuiet (plan : LabPlan) (s : State) : Type 0 where
  pub up_to_date : (j e : ℕ) → IsOwn plan j e → IsUpToDate plan s j e
  pub no_move : (event : Event) → IsMove event → ¬ May plan s event
