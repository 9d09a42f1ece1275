-- No reached state is stuck, and a quiet one has all jobs retired.
use Rattle.std.proofs.Common.{◌≡◌, ◌⊎◌, ℕ, take, Bool, true, false, refl, sym, inl, inr}
use Rattle.std.proofs.lemmas.Bool.{cases_eq, false≢true}
use Rattle.lab_plan.specs.LabPlan.{LabPlan}
use Rattle.legal_steps.specs.State.{State, edge, dining, fork_mark, bottle_marks, end_of, bottles_at}
use Rattle.legal_steps.specs.Fitting.{Fits}
use Rattle.legal_steps.specs.Legal.{fork_mark_seen}
use Rattle.legal_steps.specs.Run.{after_all}
use Rattle.legal_steps.proofs.RunLemmas.{legal_take}
use Rattle.legal_steps.proofs.ReachedInvariant.{sound_opening, sound_after_all, acyclic_after_all}
use Rattle.overtaking.specs.Stuck.{IsStuck, IsQuiet, IsUpToDate}
use Rattle.overtaking.specs.Laws.{IsNeverStuck, QuietIsRetired}
use Rattle.overtaking.proofs.Wanted.{wanted_opening, wanted_after_all}
use Rattle.overtaking.proofs.Moves.{move_leads_on, look_leads_on}
use Rattle.overtaking.proofs.Quiet.{all_retired}

same_or_not : (a b : Bool) → (a ≡ b) ⊎ (a ≡ b → ⊥)
same_or_not true true = inl refl
same_or_not false false = inl refl
same_or_not true false = inr (λ h. false≢true (sym h))
same_or_not false true = inr false≢true

-- marks are up to date or not
up_to_date_or_not : (plan : LabPlan) (s : State) (j e : ℕ) → IsUpToDate plan s j e ⊎ ¬ IsUpToDate plan s j e
up_to_date_or_not plan s j e = elim (same_or_not (fork_mark s j e) (fork_mark_seen (dining s j) (end_of plan j e) (edge s e))) [
  | inr other ↦ inr (λ h. other h.fork)
  | inl fork ↦ elim (cases_eq (bottle_marks s j e) (bottles_at plan e (end_of plan j e) (edge s e))) [
    | inr other ↦ inr (λ h. other h.bottles)
    | inl bottles ↦ inl (record { fork = fork; bottles = bottles })
  ]
]

pub stuck_is_quiet : (plan : LabPlan) (s : State) → Fits plan s → IsStuck plan s → IsQuiet plan s
stuck_is_quiet plan s fit stuck = record {
  up_to_date = λ j e own. elim (up_to_date_or_not plan s j e) [ inl h ↦ h | inr stale ↦ absurd (stuck _ (look_leads_on plan s j e fit own stale)) ];
  no_move = λ event move may. stuck event (move_leads_on plan s event fit move may);
}

pub quiet_is_retired : QuietIsRetired
quiet_is_retired plan opening events n opens acyclic legal quiet =
    let sound = sound_opening plan opening opens in
    let begun = legal_take plan opening events n legal in
    all_retired plan (after_all plan opening (take n events)) (sound_after_all plan opening (take n events) sound begun)
    (wanted_after_all plan opening (take n events) sound (wanted_opening plan opening opens) begun) quiet
    (acyclic_after_all plan opening (take n events) sound acyclic begun)

pub never_stuck : IsNeverStuck
never_stuck plan opening events n opens acyclic legal stuck =
    let fit : Fits plan (after_all plan opening (take n events)) =
    (sound_after_all plan opening (take n events) (sound_opening plan opening opens) (legal_take plan opening events n legal)).fits in
    quiet_is_retired plan opening events n opens acyclic legal (stuck_is_quiet plan (after_all plan opening (take n events)) fit stuck)
