-- The laws, each as it is stated.
use Rattle.std.proofs.Common.{◌≡◌, ◌⊎◌, ℕ, ◌<◌, length, take, List, arith, refl, sym, subst, inl, inr}
use Rattle.lab_plan.specs.LabPlan.{LabPlan, edges, ends}
use Rattle.lab_plan.proofs.Edges.{ends_are_pair}
use Rattle.legal_steps.specs.declared.end.End.{End}
use Rattle.legal_steps.specs.declared.end.End.TheVariants.{Lower, Higher}
use Rattle.legal_steps.specs.declared.event.Event.{Event}
use Rattle.legal_steps.specs.State.{State, job_at_end}
use Rattle.legal_steps.specs.Opening.{IsOpening}
use Rattle.legal_steps.specs.Run.{IsLegalFrom, after_all}
use Rattle.legal_steps.specs.Things.{Thing, Fork, Token, Bottle, BottleToken, thing_end, IsThingOf, StandsAtOne}
use Rattle.legal_steps.specs.Laws.{StaysWithinPlan, MarksAreTruthful, HasOneHolder, HasOnePlace, StaysAcyclic, TheOpeningIsAcyclic, OpeningsAreChosen}
use Rattle.legal_steps.proofs.RunLemmas.{legal_take}
use Rattle.legal_steps.proofs.ExclusionLaw.{exclusive}
use Rattle.legal_steps.proofs.ReachedInvariant.{IsSound, sound_opening, sound_after_all, truthful, acyclic_after_all}
use Rattle.legal_steps.proofs.OpeningChosen.{opening_is_chosen}
use Rattle.legal_steps.proofs.OpeningChoices.{opening_of_choices, the_opening_opens, the_opening_acyclic}

sound_always : (plan : LabPlan) (opening : State) (events : List Event) (n : ℕ) → IsOpening plan opening
    → IsLegalFrom plan opening events → IsSound plan (after_all plan opening (take n events))
sound_always plan opening events n opens legal =
    sound_after_all plan opening (take n events) (sound_opening plan opening opens) (legal_take plan opening events n legal)

pub stays_within_plan : StaysWithinPlan
stays_within_plan plan opening events n is_plan opens legal = (sound_always plan opening events n opens legal).fits

pub marks_are_truthful : MarksAreTruthful
marks_are_truthful plan opening events n is_plan opens legal = truthful plan _ (sound_always plan opening events n opens legal)

pub has_one_holder : HasOneHolder
has_one_holder plan opening events n is_plan opens legal = exclusive plan _ is_plan (sound_always plan opening events n opens legal).served

-- the two jobs of an edge are two
at_one : (plan : LabPlan) (e : ℕ) (x : End) → e < length (edges plan)
    → (((ends plan e).0 ≡ job_at_end plan e x) × ¬ ((ends plan e).1 ≡ job_at_end plan e x))
    ⊎ (¬ ((ends plan e).0 ≡ job_at_end plan e x) × ((ends plan e).1 ≡ job_at_end plan e x))
at_one plan e Lower here = let pair = ends_are_pair plan e here in inl (refl, λ same. omega (arith, pair, same))
at_one plan e Higher here = let pair = ends_are_pair plan e here in inr (λ same. omega (arith, pair, same), refl)

pub stands_at_one : (plan : LabPlan) (s : State) (e : ℕ) (thing : Thing) → IsThingOf plan e thing → StandsAtOne plan s e thing
stands_at_one plan s e Fork own = at_one plan e (thing_end s e Fork) own
stands_at_one plan s e Token own = at_one plan e (thing_end s e Token) own
stands_at_one plan s e (Bottle k) own = at_one plan e (thing_end s e (Bottle k)) own.0
stands_at_one plan s e (BottleToken k) own = at_one plan e (thing_end s e (BottleToken k)) own.0

pub has_one_place : HasOnePlace
has_one_place plan opening events n is_plan opens legal e thing own = stands_at_one plan (after_all plan opening (take n events)) e thing own

pub stays_acyclic : StaysAcyclic
stays_acyclic plan opening events n is_plan opens acyclic legal =
    acyclic_after_all plan opening (take n events) (sound_opening plan opening opens) acyclic (legal_take plan opening events n legal)

pub the_opening_is_acyclic : TheOpeningIsAcyclic
the_opening_is_acyclic plan = (the_opening_opens plan, the_opening_acyclic plan)

pub openings_are_chosen : OpeningsAreChosen
openings_are_chosen plan s = (opening_is_chosen plan s, λ w. subst (IsOpening plan) (sym w.2) (opening_of_choices plan w.0 w.1))
