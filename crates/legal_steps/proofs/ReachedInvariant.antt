-- What holds in every state that is reached from an opening state.
use Rattle.std.proofs.Common.{List, [], ◌∷◌}
use Rattle.lab_plan.specs.LabPlan.{LabPlan}
use Rattle.legal_steps.specs.declared.event.Event.{Event}
use Rattle.legal_steps.specs.State.{State}
use Rattle.legal_steps.specs.Fitting.{Fits}
use Rattle.legal_steps.specs.Legal.{May, after}
use Rattle.legal_steps.specs.Run.{IsLegalFrom, after_all}
use Rattle.legal_steps.specs.Holding.{AreTruthful}
use Rattle.legal_steps.specs.Opening.{IsOpening}
use Rattle.legal_steps.specs.Precedence.{IsAcyclic}
use Rattle.legal_steps.proofs.FitsLaw.{fits_after}
use Rattle.legal_steps.proofs.ForkLaw.{HasForks, has_forks_after}
use Rattle.legal_steps.proofs.BottleLaw.{IsServed, served_after}
use Rattle.legal_steps.proofs.AcyclicLaw.{acyclic_after}
use Rattle.legal_steps.proofs.OpeningLemmas.{fits_opening, has_forks_opening, served_opening}

-- the state fits its plan, its marks are true, and those who eat or drink have what they need
pub record IsSound (plan : LabPlan) (s : State) : Type 0 where
  pub fits : Fits plan s
  pub forks : HasForks plan s
  pub served : IsServed plan s

pub sound_opening : (plan : LabPlan) (s : State) → IsOpening plan s → IsSound plan s
sound_opening plan s h = record { fits = fits_opening plan s h; forks = has_forks_opening plan s h; served = served_opening plan s h }

pub sound_after : (plan : LabPlan) (s : State) (event : Event) → IsSound plan s → May plan s event → IsSound plan (after plan s event)
sound_after plan s event h may = record {
  fits = fits_after plan s event h.fits may;
  forks = has_forks_after plan s event h.fits h.forks may;
  served = served_after plan s event h.fits h.served may;
}

pub sound_after_all : (plan : LabPlan) (s : State) (events : List Event) → IsSound plan s → IsLegalFrom plan s events → IsSound plan (after_all plan s events)
sound_after_all plan s [] h legal = h
sound_after_all plan s (event ∷ events) h legal = sound_after_all plan (after plan s event) events (sound_after plan s event h legal.0) legal.1

pub truthful : (plan : LabPlan) (s : State) → IsSound plan s → AreTruthful plan s
truthful plan s h = record {
  fork_here = h.forks.marked;
  dirty = λ j e own set eats. h.forks.soiled j e own eats set;
  bottle_here = h.served.marked;
}

pub acyclic_after_all : (plan : LabPlan) (s : State) (events : List Event) → IsSound plan s
    → IsAcyclic plan s → IsLegalFrom plan s events → IsAcyclic plan (after_all plan s events)
acyclic_after_all plan s [] sound h legal = h
acyclic_after_all plan s (event ∷ events) sound h legal =
    acyclic_after_all plan (after plan s event) events (sound_after plan s event sound legal.0)
    (acyclic_after plan s event sound.fits sound.forks h legal.0) legal.1
