-- What holds after each beginning of a legal list holds after each history.
use Rattle.std.proofs.Common.{length, subst}
use Rattle.std.proofs.Math.Seq.{take-length}
use Rattle.lab_plan.specs.LabPlan.{LabPlan}
use Rattle.legal_steps.specs.State.{State}
use Rattle.legal_steps.specs.Run.{after_all}
use Rattle.legal_steps.specs.Opening.{the_opening}
use Rattle.legal_steps.specs.Fitting.{Fits}
use Rattle.legal_steps.specs.Holding.{AreTruthful, IsExclusive}
use Rattle.legal_steps.specs.Precedence.{IsAcyclic}
use Rattle.legal_steps.specs.Laws.{Always}
use Rattle.legal_steps.proofs.ReachedLaws.{stays_within_plan, marks_are_truthful, has_one_holder, stays_acyclic, the_opening_is_acyclic}
use Rattle.turns.specs.Locality.{AfterEvery, FitTheirWords}
use Rattle.turns.proofs.Few.{phase_fits}

whole : (P : LabPlan → State → Type 0) → Always P → AfterEvery P
whole P always plan h is_plan legal =
    subst (λ l. P plan (after_all plan (the_opening plan) l)) (take-length h)
    (always plan (the_opening plan) h (length h) is_plan (the_opening_is_acyclic plan).0 legal)

pub fits_after_every : AfterEvery Fits
fits_after_every = whole Fits stays_within_plan

pub truthful_after_every : AfterEvery AreTruthful
truthful_after_every = whole AreTruthful marks_are_truthful

pub exclusive_after_every : AfterEvery IsExclusive
exclusive_after_every = whole IsExclusive has_one_holder

pub acyclic_after_every : AfterEvery IsAcyclic
acyclic_after_every plan h is_plan legal =
    let opens = the_opening_is_acyclic plan in
    subst (λ l. IsAcyclic plan (after_all plan (the_opening plan) l)) (take-length h)
    (stays_acyclic plan (the_opening plan) h (length h) is_plan opens.0 opens.1 legal)

pub have_their_words : AfterEvery FitTheirWords
have_their_words plan h is_plan legal =
    let fits = fits_after_every plan h is_plan legal in
    record {
      edges_fit = λ e inside. record { bottles_fit = fits.bottles_fit e inside; tokens_fit = fits.tokens_fit e inside };
      phases_fit = λ j job. phase_fits plan _ j is_plan fits job;
    }
