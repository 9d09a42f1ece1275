-- Where a part of its guard is false, the event isn't legal.
use Rattle.std.proofs.Common.{◌≡◌, arith, inl, inr, sym, ◌∙◌, Option, None, Some}
use Rattle.std.specs.Prelude.{IsSome, IfSome}
use Rattle.std.proofs.lemmas.Bool.{false≢true}
use Rattle.lab_plan.specs.LabPlan.{LabPlan}
use Rattle.legal_steps.specs.declared.event.Event.{Event}
use Rattle.legal_steps.specs.declared.event.Event.TheVariants.{Look, AskFork, GiveFork, Soil, AskBottles, GiveBottles, Thirst, Hunger, Sit, Leave, Drink, Reach, Act, Quit, Retire, Glance, Withdraw}
use Rattle.legal_steps.specs.State.{State}
use Rattle.legal_steps.specs.Legal.{May}
use Rattle.refused_steps.specs.declared.cause.Cause.{Cause}
use Rattle.refused_steps.specs.declared.cause.Cause.TheVariants.{NotJob, NotOwn, SeesElse, OtherNotJob, Itself, NotThinking, NotHungry, NotEating, Eats, NotTranquil, NotThirsty, Thirsts, NotDrinking, NotReaching, ForkHere, ForkThere, ForkClean, ForkDirty, TokenThere, UnmarkedAway, UnmarkedClaimed, UnmarkedClean, UnmarkedUnseen, NoBottle, NotOfEdge, NotNeeded, BottleHere, BottleThere, BottleTokenThere, KeptInSession, KeptWithFork, MissingAway, MissingUnseen, NoSessionLeft, SessionLeft, NoCommandLeft, CommandLeft, NoPatience}
use Rattle.refused_steps.specs.Causes.{Fails, Explains}

no_none : {A : Type 0} (x : Option A) → x ≡ None → IsSome x → ⊥
no_none None is some = false≢true some
no_none (Some x) is some = cc

pub refused : (plan : LabPlan) (s : State) (event : Event) (cause : Cause) → Fails plan s event cause → May plan s event → ⊥
refused plan s (Look j e seen) NotOwn f may = f may.0
refused plan s (Look j e seen) SeesElse f may = f may.1
refused plan s (AskFork j e) NotOwn f may = f may.0
refused plan s (AskFork j e) NotHungry f may = f may.1
refused plan s (AskFork j e) ForkHere f may = may.2 f
refused plan s (AskFork j e) TokenThere f may = f may.3
refused plan s (GiveFork j e) NotOwn f may = f may.0
refused plan s (GiveFork j e) Eats f may = may.1 f
refused plan s (GiveFork j e) ForkThere f may = f may.2
refused plan s (GiveFork j e) ForkClean f may = false≢true (sym f ∙ may.3)
refused plan s (GiveFork j e) TokenThere f may = f may.4
refused plan s (Soil j e) NotOwn f may = f may.0
refused plan s (Soil j e) NotEating f may = f may.1
refused plan s (Soil j e) ForkThere f may = f may.2
refused plan s (Soil j e) ForkDirty f may = false≢true (sym may.3 ∙ f)
refused plan s (AskBottles j e set) NotOwn f may = f may.0
refused plan s (AskBottles j e set) NotThirsty f may = f may.1
refused plan s (AskBottles j e set) NoBottle f may = may.2.not_empty f
refused plan s (AskBottles j e set) NotOfEdge f may = f may.2.of_edge
refused plan s (AskBottles j e set) (NotNeeded k) f may = f.1 (may.3 k f.0.has).needed
refused plan s (AskBottles j e set) (BottleHere k) f may = (may.3 k f.0.has).bottle_there f.1
refused plan s (AskBottles j e set) (BottleTokenThere k) f may = f.1 (may.3 k f.0.has).token_here
refused plan s (GiveBottles j e set) NotOwn f may = f may.0
refused plan s (GiveBottles j e set) NoBottle f may = may.1.not_empty f
refused plan s (GiveBottles j e set) NotOfEdge f may = f may.1.of_edge
refused plan s (GiveBottles j e set) (BottleThere k) f may = f.1 (may.2 k f.0.has).bottle_here
refused plan s (GiveBottles j e set) (BottleTokenThere k) f may = f.1 (may.2 k f.0.has).token_here
refused plan s (GiveBottles j e set) (KeptInSession k) f may = (may.2 k f.0.has).not_kept (f.1, inl f.2)
refused plan s (GiveBottles j e set) (KeptWithFork k) f may = (may.2 k f.0.has).not_kept (f.1, inr f.2)
refused plan s (Thirst j) NotJob f may = f may.0
refused plan s (Thirst j) NotTranquil f may = f may.1
refused plan s (Thirst j) Eats f may = may.2 f
refused plan s (Thirst j) NoSessionLeft f may = omega (arith, f, may.3)
refused plan s (Hunger j) NotJob f may = f may.0
refused plan s (Hunger j) NotThinking f may = f may.1
refused plan s (Hunger j) NotThirsty f may = f may.2
refused plan s (Sit j) NotJob f may = f may.0
refused plan s (Sit j) NotHungry f may = f may.1
refused plan s (Sit j) (UnmarkedAway e) f may = false≢true (sym f.0.no_mark ∙ may.2 e f.0.own)
refused plan s (Sit j) (UnmarkedClaimed e) f may = false≢true (sym f.0.no_mark ∙ may.2 e f.0.own)
refused plan s (Sit j) (UnmarkedUnseen e) f may = false≢true (sym f.0.no_mark ∙ may.2 e f.0.own)
refused plan s (Leave j) NotJob f may = f may.0
refused plan s (Leave j) NotEating f may = f may.1
refused plan s (Leave j) Thirsts f may = may.2 f
refused plan s (Leave j) (UnmarkedAway e) f may = false≢true (sym f.0.no_mark ∙ may.3 e f.0.own)
refused plan s (Leave j) (UnmarkedClean e) f may = false≢true (sym f.0.no_mark ∙ may.3 e f.0.own)
refused plan s (Leave j) (UnmarkedUnseen e) f may = false≢true (sym f.0.no_mark ∙ may.3 e f.0.own)
refused plan s (Drink j) NotJob f may = f may.0
refused plan s (Drink j) NotThirsty f may = f may.1
refused plan s (Drink j) (MissingAway e k) f may = f.0.no_mark (may.2 e f.0.own k f.0.is_bottle f.0.needed)
refused plan s (Drink j) (MissingUnseen e k) f may = f.0.no_mark (may.2 e f.0.own k f.0.is_bottle f.0.needed)
refused plan s (Reach j) NotJob f may = f may.0
refused plan s (Reach j) NotDrinking f may = f may.1
refused plan s (Reach j) NoCommandLeft f may = omega (arith, f, may.2)
refused plan s (Act j) NotJob f may = f may.0
refused plan s (Act j) NotReaching f may = f may.1
refused plan s (Quit j) NotJob f may = f may.0
refused plan s (Quit j) NotDrinking f may = f may.1
refused plan s (Quit j) CommandLeft f may = omega (arith, f, may.2)
refused plan s (Retire j) NotJob f may = f may.0
refused plan s (Retire j) NotThinking f may = f may.1
refused plan s (Retire j) NotTranquil f may = f may.2
refused plan s (Retire j) SessionLeft f may = omega (arith, f, may.3)
refused plan s (Glance j other seen) NotJob f may = f may.0
refused plan s (Glance j other seen) OtherNotJob f may = f may.1
refused plan s (Glance j other seen) Itself f may = may.2 f
refused plan s (Glance j other seen) SeesElse f may = f may.3
refused plan s (Withdraw j) NotJob f may = f may.0
refused plan s (Withdraw j) NotThirsty f may = f may.1
refused plan s (Withdraw j) NoPatience f may = no_none _ f may.2
refused plan s event cause f may = f

-- so whoever is told of a cause knows that it isn't
pub told_refused : (plan : LabPlan) (s : State) (event : Event) (answer : Option Cause) → Explains plan s event answer → IfSome answer (λ _. ¬ May plan s event)
told_refused plan s event None legal = tt
told_refused plan s event (Some cause) fails = refused plan s event cause fails
