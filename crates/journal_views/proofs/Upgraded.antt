-- Nothing that an event reads of a plan depends on the version of its script.
use Rattle.std.proofs.Common.{◌≡◌, ℕ, List, [], ◌∷◌, refl, sym, ap, ◌∙◌, subst, inr}
use Rattle.lab_plan.specs.LabPlan.{LabPlan, edges, common}
use Rattle.lab_plan.specs.IsPlan.{IsPlan}
use Rattle.legal_steps.specs.declared.event.Event.{Event}
use Rattle.legal_steps.specs.declared.event.Event.TheVariants.{Look, AskFork, GiveFork, Soil, AskBottles, GiveBottles, Thirst, Hunger, Sit, Leave, Drink, Reach, Act, Quit, Retire, Glance, Withdraw}
use Rattle.legal_steps.specs.declared.event.Step.{Step}
use Rattle.legal_steps.specs.State.{State, IsOwn, bottles_at}
use Rattle.legal_steps.specs.Legal.{May, MayAskBottle, MayGiveBottle, Needs, IsBottleSet, instrument_of, after, next_entry}
use Rattle.legal_steps.specs.Opening.{the_opening}
use Rattle.legal_steps.specs.Run.{IsLegalFrom}
use Rattle.legal_steps.specs.Steps.{event_of, step_events}
use Rattle.journal_views.specs.Journals.{upgraded}

pub opens_alike : (plan : LabPlan) → the_opening (upgraded plan) ≡ the_opening plan
unfolding edges common
opens_alike plan = refl

needs_too : (plan : LabPlan) (s : State) (j i : ℕ) → Needs plan s j i → Needs (upgraded plan) s j i
needs_too plan s j i needs = record { in_session = needs.in_session; named = needs.named }

needs_back : (plan : LabPlan) (s : State) (j i : ℕ) → Needs (upgraded plan) s j i → Needs plan s j i
needs_back plan s j i needs = record { in_session = needs.in_session; named = needs.named }

own_too : (plan : LabPlan) (j e : ℕ) → IsOwn plan j e → IsOwn (upgraded plan) j e
unfolding edges
own_too plan j e own = record { is_edge = own.is_edge; at_end = own.at_end }

own_back : (plan : LabPlan) (j e : ℕ) → IsOwn (upgraded plan) j e → IsOwn plan j e
unfolding edges
own_back plan j e own = record { is_edge = own.is_edge; at_end = own.at_end }

set_too : (plan : LabPlan) (e set : ℕ) → IsBottleSet plan e set → IsBottleSet (upgraded plan) e set
unfolding edges common
set_too plan e set is = record { not_empty = is.not_empty; of_edge = is.of_edge }

ask_too : (plan : LabPlan) (s : State) (j e k : ℕ) → MayAskBottle plan s j e k → MayAskBottle (upgraded plan) s j e k
unfolding edges common
ask_too plan s j e k may =
    record { needed = needs_too plan s j (instrument_of plan e k) may.needed; bottle_there = may.bottle_there; token_here = may.token_here }

give_too : (plan : LabPlan) (s : State) (j e k : ℕ) → MayGiveBottle plan s j e k → MayGiveBottle (upgraded plan) s j e k
unfolding edges common
give_too plan s j e k may = record {
  bottle_here = may.bottle_here;
  token_here = may.token_here;
  not_kept = λ kept. may.not_kept (needs_back plan s j (instrument_of plan e k) kept.0, kept.1);
}

may_too : (plan : LabPlan) (s : State) (event : Event) → May plan s event → May (upgraded plan) s event
unfolding edges common
may_too plan s (Look j e seen) may = (own_too plan j e may.0, may.1)
may_too plan s (AskFork j e) may = (own_too plan j e may.0, may.1, may.2, may.3)
may_too plan s (GiveFork j e) may = (own_too plan j e may.0, may.1, may.2, may.3, may.4)
may_too plan s (Soil j e) may = (own_too plan j e may.0, may.1, may.2, may.3)
may_too plan s (AskBottles j e set) may = (own_too plan j e may.0, may.1, set_too plan e set may.2, λ k has. ask_too plan s j e k (may.3 k has))
may_too plan s (GiveBottles j e set) may = (own_too plan j e may.0, set_too plan e set may.1, λ k has. give_too plan s j e k (may.2 k has))
may_too plan s (Thirst j) may = may
may_too plan s (Hunger j) may = may
may_too plan s (Sit j) may = (may.0, may.1, λ e own. may.2 e (own_back plan j e own))
may_too plan s (Leave j) may = (may.0, may.1, may.2, λ e own. may.3 e (own_back plan j e own))
may_too plan s (Drink j) may =
    (may.0, may.1, λ e own k inside needs. may.2 e (own_back plan j e own) k inside (needs_back plan s j (instrument_of plan e k) needs))
may_too plan s (Reach j) may = may
may_too plan s (Act j) may = may
may_too plan s (Quit j) may = may
may_too plan s (Retire j) may = may
may_too plan s (Glance j other seen) may = may
may_too plan s (Withdraw j) may = may

same_after : (plan : LabPlan) (s : State) (event : Event) → after (upgraded plan) s event ≡ after plan s event
unfolding edges common bottles_at next_entry
same_after plan s (Look j e seen) = refl
same_after plan s (AskFork j e) = refl
same_after plan s (GiveFork j e) = refl
same_after plan s (Soil j e) = refl
same_after plan s (AskBottles j e set) = refl
same_after plan s (GiveBottles j e set) = refl
same_after plan s (Thirst j) = refl
same_after plan s (Hunger j) = refl
same_after plan s (Sit j) = refl
same_after plan s (Leave j) = refl
same_after plan s (Drink j) = refl
same_after plan s (Reach j) = refl
same_after plan s (Act j) = refl
same_after plan s (Quit j) = refl
same_after plan s (Retire j) = refl
same_after plan s (Glance j other seen) = refl
same_after plan s (Withdraw j) = refl

pub legal_too : (plan : LabPlan) (s : State) (events : List Event) → IsLegalFrom plan s events → IsLegalFrom (upgraded plan) s events
legal_too plan s [] legal = tt
legal_too plan s (event ∷ events) legal = (
  may_too plan s event legal.0,
  subst (λ t. IsLegalFrom (upgraded plan) t events) (sym (same_after plan s event)) (legal_too plan (after plan s event) events legal.1),
)

pub same_events : (plan : LabPlan) (s : State) (steps : List Step) → step_events (upgraded plan) s steps ≡ step_events plan s steps
same_events plan s [] = refl
same_events plan s (step ∷ steps) =
    let event = event_of s step in
    ap (λ t. event ∷ step_events (upgraded plan) t steps) (same_after plan s event) ∙ ap (λ l. event ∷ l) (same_events plan (after plan s event) steps)

pub is_plan : (plan : LabPlan) → IsPlan plan → IsPlan (upgraded plan)
unfolding edges common
is_plan plan is = record {
  draft = record {
    version = inr refl;
    few_jobs = is.draft.few_jobs;
    few_instruments = is.draft.few_instruments;
    few_sessions = is.draft.few_sessions;
    few_commands = is.draft.few_commands;
    job_names = is.draft.job_names;
    jobs_distinct = is.draft.jobs_distinct;
    instrument_names = is.draft.instrument_names;
    instruments_distinct = is.draft.instruments_distinct;
    named = is.draft.named;
    in_order = is.draft.in_order;
    fit = is.draft.fit;
    patient = λ j session n p. (refl, (is.draft.patient j session n p).1);
  };
  not_empty = is.not_empty;
  few_bottles = is.few_bottles;
}
