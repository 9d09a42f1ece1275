-- Events one after another.
use Rattle.std.proofs.Common.{◌≡◌, Bool, true, false, List, [], ◌++◌, refl, sym, ap, ◌∙◌, subst, append_assoc, append-nil}
use Rattle.lab_plan.specs.LabPlan.{LabPlan}
use Rattle.legal_steps.specs.declared.event.Event.{Event}
use Rattle.legal_steps.specs.State.{State}
use Rattle.legal_steps.specs.Legal.{May}
use Rattle.legal_steps.specs.Run.{IsLegalFrom, after_all}
use Rattle.interleaving.specs.World.{WorldView}
use Rattle.edge_word.specs.Moves.{on}
use Rattle.turns.proofs.Runs.{after_all-append, legal-append}
use Rattle.turns.specs.Due.{after_if}
use Rattle.round_trace.specs.Doing.{Tries, Does}

module _ (plan : LabPlan) where
  on_legal : (b : Bool) (x : Event) (rest : List Event) (s : State) → (b ≡ true → May plan s x) → IsLegalFrom plan (after_if plan b x s) rest →
      IsLegalFrom plan s (on b x rest)
  on_legal false x rest s may legal = legal
  on_legal true x rest s may legal = (may refl, legal)

  on_after : (b : Bool) (x : Event) (rest : List Event) (s : State) → after_all plan s (on b x rest) ≡ after_all plan (after_if plan b x s) rest
  on_after false x rest s = refl
  on_after true x rest s = refl

on_first : (b : Bool) (x : Event) (rest : List Event) → on b x [] ++ rest ≡ on b x rest
on_first false x rest = refl
on_first true x rest = refl

pub does_none : (w : WorldView) (l : List Event) → Does w l [] w l
does_none w l = record { run = record { legal = tt; leads = refl }; same_plan = refl; added = sym (append-nil l) }

-- one event, or none, before others
pub first_then : (old mid new : WorldView) (before between later : List Event) (x : Event) (done : Bool) (rest : List Event) →
    Tries old before x done mid between → Does mid between rest new later → Does old before (on done x rest) new later
first_then old mid new before between later x done rest t d =
    let plan : LabPlan = old.plan in
    let there : State = after_if plan done x old.state in
    let legal : IsLegalFrom plan there rest = subst (λ (z : LabPlan × State). IsLegalFrom z.0 z.1 rest) (λ i. (t.same_plan i, t.leads i)) d.run.legal in
    let leads : new.state ≡ after_all plan there rest = d.run.leads ∙ (λ i. after_all (t.same_plan i) (t.leads i) rest) in
    record {
      run = record { legal = on_legal plan done x rest old.state t.legal.0 legal; leads = leads ∙ sym (on_after plan done x rest old.state) };
      same_plan = d.same_plan ∙ t.same_plan;
      added = d.added ∙ (ap (λ (l : List Event). l ++ rest) t.added ∙ (append_assoc before (on done x []) rest ∙
          ap (λ (l : List Event). before ++ l) (on_first done x rest)));
    }

-- some events before others
pub does_both : (old mid new : WorldView) (before between later : List Event) (xs ys : List Event) → Does old before xs mid between →
    Does mid between ys new later → Does old before (xs ++ ys) new later
does_both old mid new before between later xs ys a b =
    let plan : LabPlan = old.plan in
    let there : State = after_all plan old.state xs in
    let legal : IsLegalFrom plan there ys = subst (λ (z : LabPlan × State). IsLegalFrom z.0 z.1 ys) (λ i. (a.same_plan i, a.run.leads i)) b.run.legal in
    let leads : new.state ≡ after_all plan there ys = b.run.leads ∙ (λ i. after_all (a.same_plan i) (a.run.leads i) ys) in
    record {
      run = record { legal = legal-append plan old.state xs ys a.run.legal legal; leads = leads ∙ sym (after_all-append plan old.state xs ys) };
      same_plan = b.same_plan ∙ a.same_plan;
      added = b.added ∙ (ap (λ (l : List Event). l ++ ys) a.added ∙ append_assoc before xs ys);
    }
