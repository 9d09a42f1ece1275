-- What is noted of a plan's jobs is true of them by a longer plan.
use Rattle.std.proofs.Common.{◌≡◌, ℕ, true, length, sym, ap, ◌∙◌, subst, arith}
use Rattle.lab_plan.specs.LabPlan.{LabPlan}
use Rattle.legal_steps.specs.declared.end.End.{End}
use Rattle.legal_steps.specs.declared.event.Event.{Event}
use Rattle.legal_steps.specs.declared.event.Event.TheVariants.{AskFork, GiveFork, Soil, AskBottles, GiveBottles, Hunger, Sit, Leave, Drink}
use Rattle.legal_steps.specs.State.{State, edge, end_of, dining, bottles_at}
use Rattle.legal_steps.specs.Legal.{May, fork_mark_seen}
use Rattle.legal_steps.specs.Fitting.{Fits}
use Rattle.longer_plans.specs.Longer.{IsLonger, AsksWhatIsLeft}
use Rattle.longer_plans.proofs.Stays.{own_back, end_same, bottles_at_same, is_as_legal}
use Rattle.settling.specs.Left.{DueView, HasNothingAt, HasNothingToDo, AreMarked, is_noted}
use Rattle.settling.specs.Longer.{HasStillNothingToDo, StaysMarked}

module _ (p q : LabPlan) (j : ℕ) (more : IsLonger p q j) (s : State) (fit : Fits p s) where
  -- what isn't legal stays so
  not_legal : (event : Event) → ¬ AsksWhatIsLeft j event → ¬ May p s event → ¬ May q s event
  not_legal event other none may = none ((is_as_legal p q j more s event fit other).0 may)

  nothing_at : (k e : ℕ) → HasNothingAt p s k e → HasNothingAt q s k e
  nothing_at k e h = record {
    calm = record {
      no_give = not_legal (GiveFork k e) (λ is. is) h.calm.no_give;
      no_ask = not_legal (AskFork k e) (λ is. is) h.calm.no_ask;
      no_soil = not_legal (Soil k e) (λ is. is) h.calm.no_soil;
      no_bottles_given = λ set. not_legal (GiveBottles k e set) (λ is. is) (h.calm.no_bottles_given set);
      no_bottles_asked = λ set. not_legal (AskBottles k e set) (λ is. is) (h.calm.no_bottles_asked set);
    };
    looked = h.looked ∙ sym (ap (λ (here : End). fork_mark_seen (dining s k) here (edge s e)) (end_same p q j more k e));
    knows = h.knows ∙ sym (ap (λ (here : End). bottles_at q e here (edge s e)) (end_same p q j more k e)
        ∙ bottles_at_same p q j more e (end_of p k e) (edge s e));
  }

  nothing : (k : ℕ) → HasNothingToDo p s k → HasNothingToDo q s k
  nothing k h = record {
    edges = λ e own. nothing_at k e (h.edges e (own_back p q j more k e own));
    no_drink = not_legal (Drink k) (λ is. is) h.no_drink;
    no_leave = not_legal (Leave k) (λ is. is) h.no_leave;
    no_sit = not_legal (Sit k) (λ is. is) h.no_sit;
    no_hunger = not_legal (Hunger k) (λ is. is) h.no_hunger;
  }

  marked : (due : DueView) → AreMarked p s due → AreMarked q s due
  marked due h = record {
    of_plan = record {
      jobs_there = h.of_plan.jobs_there ∙ sym more.jobs_same;
      only_there = h.of_plan.only_there ∙ sym more.jobs_same;
      lower_there = h.of_plan.lower_there ∙ sym (ap length more.edges_same);
      higher_there = h.of_plan.higher_there ∙ sym (ap length more.edges_same);
    };
    others = λ k job quiet. nothing k (h.others k (let n = more.jobs_same in omega arith) quiet);
    only = λ k e x own here other. nothing_at k e (h.only k e x (own_back p q j more k e own) here other);
    noted = λ k e own is. nothing_at k e (h.noted k e (own_back p q j more k e own)
        (subst (λ (end : End). is_noted due end e ≡ true) (end_same p q j more k e) is));
  }

pub has_still_nothing_to_do : HasStillNothingToDo
has_still_nothing_to_do p q j more s k fit h = nothing p q j more s fit k h

pub stays_marked : StaysMarked
stays_marked p q j more s due fit h = marked p q j more s fit due h
