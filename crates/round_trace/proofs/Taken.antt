-- Steps that are taken one after another, and what goes on behind them.
use Rattle.std.proofs.Common.{◌≡◌, ◌≢◌, ℕ, ◌+◌, ◌<◌, ◌≤◌, Bool, true, false, List, [], ◌∷◌, ◌++◌, length, map, take, drop, slice_index_or, refl, sym, ap, ◌∙◌, subst, arith, append_assoc, length-append}
use Rattle.std.specs.Prelude.{Option, None, Some}
use Rattle.std.proofs.lemmas.Bool.{false≢true}
use Rattle.std.proofs.lemmas.List.{take_more, take_all}
use Rattle.std.proofs.lemmas.Option.{slice_get-get_or}
use Rattle.lab_plan.specs.LabPlan.{LabPlan}
use Rattle.legal_steps.specs.declared.event.Event.{Event}
use Rattle.legal_steps.specs.declared.event.Step.{Step}
use Rattle.legal_steps.specs.declared.event.StepLine.{StepLine}
use Rattle.legal_steps.specs.State.{State, drinking}
use Rattle.legal_steps.specs.Legal.{May, after}
use Rattle.legal_steps.specs.Run.{Runs, StopsAt, IsLegalFrom, after_all}
use Rattle.legal_steps.specs.Steps.{step_events}
use Rattle.legal_steps.specs.Opening.{the_opening}
use Rattle.legal_steps.proofs.RunLemmas.{runs_more}
use Rattle.interleaving.specs.World.{WorldView}
use Rattle.interleaving.specs.Start.{at_start}
use Rattle.turns.specs.History.{IsHistory, state_after}
use Rattle.turns.specs.Lists.{StartsWith}
use Rattle.turns.proofs.Runs.{legal-goes_on}
use Rattle.interleaving.proofs.StepsLemmas.{events_length}
use Rattle.rounds.specs.declared.ended.Ended.TheVariants.{Quiet}
use Rattle.rounds.specs.OneRun.{RanRounds, why_ended}
use Rattle.rounds.specs.FromOpening.{fresh_players}
use Rattle.rounds.proofs.SameRun.{rounds_start}
use Rattle.rounds.specs.QuietEnd.{NoneReaches}
use Rattle.round_trace.specs.Doing.{Tries, Does, TakesAll}
use Rattle.round_trace.specs.InHand.{acts_in_hand, BringsToRest}
use Rattle.round_trace.specs.Players.{StandsAt}
use Rattle.round_trace.specs.Traces.{run_of, run_before, IsRunByRounds, GoesOnByRounds, Plays}
use Rattle.round_trace.proofs.Doing.{does_both}

-- one more is done
pub taken_more : (old mid new : WorldView) (es l l' : List Event) (n : ℕ) (event : Event) → n < length es → event ≡ slice_index_or es n event
    → Does old [] (take n es) mid l → Tries mid l event true new l' → Does old [] (take (n + 1) es) new l'
taken_more old mid new es l l' n event inside is d t = record {
  run = runs_more old.plan old.state mid.state new.state es n event inside is d.run (record {
    may = subst (λ (p : LabPlan). May p mid.state event) d.same_plan (t.legal.0 refl);
    leads = t.leads ∙ ap (λ (p : LabPlan). after p mid.state event) d.same_plan;
  });
  same_plan = t.same_plan ∙ d.same_plan;
  added = t.added ∙ (ap (λ (z : List Event). z ++ event ∷ []) d.added ∙ sym (take_next es n event inside is));
} where
  take_next : (xs : List Event) (k : ℕ) (x : Event) → k < length xs → x ≡ slice_index_or xs k x → take (k + 1) xs ≡ take k xs ++ x ∷ []
  take_next xs k x within at = subst (λ y. take (k + 1) xs ≡ take k xs ++ y ∷ []) (sym at) (take_more xs k x within)

-- the next isn't legal
pub stops_there : (old mid new : WorldView) (es l l' : List Event) (n place : ℕ) (event : Event) → place ≡ n → n < length es
    → event ≡ slice_index_or es n event → Does old [] (take n es) mid l → Tries mid l event false new l' → StopsAt old.plan old.state es place new.state
stops_there old mid new es l l' n place event same inside is d t = subst (λ k. StopsAt old.plan old.state es k new.state) (sym same) (record {
  before = subst (Runs old.plan old.state (take n es)) (sym t.leads) d.run;
  inside = inside;
  not_legal = λ other there may. false≢true (t.legal.1 (subst (λ (z : LabPlan × State). May z.0 z.1 event) (λ i. (sym d.same_plan i, t.leads i))
      (subst (May old.plan new.state) (some_is other event (sym there ∙ (slice_get-get_or es n event inside ∙ ap (λ x. Some x) (sym is)))) may)));
}) where
  some_is : (a b : Event) → Some a ≡ Some b → a ≡ b
  some_is a b h = cc

pub all_taken : (old new : WorldView) (es l : List Event) (n : ℕ) → length es ≤ n → Does old [] (take n es) new l → Does old [] es new l
all_taken old new es l n all d = subst (λ z. Does old [] z new l) (take_all n es all) d

-- ---- behind all of them, and the acts of the commands in hand

pub record Begun (plan : LabPlan) (steps : List Step) (w : WorldView) (h : List Event) : Type 0 where
  pub is : h ≡ run_before plan steps
  pub same_plan : w.plan ≡ plan
  pub stands : StandsAt w h
  pub rests : NoneReaches w.plan h

pub begun : (plan : LabPlan) (steps : List Step) (w0 w1 w2 : WorldView) (l1 l2 : List Event) → w0 ≡ at_start plan (the_opening plan)
    → Does w0 [] (step_events w0.plan w0.state steps) w1 l1 → Does w1 l1 (acts_in_hand w1.plan w1.state) w2 l2
    → BringsToRest w1.plan w1.state (acts_in_hand w1.plan w1.state) → Begun plan steps w2 l2
begun plan steps w0 w1 w2 l1 l2 opens a b rest = record {
  is = whole;
  same_plan = same;
  stands = record {
    legal = subst (λ (z : LabPlan × List Event). IsHistory z.0 z.1) (λ i. (sym same i, sym whole i)) both.run.legal;
    led = both.run.leads ∙ (λ i. state_after (sym same i) (sym whole i));
  };
  rests = λ j l is. rest.rests j (subst (λ (p : LabPlan). j < length p.jobs) (same ∙ sym first.same_plan) l)
      (ap (λ (z : State). drinking z j) (sym (b.run.leads) ∙ (both.run.leads ∙ (λ i. state_after (sym same i) (sym whole i)))) ∙ is);
} where
  run : List Event
  run = run_of plan steps

  first : Does (at_start plan (the_opening plan)) [] run w1 l1
  first = subst (λ (w : WorldView). Does w [] (step_events w.plan w.state steps) w1 l1) opens a

  acts : List Event
  acts = acts_in_hand plan (state_after plan run)

  acts_are : acts_in_hand w1.plan w1.state ≡ acts
  acts_are = λ i. acts_in_hand (first.same_plan i) (first.run.leads i)

  both : Does (at_start plan (the_opening plan)) [] (run ++ acts) w2 l2
  both = does_both (at_start plan (the_opening plan)) w1 w2 [] l1 l2 run acts first (subst (λ z. Does w1 l1 z w2 l2) acts_are b)

  same : w2.plan ≡ plan
  same = both.same_plan

  whole : l2 ≡ run_before plan steps
  whole = both.added

-- the same of steps in their lines, all of which were done
pub begun_by : (plan : LabPlan) (lines : List StepLine) (stop : Option ℕ) (w0 w1 w2 : WorldView) (l1 l2 : List Event) → stop ≡ None
    → w0 ≡ at_start plan (the_opening plan) → TakesAll w0 lines w1 l1 stop → Does w1 l1 (acts_in_hand w1.plan w1.state) w2 l2
    → BringsToRest w1.plan w1.state (acts_in_hand w1.plan w1.state) → Begun plan (map (λ (line : StepLine). line.step) lines) w2 l2
begun_by plan lines stop w0 w1 w2 l1 l2 none opens a b rest =
    begun plan (map (λ (line : StepLine). line.step) lines) w0 w1 w2 l1 l2 opens (subst (TakesAll w0 lines w1 l1) none a) b rest

never_quiet : (retired : Bool) → why_ended retired ≢ Quiet
never_quiet true is = cc
never_quiet false is = cc

pub goes_on : (plan : LabPlan) (limit : ℕ) (steps : List Step) (w : WorldView) (h new : List Event) (retired : Bool) → Begun plan steps w h
    → Plays w.plan limit retired h new → GoesOnByRounds plan limit steps new
goes_on plan limit steps w h new retired b plays = record {
  begins = subst (λ (z : LabPlan × List Event). IsHistory z.0 z.1) (λ i. (b.same_plan i, b.is i)) b.stands.legal;
  ended = why_ended retired;
  number = plays.0;
  rounds = subst (λ (z : LabPlan × List Event). RanRounds z.0 limit (fresh_players (length z.0.jobs)) z.1 (why_ended retired) plays.0 new)
      (λ i. (b.same_plan i, b.is i)) plays.1;
  not_quiet = never_quiet retired;
}

-- from the initial state on
pub from_start : (plan : LabPlan) (limit : ℕ) (w : WorldView) (h new : List Event) (retired : Bool) → w ≡ at_start plan (the_opening plan) → h ≡ []
    → Plays w.plan limit retired h new → IsRunByRounds plan limit new
from_start plan limit w h new retired opens none plays = record {
  ended = why_ended retired;
  number = plays.0;
  rounds = subst (λ (z : LabPlan × List Event). RanRounds z.0 limit (fresh_players (length z.0.jobs)) z.1 (why_ended retired) plays.0 new)
      (λ i. ((opens i).plan, none i)) plays.1;
  not_quiet = never_quiet retired;
}

-- ---- rounds behind them

drop_own : (a b : List Event) → drop (length a) (a ++ b) ≡ b
drop_own [] b = refl
drop_own (x ∷ a) b = drop_own a b

module _ (plan : LabPlan) (limit : ℕ) (steps : List Step) (history : List Event) (run : GoesOnByRounds plan limit steps history) where
  count : length (run_of plan steps) ≡ length steps
  count = events_length plan (the_opening plan) steps

  -- the history begins with the events of the steps
  pub begins_with : history ≡ run_of plan steps ++ drop (length steps) history
  begins_with = whole ∙ ap (λ (z : List Event). run_of plan steps ++ z) (sym later)
    where
      acts : List Event
      acts = acts_in_hand plan (state_after plan (run_of plan steps))

      starts : StartsWith history (run_of plan steps ++ acts)
      starts = rounds_start plan (fresh_players (length plan.jobs)) run.rounds.players_then run.number run.rounds.idle (run_of plan steps ++ acts) history
          run.rounds.rounds

      whole : history ≡ run_of plan steps ++ (acts ++ starts.0)
      whole = starts.1 ∙ append_assoc (run_of plan steps) acts starts.0

      later : drop (length steps) history ≡ acts ++ starts.0
      later = (λ i. drop (sym count i) (whole i)) ∙ drop_own (run_of plan steps) (acts ++ starts.0)

  pub as_many : length steps ≤ length history
  as_many =
      let both = ap (λ (z : List Event). length z) begins_with ∙ length-append (run_of plan steps) (drop (length steps) history) in
      let n = count in
      omega (arith, n, both)

  pub legal_behind : IsLegalFrom plan (after_all plan (the_opening plan) (run_of plan steps)) (drop (length steps) history)
  legal_behind = legal-goes_on plan (the_opening plan) (run_of plan steps) (drop (length steps) history)
      (subst (IsLegalFrom plan (the_opening plan)) begins_with run.rounds.legal)
