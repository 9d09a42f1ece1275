-- Where no way on is left the state is quiet.
use Rattle.std.proofs.Common.{◌≡◌, ℕ, ◌*◌, ◌^◌, ◌%◌, ◌<◌, [], ◌∷◌, sym, subst, arith, Option, Some, None}
use Rattle.std.proofs.Math.Pow.{pow-lt}
use Rattle.std.specs.Prelude.{IfNone}
use Rattle.std.specs.List.{All}
use Rattle.lab_plan.specs.LabPlan.{LabPlan}
use Rattle.legal_steps.specs.declared.event.Event.{Event}
use Rattle.legal_steps.specs.declared.event.Event.TheVariants.{Look, AskFork, GiveFork, Soil, AskBottles, GiveBottles, Thirst, Hunger, Sit, Leave, Drink, Reach, Act, Quit, Retire, Glance, Withdraw}
use Rattle.legal_steps.specs.State.{State}
use Rattle.legal_steps.specs.Legal.{May, MayAskBottle, MayGiveBottle}
use Rattle.overtaking.specs.Stuck.{IsMove, IsQuiet, IsUpToDate}
use Rattle.overtaking.specs.Ways.{HasNoPhaseWay, HasNoForkWay, HasNoBottleWayOf, HasNoPhaseWays, HasNoForkWays, HasNoBottleWays}
use Rattle.legal_steps.proofs.BottleSets.{one_bottle, only_one, some_bottle}

no_move : (plan : LabPlan) (s : State) → HasNoPhaseWays plan s → HasNoForkWays plan s
    → HasNoBottleWays plan s → (event : Event) → IsMove event → ¬ May plan s event
no_move plan s p f b (Look j e seen) move may = move
no_move plan s p f b (AskFork j e) move may = (f j e may.0).no_ask may
no_move plan s p f b (GiveFork j e) move may = (f j e may.0).no_give may
no_move plan s p f b (Soil j e) move may = (f j e may.0).no_soil may
no_move plan s p f b (AskBottles j e set) move may =
    let w = some_bottle plan e set may.2 in
    (b j e may.0 w.0 w.1).no_ask (may.0, may.1, one_bottle plan e w.0 w.1, λ k has. subst (MayAskBottle plan s j e) (sym (only_one w.0 k has)) (may.3 w.0 w.2))
no_move plan s p f b (GiveBottles j e set) move may =
    let w = some_bottle plan e set may.1 in
    (b j e may.0 w.0 w.1).no_give (may.0, one_bottle plan e w.0 w.1, λ k has. subst (MayGiveBottle plan s j e) (sym (only_one w.0 k has)) (may.2 w.0 w.2))
no_move plan s p f b (Thirst j) move may = (p j may.0).no_thirst may
no_move plan s p f b (Hunger j) move may = (p j may.0).no_hunger may
no_move plan s p f b (Sit j) move may = (p j may.0).no_sit may
no_move plan s p f b (Leave j) move may = (p j may.0).no_leave may
no_move plan s p f b (Drink j) move may = (p j may.0).no_drink may
no_move plan s p f b (Reach j) move may = (p j may.0).no_reach may
no_move plan s p f b (Act j) move may = (p j may.0).no_act may
no_move plan s p f b (Quit j) move may = (p j may.0).no_quit may
no_move plan s p f b (Retire j) move may = (p j may.0).no_retire may
no_move plan s p f b (Glance j other seen) move may = move
no_move plan s p f b (Withdraw j) move may = move

pub no_way_is_quiet : (plan : LabPlan) (s : State) → HasNoPhaseWays plan s → HasNoForkWays plan s → HasNoBottleWays plan s → IsQuiet plan s
no_way_is_quiet plan s p f b = record { up_to_date = λ j e own. (f j e own).up_to_date; no_move = no_move plan s p f b }

-- ---- from the lists of what was tried

pub no_phase_of : (plan : LabPlan) (s : State) (j : ℕ)
    → All (λ event. ¬ May plan s event) (Quit j ∷ Reach j ∷ Act j ∷ Drink j ∷ Leave j ∷ Sit j ∷ Thirst j ∷ Hunger j ∷ Retire j ∷ []) → HasNoPhaseWay plan s j
no_phase_of plan s j h = record {
  no_quit = h 0 (Quit j) (omega arith);
  no_reach = h 1 (Quit j) (omega arith);
  no_act = h 2 (Quit j) (omega arith);
  no_drink = h 3 (Quit j) (omega arith);
  no_leave = h 4 (Quit j) (omega arith);
  no_sit = h 5 (Quit j) (omega arith);
  no_thirst = h 6 (Quit j) (omega arith);
  no_hunger = h 7 (Quit j) (omega arith);
  no_retire = h 8 (Quit j) (omega arith);
}

pub no_fork_of : (plan : LabPlan) (s : State) (j e : ℕ) → IsUpToDate plan s j e
    → All (λ event. ¬ May plan s event) (Soil j e ∷ GiveFork j e ∷ AskFork j e ∷ []) → HasNoForkWay plan s j e
no_fork_of plan s j e fresh h = record {
  up_to_date = fresh;
  no_soil = h 0 (Quit j) (omega arith);
  no_give = h 1 (Quit j) (omega arith);
  no_ask = h 2 (Quit j) (omega arith);
}

-- a set by a shift of 1
shifted : (k : ℕ) → k < 32 → (1 * 2 ^ k) % 4294967296 ≡ 2 ^ k
shifted k small = let fits : 2 ^ k < 2 ^ 32 = pow-lt small in omega (arith, fits)

pub no_bottle_of : (plan : LabPlan) (s : State) (j e k : ℕ) → k < 32
    → (let set : ℕ = (1 * 2 ^ k) % 4294967296 in All (λ event. ¬ May plan s event) (GiveBottles j e set ∷ AskBottles j e set ∷ []))
    → HasNoBottleWayOf plan s j e k
no_bottle_of plan s j e k small h = record {
  no_give = subst (λ set. ¬ May plan s (GiveBottles j e set)) (shifted k small) (h 0 (Quit j) (omega arith));
  no_ask = subst (λ set. ¬ May plan s (AskBottles j e set)) (shifted k small) (h 1 (Quit j) (omega arith));
}

-- nothing is found where P follows
pub none_gives : {X : Type 0} (P Q : Type 0) (found : Option X) → (P → Q) → IfNone found P → IfNone found Q
none_gives P Q None h p = h p
none_gives P Q (Some x) h p = tt
