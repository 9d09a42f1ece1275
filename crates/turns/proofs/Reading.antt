-- Where an event is legal depends on what it reads alone.
use Rattle.std.proofs.Common.{◌≡◌, ◌≢◌, ◌⊎◌, ℕ, ◌<◌, ◌≤◌, slice_index_or, true, false, length, IsSome, sym, ap, ◌∙◌, subst}
use Rattle.lab_plan.specs.LabPlan.{LabPlan, commands, patience, sessions, session_names}
use Rattle.legal_steps.specs.declared.edge_state.EdgeState.{EdgeState}
use Rattle.legal_steps.specs.declared.phase.JobState.{JobState}
use Rattle.legal_steps.specs.declared.phase.Dining.TheVariants.{Thinking, Hungry, Eating}
use Rattle.legal_steps.specs.declared.phase.Drinking.TheVariants.{Tranquil, Thirsty, Drinking as Drinks, Reaching}
use Rattle.legal_steps.specs.declared.event.Event.{Event}
use Rattle.legal_steps.specs.declared.event.Event.TheVariants.{Look, AskFork, GiveFork, Soil, AskBottles, GiveBottles, Thirst, Hunger, Sit, Leave, Drink, Reach, Act, Quit, Retire, Glance, Withdraw}
use Rattle.legal_steps.specs.State.{Seat, State, Has, IsOwn, edge, seat, bottle_end, IsInSession, IsDrinking}
use Rattle.legal_steps.specs.Legal.{May, Here, There, IsJob, Needs, instrument_of, MayAskBottle, MayGiveBottle, HasNeeded}
use Rattle.turns.specs.Reads.{AreAlikeFor}
use Rattle.turns.specs.Locality.{ReadsAlike}

module _ (plan : LabPlan) (s t : State) where
  needs_same : (j i : ℕ) → seat s j ≡ seat t j → Needs plan s j i → Needs plan t j i
  needs_same j i own n = record {
    in_session = subst (λ (x : Seat). IsInSession x.phase.drinking) own n.in_session;
    named = subst (λ (x : Seat). session_names plan j x.phase.session i ≡ true) own n.named;
  }

  may_ask_same : (j e k : ℕ) → (seat s j ≡ seat t j) × (edge s e ≡ edge t e) → MayAskBottle plan s j e k → MayAskBottle plan t j e k
  may_ask_same j e k a m = record {
    needed = needs_same j (instrument_of plan e k) a.0 m.needed;
    bottle_there = subst (λ (x : EdgeState). There plan j e (bottle_end x.bottles k)) a.1 m.bottle_there;
    token_here = subst (λ (x : EdgeState). Here plan j e (bottle_end x.bottle_tokens k)) a.1 m.token_here;
  }

needs_back : (plan : LabPlan) (s t : State) (j i : ℕ) → seat s j ≡ seat t j → Needs plan t j i → Needs plan s j i
needs_back plan s t j i own = needs_same plan t s j i (sym own)

module _ (plan : LabPlan) (s t : State) where
  may_give_same : (j e k : ℕ) → (seat s j ≡ seat t j) × (edge s e ≡ edge t e) → MayGiveBottle plan s j e k → MayGiveBottle plan t j e k
  may_give_same j e k a m = record {
    bottle_here = subst (λ (x : EdgeState). Here plan j e (bottle_end x.bottles k)) a.1 m.bottle_here;
    token_here = subst (λ (x : EdgeState). Here plan j e (bottle_end x.bottle_tokens k)) a.1 m.token_here;
    not_kept = λ both. m.not_kept (
      needs_back plan s t j (instrument_of plan e k) a.0 both.0,
      subst (λ (z : Seat × EdgeState). IsDrinking z.0.phase ⊎ Here plan j e z.1.fork) (λ i. (sym a.0 i, sym a.1 i)) both.1,
    );
  }

  has_needed_same : (j : ℕ) → seat s j ≡ seat t j → HasNeeded plan s j → HasNeeded plan t j
  has_needed_same j own h e at k is needs =
      subst (λ (x : Seat). Has (slice_index_or x.bottle_marks e 0) k) own (h e at k is (needs_back plan s t j (instrument_of plan e k) own needs))

  pub may_same : (event : Event) → AreAlikeFor s t event → May plan s event → May plan t event
  may_same (Look j e seen) a m = (m.0, m.1 ∙ a)
  may_same (AskFork j e) a m =
      subst (λ (z : Seat × EdgeState). IsOwn plan j e × (z.0.phase.dining ≡ Hungry) × There plan j e z.1.fork × Here plan j e z.1.token) (λ i. (a.0 i, a.1 i)) m
  may_same (GiveFork j e) a m =
      subst (λ (z : Seat × EdgeState). IsOwn plan j e × (z.0.phase.dining ≢ Eating) × Here plan j e z.1.fork × (z.1.dirty ≡ true) × Here plan j e z.1.token)
      (λ i. (a.0 i, a.1 i)) m
  may_same (Soil j e) a m =
      subst (λ (z : Seat × EdgeState). IsOwn plan j e × (z.0.phase.dining ≡ Eating) × Here plan j e z.1.fork × (z.1.dirty ≡ false)) (λ i. (a.0 i, a.1 i)) m
  may_same (AskBottles j e set) a m = (m.0, sym (ap (λ (x : Seat). x.phase.drinking) a.0) ∙ m.1, m.2, λ k has. may_ask_same plan s t j e k a (m.3 k has))
  may_same (GiveBottles j e set) a m = (m.0, m.1, λ k has. may_give_same j e k a (m.2 k has))
  may_same (Thirst j) own m =
      subst (λ (x : Seat). IsJob plan j × (x.phase.drinking ≡ Tranquil) × (x.phase.dining ≢ Eating) × (x.phase.session < length (sessions plan j))) own m
  may_same (Hunger j) own m = subst (λ (x : Seat). IsJob plan j × (x.phase.dining ≡ Thinking) × (x.phase.drinking ≡ Thirsty)) own m
  may_same (Sit j) own m =
      subst (λ (x : Seat). IsJob plan j × (x.phase.dining ≡ Hungry) × ((e : ℕ) → IsOwn plan j e → slice_index_or x.fork_marks e false ≡ true)) own m
  may_same (Leave j) own m =
      subst (λ (x : Seat). IsJob plan j × (x.phase.dining ≡ Eating) × (x.phase.drinking ≢ Thirsty)
      × ((e : ℕ) → IsOwn plan j e → slice_index_or x.fork_marks e false ≡ true)) own m
  may_same (Drink j) own m = (m.0, sym (ap (λ (x : Seat). x.phase.drinking) own) ∙ m.1, has_needed_same j own m.2)
  may_same (Reach j) own m =
      subst (λ (x : Seat). IsJob plan j × (x.phase.drinking ≡ Drinks) × (x.phase.position < length (commands plan j x.phase.session))) own m
  may_same (Act j) own m = subst (λ (x : Seat). IsJob plan j × (x.phase.drinking ≡ Reaching)) own m
  may_same (Quit j) own m =
      subst (λ (x : Seat). IsJob plan j × (x.phase.drinking ≡ Drinks) × (length (commands plan j x.phase.session) ≤ x.phase.position)) own m
  may_same (Retire j) own m =
      subst (λ (x : Seat). IsJob plan j × (x.phase.dining ≡ Thinking) × (x.phase.drinking ≡ Tranquil) × (length (sessions plan j) ≤ x.phase.session)) own m
  may_same (Glance j other seen) a m = subst (λ (x : JobState). IsJob plan j × IsJob plan other × (other ≢ j) × (seen ≡ x)) a m
  may_same (Withdraw j) own m = subst (λ (x : Seat). IsJob plan j × (x.phase.drinking ≡ Thirsty) × IsSome (patience plan j x.phase.session)) own m

alike_back : (s t : State) (event : Event) → AreAlikeFor s t event → AreAlikeFor t s event
alike_back s t (Look j e seen) a = sym a
alike_back s t (AskFork j e) a = (sym a.0, sym a.1)
alike_back s t (GiveFork j e) a = (sym a.0, sym a.1)
alike_back s t (Soil j e) a = (sym a.0, sym a.1)
alike_back s t (AskBottles j e set) a = (sym a.0, sym a.1)
alike_back s t (GiveBottles j e set) a = (sym a.0, sym a.1)
alike_back s t (Thirst j) a = sym a
alike_back s t (Hunger j) a = sym a
alike_back s t (Sit j) a = sym a
alike_back s t (Leave j) a = sym a
alike_back s t (Drink j) a = sym a
alike_back s t (Reach j) a = sym a
alike_back s t (Act j) a = sym a
alike_back s t (Quit j) a = sym a
alike_back s t (Retire j) a = sym a
alike_back s t (Glance j other seen) a = sym a
alike_back s t (Withdraw j) a = sym a

pub reads_alike : ReadsAlike
reads_alike plan s t event a = (may_same plan s t event a, may_same plan t s event (alike_back s t event a))
