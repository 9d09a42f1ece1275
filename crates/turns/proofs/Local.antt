-- Where an event of a job may be depends on its own seat and the edge of the event.
use Rattle.std.proofs.Common.{◌≡◌, ◌≢◌, ◌⊎◌, ℕ, ◌<◌, ◌≤◌, slice_index_or, Bool, true, false, not, ◌==◌, List, [], ◌∷◌, length, IsSome, sym, ap, ◌∙◌, subst, arith}
use Rattle.lab_plan.specs.LabPlan.{LabPlan, commands, patience, sessions, session_names}
use Rattle.legal_steps.specs.declared.edge_state.EdgeState.{EdgeState}
use Rattle.legal_steps.specs.declared.phase.Dining.TheVariants.{Thinking, Hungry, Eating}
use Rattle.legal_steps.specs.declared.phase.Drinking.TheVariants.{Tranquil, Thirsty, Drinking as Drinks, Reaching}
use Rattle.legal_steps.specs.declared.event.Event.{Event}
use Rattle.legal_steps.specs.declared.event.Event.TheVariants.{AskFork, GiveFork, Soil, AskBottles, GiveBottles, Thirst, Hunger, Sit, Leave, Drink, Reach, Act, Quit, Retire, Withdraw}
use Rattle.legal_steps.specs.State.{Seat, State, Has, IsOwn, edge, seat, phase, bottle_end, IsInSession, IsDrinking}
use Rattle.legal_steps.specs.Legal.{May, after, Here, There, IsJob, Needs, instrument_of, MayAskBottle, MayGiveBottle, HasNeeded, fork_asked, fork_given, fork_soiled, bottles_asked, bottles_given}
use Rattle.legal_steps.specs.Run.{IsLegalFrom, after_all}
use Rattle.legal_steps.proofs.FitsWrites.{edge_same}
use Rattle.edge_word.specs.declared.moves.EdgeMoves.{EdgeMoves}
use Rattle.edge_word.specs.Moves.{on, events_of}
use Rattle.turns.specs.Lists.{Each}
use Rattle.turns.proofs.Frame.{as_many_seats, as_many_edges, own_seat}
use Rattle.turns.specs.Changes.{seat_after}

-- two states in which job j and edge e are alike
pub record Alike (j e : ℕ) (s t : State) : Type 0 where
  pub job_s : j < length s.seats
  pub job_t : j < length t.seats
  pub edge_s : e < length s.edges
  pub edge_t : e < length t.edges
  pub own : seat s j ≡ seat t j
  pub here : edge s e ≡ edge t e

-- the event is legal in both or in neither, and leaves them alike
abbrev pub IsLocal : LabPlan → ℕ → ℕ → Event → Type 0
IsLocal plan j e event = (s t : State) → Alike j e s t → (May plan s event → May plan t event) × Alike j e (after plan s event) (after plan t event)

module _ (plan : LabPlan) (j : ℕ) where
  needs_alike : (s t : State) (i : ℕ) → seat s j ≡ seat t j → Needs plan s j i → Needs plan t j i
  needs_alike s t i own n = record {
    in_session = subst (λ (x : Seat). IsInSession x.phase.drinking) own n.in_session;
    named = subst (λ (x : Seat). session_names plan j x.phase.session i ≡ true) own n.named;
  }

  module _ (e : ℕ) where
    -- the seat and the edge after an event of j on e
    alike_after : (s t : State) (event : Event) (f : EdgeState → EdgeState) → Alike j e s t
        → seat (after plan s event) j ≡ seat_after plan (seat s j) event → seat (after plan t event) j ≡ seat_after plan (seat t j) event
        → edge (after plan s event) e ≡ f (edge s e) → edge (after plan t event) e ≡ f (edge t e) → Alike j e (after plan s event) (after plan t event)
    alike_after s t event f a seat_s seat_t edge_s edge_t = record {
      job_s = let n = as_many_seats plan s event in let h = a.job_s in omega arith;
      job_t = let n = as_many_seats plan t event in let h = a.job_t in omega arith;
      edge_s = let n = as_many_edges plan s event in let h = a.edge_s in omega arith;
      edge_t = let n = as_many_edges plan t event in let h = a.edge_t in omega arith;
      own = seat_s ∙ (ap (λ (x : Seat). seat_after plan x event) a.own ∙ sym seat_t);
      here = edge_s ∙ (ap f a.here ∙ sym edge_t);
    }

    pub ask_fork_local : IsLocal plan j e (AskFork j e)
    ask_fork_local s t a = (
      λ m. subst (λ (z : Seat × EdgeState). IsOwn plan j e × (z.0.phase.dining ≡ Hungry) × There plan j e z.1.fork × Here plan j e z.1.token)
          (λ i. (a.own i, a.here i)) m,
      alike_after s t (AskFork j e) fork_asked a (own_seat plan s (AskFork j e) a.job_s)
          (own_seat plan t (AskFork j e) a.job_t) (edge_same s e _ a.edge_s) (edge_same t e _ a.edge_t),
    )

    pub give_fork_local : IsLocal plan j e (GiveFork j e)
    give_fork_local s t a = (
      λ m. subst (λ (z : Seat × EdgeState). IsOwn plan j e × (z.0.phase.dining ≢ Eating)
          × Here plan j e z.1.fork × (z.1.dirty ≡ true) × Here plan j e z.1.token) (λ i. (a.own i, a.here i)) m,
      alike_after s t (GiveFork j e) fork_given a (own_seat plan s (GiveFork j e) a.job_s)
          (own_seat plan t (GiveFork j e) a.job_t) (edge_same s e _ a.edge_s) (edge_same t e _ a.edge_t),
    )

    pub soil_local : IsLocal plan j e (Soil j e)
    soil_local s t a = (
      λ m. subst (λ (z : Seat × EdgeState). IsOwn plan j e × (z.0.phase.dining ≡ Eating) × Here plan j e z.1.fork × (z.1.dirty ≡ false))
          (λ i. (a.own i, a.here i)) m,
      alike_after s t (Soil j e) fork_soiled a (own_seat plan s (Soil j e) a.job_s)
          (own_seat plan t (Soil j e) a.job_t) (edge_same s e _ a.edge_s) (edge_same t e _ a.edge_t),
    )

    may_ask_alike : (s t : State) (k : ℕ) → Alike j e s t → MayAskBottle plan s j e k → MayAskBottle plan t j e k
    may_ask_alike s t k a m = record {
      needed = needs_alike s t (instrument_of plan e k) a.own m.needed;
      bottle_there = subst (λ (x : EdgeState). There plan j e (bottle_end x.bottles k)) a.here m.bottle_there;
      token_here = subst (λ (x : EdgeState). Here plan j e (bottle_end x.bottle_tokens k)) a.here m.token_here;
    }

    pub ask_bottles_local : (set : ℕ) → IsLocal plan j e (AskBottles j e set)
    ask_bottles_local set s t a = (
      λ m. (m.0, sym (ap (λ (x : Seat). x.phase.drinking) a.own) ∙ m.1, m.2, λ k has. may_ask_alike s t k a (m.3 k has)),
      alike_after s t (AskBottles j e set) (bottles_asked set) a (own_seat plan s (AskBottles j e set) a.job_s)
          (own_seat plan t (AskBottles j e set) a.job_t) (edge_same s e _ a.edge_s) (edge_same t e _ a.edge_t),
    )

    kept_alike : (s t : State) (k : ℕ) → Alike j e s t → ¬ (Needs plan s j (instrument_of plan e k) × (IsDrinking (phase s j) ⊎ Here plan j e (edge s e).fork))
        → ¬ (Needs plan t j (instrument_of plan e k) × (IsDrinking (phase t j) ⊎ Here plan j e (edge t e).fork))
    kept_alike s t k a n both = n (
      needs_alike t s (instrument_of plan e k) (sym a.own) both.0,
      subst (λ (z : Seat × EdgeState). IsDrinking z.0.phase ⊎ Here plan j e z.1.fork) (λ i. (sym a.own i, sym a.here i)) both.1,
    )

    may_give_alike : (s t : State) (k : ℕ) → Alike j e s t → MayGiveBottle plan s j e k → MayGiveBottle plan t j e k
    may_give_alike s t k a m = record {
      bottle_here = subst (λ (x : EdgeState). Here plan j e (bottle_end x.bottles k)) a.here m.bottle_here;
      token_here = subst (λ (x : EdgeState). Here plan j e (bottle_end x.bottle_tokens k)) a.here m.token_here;
      not_kept = kept_alike s t k a m.not_kept;
    }

    pub give_bottles_local : (set : ℕ) → IsLocal plan j e (GiveBottles j e set)
    give_bottles_local set s t a = (
      λ m. (m.0, m.1, λ k has. may_give_alike s t k a (m.2 k has)),
      alike_after s t (GiveBottles j e set) (bottles_given set) a (own_seat plan s (GiveBottles j e set) a.job_s)
          (own_seat plan t (GiveBottles j e set) a.job_t) (edge_same s e _ a.edge_s) (edge_same t e _ a.edge_t),
    )

    -- ---- groups

    pub legal_alike : (g : List Event) (s t : State) → Each (IsLocal plan j e) g → Alike j e s t
        → IsLegalFrom plan s g → IsLegalFrom plan t g × Alike j e (after_all plan s g) (after_all plan t g)
    legal_alike [] s t local a legal = (tt, a)
    legal_alike (event ∷ g) s t local a legal =
        let here = local.0 s t a in
        let more = legal_alike g (after plan s event) (after plan t event) local.1 here.1 legal.1 in
        ((here.0 legal.0, more.0), more.1)

    each_on : (P : Event → Type 0) (b : Bool) (event : Event) (rest : List Event) → P event → Each P rest → Each P (on b event rest)
    each_on P false event rest p q = q
    each_on P true event rest p q = (p, q)

    -- what holds of all moves of j on e holds of a group
    pub each_move : (P : Event → Type 0) (m : EdgeMoves) → P (GiveFork j e) → P (GiveBottles j e m.give_bottles)
        → P (AskFork j e) → P (AskBottles j e m.ask_bottles) → P (Soil j e) → Each P (events_of m j e)
    each_move P m a b c d f =
        each_on P m.give_fork _ _ a
        (each_on P (not (m.give_bottles == 0)) _ _ b (each_on P m.ask_fork _ _ c (each_on P (not (m.ask_bottles == 0)) _ _ d (each_on P m.soil _ _ f tt))))

    pub moves_alike : (m : EdgeMoves) (s t : State) → Alike j e s t → IsLegalFrom plan s (events_of m j e)
        → IsLegalFrom plan t (events_of m j e) × Alike j e (after_all plan s (events_of m j e)) (after_all plan t (events_of m j e))
    moves_alike m s t = legal_alike (events_of m j e) s t
        (each_move (IsLocal plan j e) m give_fork_local (give_bottles_local m.give_bottles) ask_fork_local (ask_bottles_local m.ask_bottles) soil_local)

  -- ---- events of a phase: the job's seat alone

  needed_alike : (s t : State) → seat s j ≡ seat t j → HasNeeded plan s j → HasNeeded plan t j
  needed_alike s t own h e at k is needs =
      subst (λ (x : Seat). Has (slice_index_or x.bottle_marks e 0) k) own (h e at k is (needs_alike t s (instrument_of plan e k) (sym own) needs))

  module _ (s t : State) (own : seat s j ≡ seat t j) where
    pub thirst_alike : May plan s (Thirst j) → May plan t (Thirst j)
    thirst_alike m =
        subst (λ (x : Seat). IsJob plan j × (x.phase.drinking ≡ Tranquil) × (x.phase.dining ≢ Eating) × (x.phase.session < length (sessions plan j))) own m

    pub hunger_alike : May plan s (Hunger j) → May plan t (Hunger j)
    hunger_alike m = subst (λ (x : Seat). IsJob plan j × (x.phase.dining ≡ Thinking) × (x.phase.drinking ≡ Thirsty)) own m

    pub sit_alike : May plan s (Sit j) → May plan t (Sit j)
    sit_alike m = subst (λ (x : Seat). IsJob plan j × (x.phase.dining ≡ Hungry) × ((e : ℕ) → IsOwn plan j e → slice_index_or x.fork_marks e false ≡ true)) own m

    pub leave_alike : May plan s (Leave j) → May plan t (Leave j)
    leave_alike m =
        subst (λ (x : Seat). IsJob plan j × (x.phase.dining ≡ Eating) × (x.phase.drinking ≢ Thirsty)
        × ((e : ℕ) → IsOwn plan j e → slice_index_or x.fork_marks e false ≡ true)) own m

    pub drink_alike : May plan s (Drink j) → May plan t (Drink j)
    drink_alike m = (m.0, sym (ap (λ (x : Seat). x.phase.drinking) own) ∙ m.1, needed_alike s t own m.2)

    pub reach_alike : May plan s (Reach j) → May plan t (Reach j)
    reach_alike m = subst (λ (x : Seat). IsJob plan j × (x.phase.drinking ≡ Drinks) × (x.phase.position < length (commands plan j x.phase.session))) own m

    pub act_alike : May plan s (Act j) → May plan t (Act j)
    act_alike m = subst (λ (x : Seat). IsJob plan j × (x.phase.drinking ≡ Reaching)) own m

    pub quit_alike : May plan s (Quit j) → May plan t (Quit j)
    quit_alike m = subst (λ (x : Seat). IsJob plan j × (x.phase.drinking ≡ Drinks) × (length (commands plan j x.phase.session) ≤ x.phase.position)) own m

    pub retire_alike : May plan s (Retire j) → May plan t (Retire j)
    retire_alike m =
        subst (λ (x : Seat). IsJob plan j × (x.phase.dining ≡ Thinking) × (x.phase.drinking ≡ Tranquil) × (length (sessions plan j) ≤ x.phase.session)) own m

    pub withdraw_alike : May plan s (Withdraw j) → May plan t (Withdraw j)
    withdraw_alike m = subst (λ (x : Seat). IsJob plan j × (x.phase.drinking ≡ Thirsty) × IsSome (patience plan j x.phase.session)) own m
