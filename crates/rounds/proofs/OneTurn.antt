-- The events of a turn are its job's, and leave it not reaching.
use Rattle.std.proofs.Common.{◌≡◌, ◌≢◌, ℕ, ◌<◌, Bool, true, false, if◌then◌else◌, List, [], ◌∷◌, length, refl, sym, ap, ◌∙◌, subst, inl, inr}
use Rattle.lab_plan.specs.LabPlan.{LabPlan}
use Rattle.legal_steps.specs.declared.event.Event.{Event}
use Rattle.legal_steps.specs.declared.event.Event.TheVariants.{Thirst, Hunger, Sit, Leave, Drink, Reach, Act, Quit, Retire, Withdraw}
use Rattle.legal_steps.specs.declared.phase.JobState.{JobState}
use Rattle.legal_steps.specs.declared.phase.Drinking.{Drinking}
use Rattle.legal_steps.specs.declared.phase.Drinking.TheVariants.{Reaching}
use Rattle.legal_steps.specs.State.{State, Seat, seat, phase, drinking}
use Rattle.edge_word.specs.declared.moves.EdgeMoves.{EdgeMoves}
use Rattle.edge_word.specs.Moves.{events_of}
use Rattle.legal_steps.specs.Run.{actor}
use Rattle.turns.specs.History.{learned, learned_all}
use Rattle.turns.specs.Changes.{seat_after}
use Rattle.turns.specs.Lists.{Each}
use Rattle.turns.proofs.Frame.{learned_seat, learned_seats}
use Rattle.turns.proofs.Runs.{learned_all-append, learned_all_seats, each_map, each-append}
use Rattle.turns.proofs.Local.{each_move}
use Rattle.turns.specs.Acts.{AreFirst, whole_act, order}
use Rattle.turns.specs.Turn.{Visit, visit_events, visits_events, IsTurnBy}

module _ (plan : LabPlan) (j : ℕ) where
  -- an event of j that leaves its phase
  record IsQuickOf (x : Event) : Type 0 where
    by : actor x ≡ j
    same : (y : Seat) → (seat_after plan y x).phase ≡ y.phase

  quick_learned : (s : State) (x : Event) → IsQuickOf x → j < length s.seats → phase (learned plan s x) j ≡ phase s j
  quick_learned s x q inside =
      let own : seat (learned plan s x) j ≡ seat_after plan (seat s j) x =
      subst (λ k. k < length s.seats → seat (learned plan s x) k ≡ seat_after plan (seat s k) x) q.by (learned_seat plan s x) inside in
      ap (λ (y : Seat). y.phase) own ∙ q.same (seat s j)

  quick_all : (s : State) (events : List Event) → Each IsQuickOf events → j < length s.seats → phase (learned_all plan s events) j ≡ phase s j
  quick_all s [] each inside = refl
  quick_all s (x ∷ events) each inside =
      quick_all (learned plan s x) events each.1 (subst (λ n. j < n) (sym (learned_seats plan s x)) inside) ∙ quick_learned s x each.0 inside

  quick_moves : (m : EdgeMoves) (e : ℕ) → Each IsQuickOf (events_of m j e)
  quick_moves m e = each_move plan j e IsQuickOf m
      (record { by = refl; same = λ y. refl }) (record { by = refl; same = λ y. refl }) (record { by = refl; same = λ y. refl })
      (record { by = refl; same = λ y. refl }) (record { by = refl; same = λ y. refl })

  quick_if : (b : Bool) (events : List Event) → Each IsQuickOf events → Each IsQuickOf (if b then [] else events)
  quick_if true events each = tt
  quick_if false events each = each

  quick_visits : (visits : List Visit) → Each IsQuickOf (visits_events j visits)
  quick_visits [] = tt
  quick_visits (v ∷ visits) = each-append IsQuickOf (visit_events j v) (visits_events j visits)
      (record { by = refl; same = λ y. refl }, quick_if v.lost (events_of v.moves j v.edge) (quick_moves v.moves v.edge)) (quick_visits visits)

  -- ---- phase acts

  abbrev IsBy : Event → Type 0
  IsBy x = actor x ≡ j

  acts_by : (k : State) (waited : ℕ) (list : List Event) (acts : List Event)
      → Each (λ (x : Event). Each IsBy (whole_act x)) list → AreFirst plan k j waited list acts → Each IsBy acts
  acts_by k waited [] acts each is = subst (Each IsBy) (sym is) tt
  acts_by k waited (x ∷ list) acts each (inl both) = subst (Each IsBy) (sym both.1) each.0
  acts_by k waited (x ∷ list) acts each (inr none) = acts_by k waited list acts each.1 none.1

  order_by : Each (λ (x : Event). Each IsBy (whole_act x)) (order j)
  order_by = ((refl, tt), ((refl, (refl, tt)), ((refl, tt), ((refl, tt), ((refl, tt), ((refl, tt), ((refl, tt), ((refl, tt), ((refl, tt), tt)))))))))

  -- the act leaves a job that doesn't reach not reaching
  abbrev Rests : State → Type 0
  Rests s = drinking s j ≢ Reaching

  abbrev KeepsRest : List Event → Type 0
  KeepsRest events = (s : State) → j < length s.seats → Rests s → Rests (learned_all plan s events)

  acts_rest : (k : State) (waited : ℕ) (list : List Event) (acts : List Event)
      → Each (λ (x : Event). KeepsRest (whole_act x)) list → AreFirst plan k j waited list acts → KeepsRest acts
  acts_rest k waited [] acts each is = subst KeepsRest (sym is) (λ s inside rests. rests)
  acts_rest k waited (x ∷ list) acts each (inl both) = subst KeepsRest (sym both.1) each.0
  acts_rest k waited (x ∷ list) acts each (inr none) = acts_rest k waited list acts each.1 none.1

  drinks_then : (s : State) (x : Event) → actor x ≡ j → j < length s.seats → drinking (learned plan s x) j ≡ (seat_after plan (seat s j) x).phase.drinking
  drinks_then s x by inside =
      ap (λ (y : Seat). y.phase.drinking)
      (subst (λ k. k < length s.seats → seat (learned plan s x) k ≡ seat_after plan (seat s k) x) by (learned_seat plan s x) inside)

  other_than : (d e : Drinking) → d ≡ e → e ≢ Reaching → d ≢ Reaching
  other_than d e is other reaching = other (sym is ∙ reaching)

  quit_rests : KeepsRest (whole_act (Quit j))
  quit_rests s inside rests = other_than _ _ (drinks_then s (Quit j) refl inside) (λ e. cc)

  reach_rests : KeepsRest (whole_act (Reach j))
  reach_rests s inside rests =
      other_than _ _ (drinks_then (learned plan s (Reach j)) (Act j) refl (subst (λ n. j < n) (sym (learned_seats plan s (Reach j))) inside)) (λ e. cc)

  drink_rests : KeepsRest (whole_act (Drink j))
  drink_rests s inside rests = other_than _ _ (drinks_then s (Drink j) refl inside) (λ e. cc)

  withdraw_rests : KeepsRest (whole_act (Withdraw j))
  withdraw_rests s inside rests = other_than _ _ (drinks_then s (Withdraw j) refl inside) (λ e. cc)

  leave_rests : KeepsRest (whole_act (Leave j))
  leave_rests s inside rests = other_than _ _ (drinks_then s (Leave j) refl inside) rests

  sit_rests : KeepsRest (whole_act (Sit j))
  sit_rests s inside rests = other_than _ _ (drinks_then s (Sit j) refl inside) rests

  thirst_rests : KeepsRest (whole_act (Thirst j))
  thirst_rests s inside rests = other_than _ _ (drinks_then s (Thirst j) refl inside) (λ e. cc)

  hunger_rests : KeepsRest (whole_act (Hunger j))
  hunger_rests s inside rests = other_than _ _ (drinks_then s (Hunger j) refl inside) rests

  retire_rests : KeepsRest (whole_act (Retire j))
  retire_rests s inside rests = other_than _ _ (drinks_then s (Retire j) refl inside) (λ e. cc)

  order_rests : Each (λ (x : Event). KeepsRest (whole_act x)) (order j)
  order_rests = (quit_rests, (reach_rests, (drink_rests, (withdraw_rests, (leave_rests, (sit_rests, (thirst_rests, (hunger_rests, (retire_rests, tt)))))))))

  -- ---- a turn

  module _ (waited : ℕ) (s : State) (visits : List Visit) (acts events : List Event) (t : IsTurnBy plan j waited s visits acts events) where
    pub turn_by : Each (λ (x : Event). actor x ≡ j) events
    turn_by = subst (Each IsBy) (sym t.events_are) (each-append IsBy (visits_events j visits) acts
        (each_map IsQuickOf IsBy (λ x q. q.by) (visits_events j visits) (quick_visits visits))
        (acts_by (learned_all plan s (visits_events j visits)) waited (order j) acts order_by t.acts_due))

    pub turn_rests : j < length s.seats → drinking s j ≢ Reaching → drinking (learned_all plan s events) j ≢ Reaching
    turn_rests inside rests =
        let m : State = learned_all plan s (visits_events j visits) in
        let there : j < length m.seats = subst (λ n. j < n) (sym (learned_all_seats plan s (visits_events j visits))) inside in
        let still : drinking m j ≡ drinking s j = ap (λ (x : JobState). x.drinking) (quick_all s (visits_events j visits) (quick_visits visits) inside) in
        let after : Rests (learned_all plan m acts) = acts_rest m waited (order j) acts order_rests t.acts_due m there (other_than _ _ still rests) in
        subst Rests (sym (ap (learned_all plan s) t.events_are ∙ learned_all-append plan s (visits_events j visits) acts)) after
