-- What a turn makes of its job's sessions and meals: no more than the phases before it and after it tell.
use Rattle.std.proofs.Common.{◌≡◌, ℕ, ◌<◌, Bool, true, false, if◌then◌else◌, List, [], ◌∷◌, ◌++◌, length, refl, sym, ap, ◌∙◌, subst, inl, inr, append_assoc, append-nil}
use Rattle.lab_plan.specs.LabPlan.{LabPlan}
use Rattle.legal_steps.specs.declared.event.Event.{Event}
use Rattle.legal_steps.specs.declared.event.Event.TheVariants.{Thirst, Hunger, Sit, Leave, Drink, Reach, Act, Quit, Retire, Withdraw}
use Rattle.legal_steps.specs.declared.phase.JobState.{JobState}
use Rattle.legal_steps.specs.declared.phase.Dining.TheVariants.{Thinking, Hungry, Eating}
use Rattle.legal_steps.specs.declared.phase.Drinking.TheVariants.{Tranquil, Thirsty, Drinking as Drinks, Retired}
use Rattle.legal_steps.specs.State.{State, Seat, seat, phase, drinking, dining}
use Rattle.edge_word.specs.declared.moves.EdgeMoves.{EdgeMoves}
use Rattle.edge_word.specs.Moves.{events_of}
use Rattle.legal_steps.specs.Run.{actor}
use Rattle.turns.specs.History.{learned, learned_all}
use Rattle.turns.specs.Changes.{seat_after}
use Rattle.turns.specs.Lists.{Each}
use Rattle.turns.proofs.Frame.{learned_seat, learned_seats}
use Rattle.turns.proofs.Runs.{learned_all-append, learned_all_seats, each-append}
use Rattle.turns.proofs.Local.{each_move}
use Rattle.turns.specs.Acts.{AreFirst, Counts, whole_act, order}
use Rattle.turns.specs.Turn.{Visit, visit_events, visits_events, IsTurnBy}
use Rattle.waiting.specs.Sessions.{Deed, in_round, sessions_of, meals_of}
use Rattle.waiting.specs.Noting.{sessions_then, meals_then}
use Rattle.waiting.proofs.Marks.{deed, session_begins, session_changes, session_stays, meal_begins, meal_changes, meal_stays, sessions_still, meals_still}

-- ---- events that nothing is noted of

pub record IsUnnoted (x : Event) : Type 0 where
  pub sessions : (k : ℕ) (l : List Deed) → sessions_of (l ++ deed k x ∷ []) ≡ sessions_of l
  pub meals : (k : ℕ) (l : List Deed) → meals_of (l ++ deed k x ∷ []) ≡ meals_of l

in_round-append : (k : ℕ) (a b : List Event) → in_round k (a ++ b) ≡ in_round k a ++ in_round k b
in_round-append k [] b = refl
in_round-append k (x ∷ a) b = ap (λ l. deed k x ∷ l) (in_round-append k a b)

sessions_unnoted : (k : ℕ) (events : List Event) (l : List Deed) → Each IsUnnoted events → sessions_of (l ++ in_round k events) ≡ sessions_of l
sessions_unnoted k [] l each = ap sessions_of (append-nil l)
sessions_unnoted k (x ∷ events) l each =
    ap sessions_of (sym (append_assoc l (deed k x ∷ []) (in_round k events))) ∙ (sessions_unnoted k events (l ++ deed k x ∷ []) each.1 ∙ each.0.sessions k l)

meals_unnoted : (k : ℕ) (events : List Event) (l : List Deed) → Each IsUnnoted events → meals_of (l ++ in_round k events) ≡ meals_of l
meals_unnoted k [] l each = ap meals_of (append-nil l)
meals_unnoted k (x ∷ events) l each =
    ap meals_of (sym (append_assoc l (deed k x ∷ []) (in_round k events))) ∙ (meals_unnoted k events (l ++ deed k x ∷ []) each.1 ∙ each.0.meals k l)

module _ (plan : LabPlan) (j : ℕ) where
  -- an event of j that leaves its phase, and of which nothing is noted
  record IsQuiet (x : Event) : Type 0 where
    by : actor x ≡ j
    same : (y : Seat) → (seat_after plan y x).phase ≡ y.phase
    unnoted : IsUnnoted x

  quiet_learned : (s : State) (x : Event) → IsQuiet x → j < length s.seats → phase (learned plan s x) j ≡ phase s j
  quiet_learned s x q inside =
      let own : seat (learned plan s x) j ≡ seat_after plan (seat s j) x =
      subst (λ k. k < length s.seats → seat (learned plan s x) k ≡ seat_after plan (seat s k) x) q.by (learned_seat plan s x) inside in
      ap (λ (y : Seat). y.phase) own ∙ q.same (seat s j)

  quiet_all : (s : State) (events : List Event) → Each IsQuiet events → j < length s.seats → phase (learned_all plan s events) j ≡ phase s j
  quiet_all s [] each inside = refl
  quiet_all s (x ∷ events) each inside =
      quiet_all (learned plan s x) events each.1 (subst (λ n. j < n) (sym (learned_seats plan s x)) inside) ∙ quiet_learned s x each.0 inside

  to_unnoted : (events : List Event) → Each IsQuiet events → Each IsUnnoted events
  to_unnoted [] each = tt
  to_unnoted (x ∷ events) each = (each.0.unnoted, to_unnoted events each.1)

  quiet_moves : (m : EdgeMoves) (e : ℕ) → Each IsQuiet (events_of m j e)
  quiet_moves m e = each_move plan j e IsQuiet m
      (record { by = refl; same = λ y. refl; unnoted = record { sessions = λ k l. session_stays k _ l refl refl; meals = λ k l. meal_stays k _ l refl refl } })
      (record { by = refl; same = λ y. refl; unnoted = record { sessions = λ k l. session_stays k _ l refl refl; meals = λ k l. meal_stays k _ l refl refl } })
      (record { by = refl; same = λ y. refl; unnoted = record { sessions = λ k l. session_stays k _ l refl refl; meals = λ k l. meal_stays k _ l refl refl } })
      (record { by = refl; same = λ y. refl; unnoted = record { sessions = λ k l. session_stays k _ l refl refl; meals = λ k l. meal_stays k _ l refl refl } })
      (record { by = refl; same = λ y. refl; unnoted = record { sessions = λ k l. session_stays k _ l refl refl; meals = λ k l. meal_stays k _ l refl refl } })

  quiet_if : (b : Bool) (events : List Event) → Each IsQuiet events → Each IsQuiet (if b then [] else events)
  quiet_if true events each = tt
  quiet_if false events each = each

  quiet_visits : (visits : List Visit) → Each IsQuiet (visits_events j visits)
  quiet_visits [] = tt
  quiet_visits (v ∷ visits) = each-append IsQuiet (visit_events j v) (visits_events j visits) (
    record { by = refl; same = λ y. refl; unnoted = record { sessions = λ k l. session_stays k _ l refl refl; meals = λ k l. meal_stays k _ l refl refl } },
    quiet_if v.lost (events_of v.moves j v.edge) (quiet_moves v.moves v.edge),
  ) (quiet_visits visits)

  -- ---- phase acts

  -- what is noted of these events is what the phases tell
  pub record Tells (events : List Event) (p q : JobState) : Type 0 where
    pub sessions : (k : ℕ) (l : List Deed) → sessions_of (l ++ in_round k events) ≡ sessions_then k p.drinking q.drinking (sessions_of l)
    pub meals : (k : ℕ) (l : List Deed) → meals_of (l ++ in_round k events) ≡ meals_then k p.dining q.dining (meals_of l)

  tells_none : (p : JobState) → Tells [] p p
  tells_none p = record {
    sessions = λ k l. ap sessions_of (append-nil l) ∙ sym (sessions_still k p.drinking (sessions_of l));
    meals = λ k l. ap meals_of (append-nil l) ∙ sym (meals_still k p.dining (meals_of l));
  }

  module _ (m : State) (waited : ℕ) (inside : j < length m.seats) where
    abbrev now : JobState
    now = phase m j

    abbrev GoesOn : List Event → Type 0
    GoesOn events = Tells events now (phase (learned_all plan m events) j)

    -- one event of j
    goes_on : (x : Event) → actor x ≡ j → Tells (x ∷ []) now (seat_after plan (seat m j) x).phase → GoesOn (x ∷ [])
    goes_on x by tells = subst (Tells (x ∷ []) now) (sym (ap (λ (y : Seat). y.phase) (subst (λ k. k < length m.seats →
        seat (learned plan m x) k ≡ seat_after plan (seat m k) x) by (learned_seat plan m x) inside))) tells

    quit : Counts plan m j waited (Quit j) → GoesOn (Quit j ∷ [])
    quit c = goes_on (Quit j) refl (record {
      sessions = λ k l. session_changes k (Quit j) l refl ∙ sym (ap (λ d. sessions_then k d Tranquil (sessions_of l)) c.0.1);
      meals = λ k l. meal_stays k (Quit j) l refl refl ∙ sym (meals_still k now.dining (meals_of l));
    })

    drink : Counts plan m j waited (Drink j) → GoesOn (Drink j ∷ [])
    drink c = goes_on (Drink j) refl (record {
      sessions = λ k l. session_changes k (Drink j) l refl ∙ sym (ap (λ d. sessions_then k d Drinks (sessions_of l)) c.0.1);
      meals = λ k l. meal_stays k (Drink j) l refl refl ∙ sym (meals_still k now.dining (meals_of l));
    })

    withdraw : Counts plan m j waited (Withdraw j) → GoesOn (Withdraw j ∷ [])
    withdraw c = goes_on (Withdraw j) refl (record {
      sessions = λ k l. session_changes k (Withdraw j) l refl ∙ sym (ap (λ d. sessions_then k d Tranquil (sessions_of l)) c.0.1);
      meals = λ k l. meal_stays k (Withdraw j) l refl refl ∙ sym (meals_still k now.dining (meals_of l));
    })

    thirst : Counts plan m j waited (Thirst j) → GoesOn (Thirst j ∷ [])
    thirst c = goes_on (Thirst j) refl (record {
      sessions = λ k l. session_begins k (Thirst j) l refl ∙ sym (ap (λ d. sessions_then k d Thirsty (sessions_of l)) c.0.1);
      meals = λ k l. meal_stays k (Thirst j) l refl refl ∙ sym (meals_still k now.dining (meals_of l));
    })

    retire : Counts plan m j waited (Retire j) → GoesOn (Retire j ∷ [])
    retire c = goes_on (Retire j) refl (record {
      sessions = λ k l. session_changes k (Retire j) l refl ∙ sym (ap (λ d. sessions_then k d Retired (sessions_of l)) c.0.2);
      meals = λ k l. meal_stays k (Retire j) l refl refl ∙ sym (meals_still k now.dining (meals_of l));
    })

    hunger : Counts plan m j waited (Hunger j) → GoesOn (Hunger j ∷ [])
    hunger c = goes_on (Hunger j) refl (record {
      sessions = λ k l. session_stays k (Hunger j) l refl refl ∙ sym (sessions_still k now.drinking (sessions_of l));
      meals = λ k l. meal_begins k (Hunger j) l refl ∙ sym (ap (λ d. meals_then k d Hungry (meals_of l)) c.0.1);
    })

    sit : Counts plan m j waited (Sit j) → GoesOn (Sit j ∷ [])
    sit c = goes_on (Sit j) refl (record {
      sessions = λ k l. session_stays k (Sit j) l refl refl ∙ sym (sessions_still k now.drinking (sessions_of l));
      meals = λ k l. meal_changes k (Sit j) l refl ∙ sym (ap (λ d. meals_then k d Eating (meals_of l)) c.0.1);
    })

    leave : Counts plan m j waited (Leave j) → GoesOn (Leave j ∷ [])
    leave c = goes_on (Leave j) refl (record {
      sessions = λ k l. session_stays k (Leave j) l refl refl ∙ sym (sessions_still k now.drinking (sessions_of l));
      meals = λ k l. meal_changes k (Leave j) l refl ∙ sym (ap (λ d. meals_then k d Thinking (meals_of l)) c.0.1);
    })

    reach_act : Each IsUnnoted (Reach j ∷ Act j ∷ [])
    reach_act = (
      record { sessions = λ k l. session_stays k (Reach j) l refl refl; meals = λ k l. meal_stays k (Reach j) l refl refl },
      (record { sessions = λ k l. session_stays k (Act j) l refl refl; meals = λ k l. meal_stays k (Act j) l refl refl }, tt),
    )

    reach : Counts plan m j waited (Reach j) → GoesOn (Reach j ∷ Act j ∷ [])
    reach c =
        let w : State = learned plan m (Reach j) in
        let there : seat w j ≡ seat_after plan (seat m j) (Reach j) = learned_seat plan m (Reach j) inside in
        let both : seat (learned plan w (Act j)) j ≡ seat_after plan (seat_after plan (seat m j) (Reach j)) (Act j) =
        learned_seat plan w (Act j) (subst (λ n. j < n) (sym (learned_seats plan m (Reach j))) inside) ∙ ap (λ (y : Seat). seat_after plan y (Act j)) there in
        subst (Tells (Reach j ∷ Act j ∷ []) now) (sym (ap (λ (y : Seat). y.phase) both)) (record {
          sessions = λ k l. sessions_unnoted k (Reach j ∷ Act j ∷ []) l reach_act
              ∙ sym (ap (λ d. sessions_then k d Drinks (sessions_of l)) c.0.1 ∙ sessions_still k Drinks (sessions_of l));
          meals = λ k l. meals_unnoted k (Reach j ∷ Act j ∷ []) l reach_act ∙ sym (meals_still k now.dining (meals_of l));
        })

    acts_go : (list acts : List Event) → Each (λ (x : Event). Counts plan m j waited x → GoesOn (whole_act x)) list → AreFirst plan m j waited list acts → GoesOn acts
    acts_go [] acts each is = subst GoesOn (sym is) (tells_none now)
    acts_go (x ∷ list) acts each (inl both) = subst GoesOn (sym both.1) (each.0 both.0)
    acts_go (x ∷ list) acts each (inr none) = acts_go list acts each.1 none.1

    pub act_goes : (acts : List Event) → AreFirst plan m j waited (order j) acts → GoesOn acts
    act_goes acts first = acts_go (order j) acts (quit, (reach, (drink, (withdraw, (leave, (sit, (thirst, (hunger, (retire, tt))))))))) first

  -- ---- a turn

  pub turn_tells : (waited : ℕ) (s : State) (visits : List Visit) (acts events : List Event) → IsTurnBy plan j waited s visits acts events
      → j < length s.seats → Tells events (phase s j) (phase (learned_all plan s events) j)
  turn_tells waited s visits acts events t inside =
      let before : List Event = visits_events j visits in
      let m : State = learned_all plan s before in
      let there : j < length m.seats = subst (λ n. j < n) (sym (learned_all_seats plan s before)) inside in
      let still : phase m j ≡ phase s j = quiet_all s before (quiet_visits visits) inside in
      let act : Tells acts (phase m j) (phase (learned_all plan m acts) j) = act_goes m waited there acts t.acts_due in
      let last : phase (learned_all plan m acts) j ≡ phase (learned_all plan s events) j =
      ap (λ (w : State). phase w j) (sym (ap (learned_all plan s) t.events_are ∙ learned_all-append plan s before acts)) in
      let apart : (k : ℕ) (l : List Deed) → l ++ in_round k events ≡ (l ++ in_round k before) ++ in_round k acts =
      λ k l. ap (λ z. l ++ in_round k z) t.events_are ∙ (ap (λ z. l ++ z) (in_round-append k before acts) ∙ sym (append_assoc l (in_round k before) (in_round k acts))) in
      subst (λ (z : JobState × JobState). Tells events z.0 z.1) (λ i. (still i, last i)) (record {
        sessions = λ k l. ap sessions_of (apart k l) ∙ (act.sessions k (l ++ in_round k before)
            ∙ ap (λ z. sessions_then k (drinking m j) (drinking (learned_all plan m acts) j) z) (sessions_unnoted k before l (to_unnoted before (quiet_visits visits))));
        meals = λ k l. ap meals_of (apart k l) ∙ (act.meals k (l ++ in_round k before)
            ∙ ap (λ z. meals_then k (dining m j) (dining (learned_all plan m acts) j) z) (meals_unnoted k before l (to_unnoted before (quiet_visits visits))));
      })
