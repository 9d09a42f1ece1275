-- Counts go on event by event, and those of a record that is whole in a history are few.
use Rattle.std.proofs.Common.{◌≡◌, ℕ, ◌+◌, Bool, true, false, cond, List, [], ◌∷◌, ◌++◌, filter, zero-add, arith, refl, sym, ap, ◌∙◌}
use Rattle.std.specs.List.{count_by}
use Rattle.std.proofs.lemmas.Bool.{eq-eqb}
use Rattle.std.proofs.lemmas.List.Sums.{sum_by-cons, sum_by-append}
use Rattle.lab_plan.specs.LabPlan.{LabPlan}
use Rattle.lab_plan.specs.IsPlan.{IsPlan}
use Rattle.legal_steps.specs.declared.event.Event.{Event}
use Rattle.legal_steps.specs.declared.event.Event.TheVariants.{Sit, Quit, Withdraw}
use Rattle.legal_steps.specs.Opening.{the_opening}
use Rattle.legal_steps.specs.Run.{is_sit, is_quit, is_withdraw}
use Rattle.legal_steps.proofs.CountLaw.{done_few}
use Rattle.legal_steps.proofs.MealLaw.{meals_few}
use Rattle.legal_steps.proofs.ReachedLaws.{the_opening_is_acyclic}
use Rattle.edge_word.specs.declared.moves.EdgeMoves.{EdgeMoves}
use Rattle.edge_word.specs.Moves.{events_of}
use Rattle.turns.specs.History.{IsHistory, events_by, is_by}
use Rattle.turns.specs.Lists.{Each}
use Rattle.turns.proofs.Local.{each_move}
use Rattle.one_history.specs.declared.phase_event.PhaseEvent.{PhaseEvent}
use Rattle.one_history.specs.declared.phase_event.PhaseEvent.TheVariants as phase_events
use Rattle.one_history.specs.PhaseEvents.{event_of}
use Rattle.legal_steps.specs.declared.counts.Counts.{Counts}
use Rattle.legal_steps.specs.Counting.{counts_of}
use Rattle.edge_rule.specs.Counting.{counted, AreFew}

same_counts : (a b : Counts) → a.meals ≡ b.meals → a.sessions_done ≡ b.sessions_done → a.withdrawn ≡ b.withdrawn → a ≡ b
same_counts a b meals done withdrawn = λ i. record { meals = meals i; sessions_done = done i; withdrawn = withdrawn i }

count_joined : (p : Event → Bool) (xs ys : List Event) → count_by p (xs ++ ys) ≡ count_by p xs + count_by p ys
count_joined p xs ys = sum_by-append (λ e. cond (p e) 1 0) xs ys

count_first : (p : Event → Bool) (x : Event) (xs : List Event) → count_by p (x ∷ xs) ≡ cond (p x) 1 0 + count_by p xs
count_first p x xs = sum_by-cons (λ e. cond (p e) 1 0) x xs

-- ---- events that aren't counted

abbrev pub IsUncounted : ℕ → Event → Type 0
IsUncounted j x = (is_sit j x ≡ false) × (is_quit j x ≡ false) × (is_withdraw j x ≡ false)

none_in : (p : Event → Bool) (g : List Event) → Each (λ x. p x ≡ false) g → count_by p g ≡ 0
none_in p [] e = refl
none_in p (x ∷ g) e = count_first p x g ∙ ((λ i. cond (e.0 i) 1 0 + count_by p g) ∙ (let none = none_in p g e.1 in omega arith))

stays : (p : Event → Bool) (xs g : List Event) → Each (λ x. p x ≡ false) g → count_by p (xs ++ g) ≡ count_by p xs
stays p xs g e = omega (arith, count_joined p xs g, none_in p g e)

module _ (j : ℕ) where
  no_sit : (g : List Event) → Each (IsUncounted j) g → Each (λ x. is_sit j x ≡ false) g
  no_sit [] e = tt
  no_sit (x ∷ g) e = (e.0.0, no_sit g e.1)

  no_quit : (g : List Event) → Each (IsUncounted j) g → Each (λ x. is_quit j x ≡ false) g
  no_quit [] e = tt
  no_quit (x ∷ g) e = (e.0.1, no_quit g e.1)

  no_withdraw : (g : List Event) → Each (IsUncounted j) g → Each (λ x. is_withdraw j x ≡ false) g
  no_withdraw [] e = tt
  no_withdraw (x ∷ g) e = (e.0.2, no_withdraw g e.1)

  pub counts_stay : (deeds g : List Event) → Each (IsUncounted j) g → counts_of j (deeds ++ g) ≡ counts_of j deeds
  counts_stay deeds g e =
      same_counts _ _ (stays (is_sit j) deeds g (no_sit g e)) (stays (is_quit j) deeds g (no_quit g e)) (stays (is_withdraw j) deeds g (no_withdraw g e))

  pub moves_uncounted : (plan : LabPlan) (e : ℕ) (m : EdgeMoves) → Each (IsUncounted j) (events_of m j e)
  moves_uncounted plan e m = each_move plan j e (IsUncounted j) m (refl, refl, refl) (refl, refl, refl) (refl, refl, refl) (refl, refl, refl) (refl, refl, refl)

-- ---- events that are counted

none_more : (p : Event → Bool) (xs : List Event) (x : Event) → p x ≡ false → count_by p (xs ++ x ∷ []) ≡ count_by p xs
none_more p xs x absent = stays p xs (x ∷ []) (absent, tt)

one_more : (p : Event → Bool) (xs : List Event) (x : Event) → p x ≡ true → count_by p (xs ++ x ∷ []) ≡ count_by p xs + 1
one_more p xs x there =
    let one : count_by p (x ∷ []) ≡ 1 = count_first p x [] ∙ ((λ i. cond (there i) 1 0 + count_by p []) ∙ omega arith) in
    omega (arith, count_joined p xs (x ∷ []))

pub counts_grow : (what : PhaseEvent) (j : ℕ) (xs : List Event) → counts_of j (xs ++ event_of what j ∷ []) ≡ counted what (counts_of j xs)
counts_grow phase_events.Thirst j xs = counts_stay j xs _ ((refl, refl, refl), tt)
counts_grow phase_events.Hunger j xs = counts_stay j xs _ ((refl, refl, refl), tt)
counts_grow phase_events.Sit j xs =
    same_counts _ _ (one_more (is_sit j) xs (Sit j) (eq-eqb j j refl)) (none_more (is_quit j) xs (Sit j) refl) (none_more (is_withdraw j) xs (Sit j) refl)
counts_grow phase_events.Leave j xs = counts_stay j xs _ ((refl, refl, refl), tt)
counts_grow phase_events.Drink j xs = counts_stay j xs _ ((refl, refl, refl), tt)
counts_grow phase_events.Quit j xs =
    same_counts _ _ (none_more (is_sit j) xs (Quit j) refl) (one_more (is_quit j) xs (Quit j) (eq-eqb j j refl)) (none_more (is_withdraw j) xs (Quit j) refl)
counts_grow phase_events.Retire j xs = counts_stay j xs _ ((refl, refl, refl), tt)
counts_grow phase_events.Withdraw j xs =
    same_counts _ _ (none_more (is_sit j) xs (Withdraw j) refl) (none_more (is_quit j) xs (Withdraw j) refl)
    (one_more (is_withdraw j) xs (Withdraw j) (eq-eqb j j refl))

-- ---- the record of a job, and the whole history

not_sit : (j : ℕ) (x : Event) → is_by j x ≡ false → is_sit j x ≡ false
not_sit j (Sit k) h = h
not_sit j _ h = refl

not_quit : (j : ℕ) (x : Event) → is_by j x ≡ false → is_quit j x ≡ false
not_quit j (Quit k) h = h
not_quit j _ h = refl

not_withdraw : (j : ℕ) (x : Event) → is_by j x ≡ false → is_withdraw j x ≡ false
not_withdraw j (Withdraw k) h = h
not_withdraw j _ h = refl

module _ (p q : Event → Bool) (within : (x : Event) → q x ≡ false → p x ≡ false) where
  step_by : (x : Event) (xs : List Event) (b : Bool) → q x ≡ b → count_by p (filter q xs) ≡ count_by p xs
      → count_by p (cond b (x ∷ filter q xs) (filter q xs)) ≡ count_by p (x ∷ xs)
  step_by x xs true is h = count_first p x (filter q xs) ∙ (ap (λ n. cond (p x) 1 0 + n) h ∙ sym (count_first p x xs))
  step_by x xs false is h = h ∙ sym (count_first p x xs ∙ (ap (λ b. cond b 1 0 + count_by p xs) (within x is) ∙ zero-add (count_by p xs)))

  filtered : (xs : List Event) → count_by p (filter q xs) ≡ count_by p xs
  filtered [] = refl
  filtered (x ∷ xs) = step_by x xs (q x) refl (filtered xs)

pub counts_whole : (j : ℕ) (h : List Event) → counts_of j (events_by j h) ≡ counts_of j h
counts_whole j h = same_counts _ _ (filtered (is_sit j) (is_by j) (not_sit j) h)
    (filtered (is_quit j) (is_by j) (not_quit j) h) (filtered (is_withdraw j) (is_by j) (not_withdraw j) h)

pub few_in : (plan : LabPlan) (j : ℕ) (h : List Event) → IsPlan plan → IsHistory plan h → AreFew (counts_of j h)
few_in plan j h is_plan legal =
    let opens = (the_opening_is_acyclic plan).0 in
    let both = done_few plan (the_opening plan) h j is_plan opens legal in
    record { few_meals = meals_few plan (the_opening plan) h j is_plan opens legal; few_sessions = omega arith; few_withdrawn = omega arith }
