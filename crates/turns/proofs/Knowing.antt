-- What a job knows by its own events: its seat, and its counts.
use Rattle.std.proofs.Common.{◌≡◌, ℕ, ◌+◌, ◌<◌, cond, Bool, true, false, List, [], ◌∷◌, ◌++◌, length, refl, sym, ap, subst, ◌∙◌, arith}
use Rattle.std.specs.List.{count_by}
use Rattle.std.proofs.lemmas.List.Sums.{sum_by-cons}
use Rattle.legal_steps.specs.declared.event.Event.{Event}
use Rattle.legal_steps.specs.declared.event.Event.TheVariants.{Look, Sit, Quit, Withdraw}
use Rattle.legal_steps.specs.State.{State, edge}
use Rattle.legal_steps.specs.Opening.{the_opening}
use Rattle.legal_steps.proofs.FitsWrites.{edge_same, edge_other}
use Rattle.legal_steps.specs.Run.{is_sit, is_quit, is_withdraw}
use Rattle.turns.specs.History.{is_by, events_by, learned, known_by}
use Rattle.turns.specs.Locality.{KnowsItself, KnowsWhatItSaw, CountsItself}
use Rattle.turns.proofs.Runs.{learned_all-append, learned_all_edges, opening_edges, own_known}

pub knows_itself : KnowsItself
knows_itself plan h j job = own_known plan j h job

abbrev gain : Bool → ℕ
gain b = cond b 1 0

-- what is counted is by the job
counted : (j : ℕ) (p : Event → Bool) → ((x : Event) → is_by j x ≡ false → p x ≡ false) → (h : List Event) → count_by p (events_by j h) ≡ count_by p h
counted j p none [] = refl
counted j p none (x ∷ h) = at (is_by j x) refl (counted j p none h) where
  more : count_by p (x ∷ h) ≡ cond (p x) 1 0 + count_by p h
  more = sum_by-cons (λ y. cond (p y) 1 0) x h

  at : (b : Bool) → is_by j x ≡ b → count_by p (events_by j h) ≡ count_by p h → count_by p (cond b (x ∷ events_by j h) (events_by j h)) ≡ count_by p (x ∷ h)
  at true is later = sum_by-cons (λ y. cond (p y) 1 0) x (events_by j h) ∙ (ap (λ n. cond (p x) 1 0 + n) later ∙ sym more)
  at false is later = let nothing_more : gain (p x) ≡ 0 = ap gain (none x is) in omega (arith, later, nothing_more, more)

sits : (j : ℕ) (x : Event) → is_by j x ≡ false → is_sit j x ≡ false
sits j (Sit k) is = is
sits j _ is = refl

quits : (j : ℕ) (x : Event) → is_by j x ≡ false → is_quit j x ≡ false
quits j (Quit k) is = is
quits j _ is = refl

withdraws : (j : ℕ) (x : Event) → is_by j x ≡ false → is_withdraw j x ≡ false
withdraws j (Withdraw k) is = is
withdraws j _ is = refl

pub counts_itself : CountsItself
counts_itself h j = (counted j (is_sit j) (sits j) h, counted j (is_quit j) (quits j) h, counted j (is_withdraw j) (withdraws j) h)

pub knows_what_it_saw : KnowsWhatItSaw
knows_what_it_saw plan deeds j e seen inside =
    let before : State = known_by plan deeds in
    let ends : known_by plan (deeds ++ Look j e seen ∷ []) ≡ learned plan before (Look j e seen) =
    learned_all-append plan (the_opening plan) deeds (Look j e seen ∷ []) in
    let there : e < length before.edges = subst (λ n. e < n) (sym (learned_all_edges plan (the_opening plan) deeds ∙ opening_edges plan)) inside in
    (ap (λ (s : State). edge s e) ends ∙ edge_same before e seen there, λ f other. ap (λ (s : State). edge s f) ends ∙ edge_other before e seen f other)
