-- What a job knows by its events of a history fits the plan, and it has no fork mark but at its own edges.
use Rattle.std.proofs.Common.{◌≡◌, ℕ, ◌<◌, ◌≤◌, Bool, true, false, ◌==◌, List, [], ◌∷◌, length, get_or, set, sym, ap, ◌∙◌, subst, inl, inr, arith, get_or-set_other}
use Rattle.std.proofs.lemmas.Bool.{cases_eq, eq-eqb, ne_eqb}
use Rattle.std.proofs.lemmas.Nat.{xor_lt}
use Rattle.lab_plan.specs.LabPlan.{LabPlan, edges, bottles, sessions}
use Rattle.legal_steps.specs.declared.edge_state.EdgeState.{EdgeState}
use Rattle.legal_steps.specs.declared.event.Event.{Event}
use Rattle.legal_steps.specs.declared.event.Event.TheVariants.{Look, AskFork, GiveFork, Soil, AskBottles, GiveBottles, Thirst, Hunger}
use Rattle.legal_steps.specs.declared.event.Event.TheVariants.{Sit, Leave, Drink, Reach, Act, Quit, Retire, Glance, Withdraw}
use Rattle.legal_steps.specs.State.{Seat, State, IsOwn, IsInSession, edge, seat, fork_mark}
use Rattle.legal_steps.specs.Legal.{May, after, with_edge, fork_asked, fork_given, fork_soiled, bottles_asked, bottles_given}
use Rattle.legal_steps.specs.Run.{IsLegalFrom, after_all, actor}
use Rattle.legal_steps.specs.Opening.{the_opening}
use Rattle.legal_steps.specs.Fitting.{Fits, IsSeatOf}
use Rattle.legal_steps.proofs.FitsWrites.{edge_same, edge_other}
use Rattle.legal_steps.proofs.ReachedInvariant.{IsSound, sound_opening, sound_after}
use Rattle.legal_steps.proofs.ReachedLaws.{the_opening_is_acyclic}
use Rattle.edge_word.specs.Words.{IsOfBottles}
use Rattle.turns.specs.History.{IsHistory, events_by, learned, learned_all, known_by}
use Rattle.turns.specs.Changes.{seat_after}
use Rattle.turns.proofs.Frame.{as_many_seats, own_seat, other_seat, learned_edges}
use Rattle.turns.proofs.Runs.{own_known, opening_seats, opening_edges}
use Rattle.turns.proofs.Histories.{edge_fits, history_fits}
use Rattle.edge_rule.specs.DeskInside.{AreOfPlan}
use Rattle.edge_rule.specs.Standing.{seat_known, IsKnownAfter}
use Rattle.edge_rule.specs.declared.job_knowledge.JobKnowledge.{JobKnowledge}
use Rattle.edge_rule.proofs.StillEdges.{all_same}

module _ (p : LabPlan) (j : ℕ) where
  -- ---- the edges

  edge_written : (s : State) (e : ℕ) (x : EdgeState) → length s.edges ≡ length (edges p)
      → IsOfBottles (length (bottles p e)) x → AreOfPlan p s.edges → AreOfPlan p (with_edge s e x).edges
  edge_written s e x wide fit all f inside = elim (cases_eq f e) [
    | inl is ↦ subst (λ (k : ℕ). IsOfBottles (length (bottles p k)) (edge (with_edge s e x) k)) (sym is)
        (subst (IsOfBottles (length (bottles p e))) (sym (edge_same s e x (omega arith))) fit)
    | inr other ↦ subst (IsOfBottles (length (bottles p f))) (sym (edge_other s e x f other)) (all f inside)
  ]

  -- what a job learns by a legal event of its own fits, whatever it knew before
  learned_fits : (w s : State) (event : Event) → May p w event → Fits p w → length s.edges ≡ length (edges p)
      → AreOfPlan p s.edges → AreOfPlan p (learned p s event).edges
  learned_fits w s (Look k e seen) may fit wide all =
      edge_written s e seen wide (subst (IsOfBottles (length (bottles p e))) (sym may.1) (edge_fits p w e fit may.0.is_edge)) all
  learned_fits w s (AskFork k e) may fit wide all = let x = all e may.0.is_edge in
      edge_written s e (fork_asked (edge s e)) wide (record { bottles_fit = x.bottles_fit; tokens_fit = x.tokens_fit }) all
  learned_fits w s (GiveFork k e) may fit wide all = let x = all e may.0.is_edge in
      edge_written s e (fork_given (edge s e)) wide (record { bottles_fit = x.bottles_fit; tokens_fit = x.tokens_fit }) all
  learned_fits w s (Soil k e) may fit wide all = let x = all e may.0.is_edge in
      edge_written s e (fork_soiled (edge s e)) wide (record { bottles_fit = x.bottles_fit; tokens_fit = x.tokens_fit }) all
  learned_fits w s (AskBottles k e set) may fit wide all = let x = all e may.0.is_edge in
      edge_written s e (bottles_asked set (edge s e)) wide (record {
        bottles_fit = x.bottles_fit;
        tokens_fit = xor_lt (length (bottles p e)) (edge s e).bottle_tokens set x.tokens_fit may.2.of_edge;
      }) all
  learned_fits w s (GiveBottles k e set) may fit wide all = let x = all e may.0.is_edge in
      edge_written s e (bottles_given set (edge s e)) wide (record {
        bottles_fit = xor_lt (length (bottles p e)) (edge s e).bottles set x.bottles_fit may.1.of_edge;
        tokens_fit = x.tokens_fit;
      }) all
  learned_fits w s (Thirst k) may fit wide all = all
  learned_fits w s (Hunger k) may fit wide all = all
  learned_fits w s (Sit k) may fit wide all = all
  learned_fits w s (Leave k) may fit wide all = all
  learned_fits w s (Drink k) may fit wide all = all
  learned_fits w s (Reach k) may fit wide all = all
  learned_fits w s (Act k) may fit wide all = all
  learned_fits w s (Quit k) may fit wide all = all
  learned_fits w s (Retire k) may fit wide all = all
  learned_fits w s (Glance k other seen) may fit wide all = all
  learned_fits w s (Withdraw k) may fit wide all = all

  all_learned_fits : (w s : State) (h : List Event) → IsLegalFrom p w h → IsSound p w → length s.edges ≡ length (edges p)
      → AreOfPlan p s.edges → AreOfPlan p (learned_all p s (events_by j h)).edges
  all_learned_fits w s [] legal sound wide all = all
  all_learned_fits w s (x ∷ h) legal sound wide all = let next = sound_after p w x sound legal.0 in elim (cases_eq (actor x) j) [
    | inl is ↦ let here : (actor x == j) ≡ true = eq-eqb (actor x) j is in
        rw here (all_learned_fits (after p w x) (learned p s x) h legal.1 next (learned_edges p s x ∙ wide) (learned_fits w s x legal.0 sound.fits wide all))
    | inr ne ↦ let there : (actor x == j) ≡ false = ne_eqb (actor x) j ne in
        rw there (all_learned_fits (after p w x) s h legal.1 next wide all)
  ]

  opens_sound : IsSound p (the_opening p)
  opens_sound = sound_opening p (the_opening p) (the_opening_is_acyclic p).0

  pub known_of_plan : (past : List Event) → IsHistory p past → AreOfPlan p (known_by p (events_by j past)).edges
  known_of_plan past legal = all_learned_fits (the_opening p) (the_opening p) past legal opens_sound (opening_edges p)
      (λ e inside. edge_fits p (the_opening p) e opens_sound.fits inside)

  -- ---- the fork marks

  abbrev IsUnmarked : Seat → Type 0
  IsUnmarked x = (e : ℕ) → ¬ IsOwn p j e → get_or x.fork_marks e false ≡ false

  one_marked : (x : Seat) (k e : ℕ) (mark : Bool) → k ≡ j → IsOwn p k e → IsUnmarked x
      → (f : ℕ) → ¬ IsOwn p j f → get_or (set x.fork_marks e mark) f false ≡ false
  one_marked x k e mark by own un f others =
      get_or-set_other x.fork_marks e f mark false (λ is. others (subst (IsOwn p j) (sym is) (subst (λ (i : ℕ). IsOwn p i e) by own))) ∙ un f others

  seat_unmarked : (w : State) (x : Seat) (event : Event) → actor event ≡ j → May p w event → IsUnmarked x → IsUnmarked (seat_after p x event)
  seat_unmarked w x (Look k e seen) by may un = one_marked x k e _ by may.0 un
  seat_unmarked w x (AskFork k e) by may un = un
  seat_unmarked w x (GiveFork k e) by may un = one_marked x k e false by may.0 un
  seat_unmarked w x (Soil k e) by may un = one_marked x k e true by may.0 un
  seat_unmarked w x (AskBottles k e set) by may un = un
  seat_unmarked w x (GiveBottles k e set) by may un = un
  seat_unmarked w x (Thirst k) by may un = un
  seat_unmarked w x (Hunger k) by may un = un
  seat_unmarked w x (Sit k) by may un = λ f others. all_same (length x.fork_marks) f false
  seat_unmarked w x (Leave k) by may un = λ f others. all_same (length x.fork_marks) f false
  seat_unmarked w x (Drink k) by may un = un
  seat_unmarked w x (Reach k) by may un = un
  seat_unmarked w x (Act k) by may un = un
  seat_unmarked w x (Quit k) by may un = un
  seat_unmarked w x (Retire k) by may un = un
  seat_unmarked w x (Glance k other seen) by may un = un
  seat_unmarked w x (Withdraw k) by may un = un

  all_unmarked : (w : State) (h : List Event) → IsLegalFrom p w h → j < length w.seats → IsUnmarked (seat w j) → IsUnmarked (seat (after_all p w h) j)
  all_unmarked w [] legal inside un = un
  all_unmarked w (x ∷ h) legal inside un = let more = as_many_seats p w x in all_unmarked (after p w x) h legal.1 (omega arith) (elim (cases_eq (actor x) j) [
    | inl is ↦
        let own : seat (after p w x) j ≡ seat_after p (seat w j) x =
        subst (λ (i : ℕ). i < length w.seats → seat (after p w x) i ≡ seat_after p (seat w i) x) is (own_seat p w x) inside in
        subst IsUnmarked (sym own) (seat_unmarked w (seat w j) x is legal.0 un)
    | inr ne ↦ subst IsUnmarked (sym (other_seat p w x j (λ e. ne (sym e)))) un
  ])

  pub known_unmarked : (past : List Event) → IsHistory p past → j < length p.jobs → IsUnmarked (seat (the_opening p) j)
      → (e : ℕ) → ¬ IsOwn p j e → fork_mark (known_by p (events_by j past)) j e ≡ false
  known_unmarked past legal job opens e others = let n = opening_seats p in
      ap (λ (x : Seat). get_or x.fork_marks e false) (sym (own_known p j past job)) ∙ all_unmarked (the_opening p) past legal (omega arith) opens e others

  -- ---- the seat

  pub seat_of_knowledge : {A : Type 0} (past : List Event) (k : JobKnowledge A) → IsHistory p past → j < length p.jobs
      → IsKnownAfter p past j k → IsSeatOf p j (seat_known k)
  seat_of_knowledge past k legal job is = subst (IsSeatOf p j) (own_known p j past job ∙ is.own) ((history_fits p past legal).seats_fit j job)

  pub session_within : {A : Type 0} (past : List Event) (k : JobKnowledge A) → IsHistory p past → j < length p.jobs → IsKnownAfter p past j k
      → IsInSession k.phase.drinking → (1 ≤ k.phase.session) × (k.phase.session ≤ length (sessions p j))
  session_within past k legal job is h = let x = (seat_of_knowledge past k legal job is).phase_within in (x.begun h, x.session_there)
