-- What the looks of an idle turn leave: marks that are up to date, and what each look saw.
use Rattle.std.proofs.Common.{◌≡◌, ◌≢◌, ℕ, ◌<◌, Bool, false, if◌then◌else◌, List, [], ◌∷◌, length, map, Option, Some, slice_index_or, refl, sym, ap, ◌∙◌, subst, inl, inr, length-set, get_or-set_same, get_or-set_other}
use Rattle.std.proofs.lemmas.Bool.{cases_eq, eq-eqb, ne_eqb}
use Rattle.lab_plan.specs.LabPlan.{LabPlan}
use Rattle.legal_steps.specs.declared.edge_state.EdgeState.{EdgeState}
use Rattle.legal_steps.specs.declared.event.Event.{Event}
use Rattle.legal_steps.specs.declared.event.Event.TheVariants.{Look}
use Rattle.legal_steps.specs.State.{State, Seat, edge, seat, dining, end_of, bottles_at}
use Rattle.legal_steps.specs.Legal.{fork_mark_seen}
use Rattle.legal_steps.proofs.FitsWrites.{edge_same, edge_other}
use Rattle.overtaking.specs.Stuck.{IsUpToDate}
use Rattle.turns.specs.History.{learned, learned_all}
use Rattle.turns.specs.Changes.{seat_after}
use Rattle.turns.proofs.Frame.{learned_seat, learned_seats, learned_edges}
use Rattle.turns.specs.Turn.{Visit}
use Rattle.legal_steps.proofs.OwnEdges.{In}
use Rattle.rounds.specs.LastLooks.{seen_next, seen_after}

abbrev pub looks : ℕ → List Visit → List Event
looks j visits = map (λ (v : Visit). Look j v.edge v.saw) visits

module _ (plan : LabPlan) (j e : ℕ) where
  -- the picture has room for the marks of j for e
  pub record IsWide (k : State) : Type 0 where
    pub job : j < length k.seats
    pub is_edge : e < length k.edges
    pub fork_marks : e < length (seat k j).fork_marks
    pub bottle_marks : e < length (seat k j).bottle_marks

  -- the marks are what a look at the known edge would set, and the last look saw that edge
  pub record IsClear (k : State) (seen : Option EdgeState) : Type 0 where
    pub up_to_date : IsUpToDate plan k j e
    pub saw : seen ≡ Some (edge k e)

  -- ---- one look

  module _ (k : State) (f : ℕ) (x : EdgeState) (inside : j < length k.seats) where
    abbrev t : State
    t = learned plan k (Look j f x)

    own : seat t j ≡ seat_after plan (seat k j) (Look j f x)
    own = learned_seat plan k (Look j f x) inside

    dines : dining t j ≡ dining k j
    dines = ap (λ (y : Seat). y.phase.dining) own

    pub fork_marks_look : length (seat t j).fork_marks ≡ length (seat k j).fork_marks
    fork_marks_look = ap (λ (y : Seat). length y.fork_marks) own ∙ length-set (seat k j).fork_marks f _

    pub bottle_marks_look : length (seat t j).bottle_marks ≡ length (seat k j).bottle_marks
    bottle_marks_look = ap (λ (y : Seat). length y.bottle_marks) own ∙ length-set (seat k j).bottle_marks f _

  wide_look : (k : State) (f : ℕ) (x : EdgeState) → IsWide k → IsWide (learned plan k (Look j f x))
  wide_look k f x w = record {
    job = subst (λ n. j < n) (sym (learned_seats plan k (Look j f x))) w.job;
    is_edge = subst (λ n. e < n) (sym (learned_edges plan k (Look j f x))) w.is_edge;
    fork_marks = subst (λ n. e < n) (sym (fork_marks_look k f x w.job)) w.fork_marks;
    bottle_marks = subst (λ n. e < n) (sym (bottle_marks_look k f x w.job)) w.bottle_marks;
  }

  look_here : (k : State) (seen : Option EdgeState) (x : EdgeState) → IsWide k → IsClear (learned plan k (Look j e x)) (seen_next e seen (Look j e x))
  look_here k seen x w =
      let t : State = learned plan k (Look j e x) in
      let now : edge t e ≡ x = edge_same k e x w.is_edge in
      let mine : seat t j ≡ seat_after plan (seat k j) (Look j e x) = own k e x w.job in
      let same : dining t j ≡ dining k j = dines k e x w.job in
      record {
        up_to_date = record {
          fork = ap (λ (y : Seat). slice_index_or y.fork_marks e false) mine
              ∙ (get_or-set_same (seat k j).fork_marks e _ false w.fork_marks ∙ (λ i. fork_mark_seen (sym same i) (end_of plan j e) (sym now i)));
          bottles = ap (λ (y : Seat). slice_index_or y.bottle_marks e 0) mine
              ∙ (get_or-set_same (seat k j).bottle_marks e _ 0 w.bottle_marks ∙ ap (bottles_at plan e (end_of plan j e)) (sym now));
        };
        saw = ap (λ (b : Bool). if b then Some x else seen) (eq-eqb e e refl) ∙ ap (λ (y : EdgeState). Some y) (sym now);
      }

  look_there : (k : State) (seen : Option EdgeState) (f : ℕ) (x : EdgeState) → f ≢ e → IsWide k
      → IsClear k seen → IsClear (learned plan k (Look j f x)) (seen_next e seen (Look j f x))
  look_there k seen f x apart w c =
      let t : State = learned plan k (Look j f x) in
      let still : edge t e ≡ edge k e = edge_other k f x e (λ is. apart (sym is)) in
      let mine : seat t j ≡ seat_after plan (seat k j) (Look j f x) = own k f x w.job in
      let same : dining t j ≡ dining k j = dines k f x w.job in
      record {
        up_to_date = record {
          fork = ap (λ (y : Seat). slice_index_or y.fork_marks e false) mine ∙ (get_or-set_other (seat k j).fork_marks f e _ false (λ is. apart (sym is))
              ∙ (c.up_to_date.fork ∙ (λ i. fork_mark_seen (sym same i) (end_of plan j e) (sym still i))));
          bottles = ap (λ (y : Seat). slice_index_or y.bottle_marks e 0) mine ∙ (get_or-set_other (seat k j).bottle_marks f e _ 0 (λ is. apart (sym is))
              ∙ (c.up_to_date.bottles ∙ ap (bottles_at plan e (end_of plan j e)) (sym still)));
        };
        saw = ap (λ (b : Bool). if b then Some x else seen) (ne_eqb f e apart) ∙ (c.saw ∙ ap (λ (y : EdgeState). Some y) (sym still));
      }

  -- ---- all looks of a turn

  pub wide_before : (k : State) (visits : List Visit) → j < length k.seats → e < length k.edges → IsWide (learned_all plan k (looks j visits)) → IsWide k
  wide_before k [] job is_edge w = w
  wide_before k (v ∷ visits) job is_edge w =
      let t : State = learned plan k (Look j v.edge v.saw) in
      let next : IsWide t = wide_before t visits (subst (λ n. j < n) (sym (learned_seats plan k (Look j v.edge v.saw))) job)
      (subst (λ n. e < n) (sym (learned_edges plan k (Look j v.edge v.saw))) is_edge) w in
      record {
        job = job;
        is_edge = is_edge;
        fork_marks = subst (λ n. e < n) (fork_marks_look k v.edge v.saw job) next.fork_marks;
        bottle_marks = subst (λ n. e < n) (bottle_marks_look k v.edge v.saw job) next.bottle_marks;
      }

  stays_clear : (k : State) (seen : Option EdgeState) (visits : List Visit) → IsWide k → IsClear k seen
      → IsClear (learned_all plan k (looks j visits)) (seen_after e seen (looks j visits))
  stays_clear k seen [] w c = c
  stays_clear k seen (v ∷ visits) w c =
      stays_clear (learned plan k (Look j v.edge v.saw)) (seen_next e seen (Look j v.edge v.saw)) visits
      (wide_look k v.edge v.saw w) (elim (cases_eq v.edge e) [
        | inl is ↦ subst (λ f. IsClear (learned plan k (Look j f v.saw)) (seen_next e seen (Look j f v.saw))) (sym is) (look_here k seen v.saw w)
        | inr apart ↦ look_there k seen v.edge v.saw apart w c
      ])

  pub looks_clear : (k : State) (seen : Option EdgeState) (visits : List Visit) → IsWide k
      → In e (map (λ (v : Visit). v.edge) visits) → IsClear (learned_all plan k (looks j visits)) (seen_after e seen (looks j visits))
  looks_clear k seen [] w listed = absurd listed
  looks_clear k seen (v ∷ visits) w listed =
      let wide : IsWide (learned plan k (Look j v.edge v.saw)) = wide_look k v.edge v.saw w in
      elim listed [
        | inl is ↦ stays_clear (learned plan k (Look j v.edge v.saw)) (seen_next e seen (Look j v.edge v.saw)) visits wide
            (subst (λ f. IsClear (learned plan k (Look j f v.saw)) (seen_next e seen (Look j f v.saw))) (sym is) (look_here k seen v.saw w))
        | inr later ↦ looks_clear (learned plan k (Look j v.edge v.saw)) (seen_next e seen (Look j v.edge v.saw)) visits wide later
      ]
