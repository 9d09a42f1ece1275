-- While a job waits for a fork that it asked for, the neighbour begins at most one meal.
use Rattle.std.proofs.Common.{◌≡◌, ◌≢◌, ◌⊎◌, ℕ, zero, suc, ◌+◌, ◌-◌, ◌<◌, ◌≤◌, length, slice_index_or, slice_set, drop, not, ◌&&◌, ◌||◌, Bool, true, false, cond, List, [], ◌∷◌, arith, refl, sym, subst, ap, ◌∙◌, inl, inr, slice_get, Some, add-one}
use Rattle.std.proofs.lemmas.Bool.Decides.{nat_tests}
use Rattle.std.proofs.lemmas.Bool.{cases_eq, cases_Bool, false≢true}
use Rattle.std.proofs.lemmas.List.Sums.{sum_by-cons}
use Rattle.lab_plan.specs.LabPlan.{LabPlan}
use Rattle.legal_steps.specs.declared.end.End.{End}
use Rattle.legal_steps.specs.declared.end.End.TheVariants.{Lower, Higher}
use Rattle.legal_steps.specs.declared.phase.Dining.{Dining}
use Rattle.legal_steps.specs.declared.phase.Dining.TheVariants.{Thinking, Hungry, Eating}
use Rattle.legal_steps.specs.declared.edge_state.EdgeState.{EdgeState}
use Rattle.legal_steps.specs.declared.event.Event.{Event}
use Rattle.legal_steps.specs.declared.event.Event.TheVariants.{Look, AskFork, GiveFork, Soil, AskBottles, GiveBottles, Thirst, Hunger, Sit, Leave, Drink, Reach, Act, Quit, Retire, Glance, Withdraw}
use Rattle.legal_steps.specs.State.{State, Seat, seat, edge, fork, token, is_dirty, dining, fork_mark, IsOwn, end_of, opposite, neighbour}
use Rattle.legal_steps.specs.Legal.{May, after, with_edge, with_seat, with_phase, Here, fork_mark_seen, is_at, turned_to}
use Rattle.legal_steps.specs.Run.{IsLegalFrom, is_sit, meals_of}
use Rattle.legal_steps.proofs.FitsWrites.{seat_same, seat_other, seat_cases, edge_same, edge_cases}
use Rattle.legal_steps.proofs.FitsLaw.{own_is_job}
use Rattle.legal_steps.proofs.ForkEnds.{one_at_end}
use Rattle.legal_steps.proofs.ForkLaw.{mark_cases, all_false}
use Rattle.legal_steps.proofs.ReachedInvariant.{IsSound, sound_opening, sound_after}
use Rattle.overtaking.proofs.EdgeEnds.{at_opposite, across, neighbour_own, neighbour_apart}
use Rattle.overtaking.specs.Overtaking.{before_meal}
use Rattle.overtaking.specs.Laws.{IsOvertakenOnce}

module _ (plan : LabPlan) (u v e : ℕ) (mine : IsOwn plan u e) (yours : IsOwn plan v e) (apart : u ≢ v) where
  -- v has fork and token: it may begin a meal, or it eats, or it ate, and its next look finds the request
  abbrev pub HasBoth : State → ℕ → Type 0
  HasBoth s n = Here plan v e (fork s e) × Here plan v e (token s e)
      × ((1 ≤ n) ⊎ (dining s v ≡ Eating) ⊎ ((is_dirty s e ≡ true) × (dining s v ≢ Eating) × (fork_mark s v e ≡ false)))

  -- u waits, and v begins at most n more meals before that of u
  pub record Waits (s : State) (n : ℕ) : Type 0 where
    pub hungry : dining s u ≡ Hungry
    pub turn : HasBoth s n ⊎ (Here plan u e (fork s e) × (is_dirty s e ≡ false))

  -- what is read stays the same
  frame : (s s' : State) (n : ℕ) → dining s' u ≡ dining s u → fork s' e ≡ fork s e → token s' e ≡ token s e → is_dirty s' e ≡ is_dirty s e
      → (dining s v ≡ Eating → dining s' v ≡ Eating) → (dining s v ≢ Eating → dining s' v ≢ Eating)
      → fork_mark s' v e ≡ fork_mark s v e → Waits s n → Waits s' n
  frame s s' n du f t d eats idle m w = record {
    hungry = du ∙ w.hungry;
    turn = elim w.turn [
      | inl h ↦ inl (
        f ∙ h.0,
        t ∙ h.1,
        elim h.2 [ inl one ↦ inl one | inr r ↦ elim r [ inl now ↦ inr (inl (eats now)) | inr ate ↦ inr (inr (d ∙ ate.0, idle ate.1, m ∙ ate.2)) ] ],
      )
      | inr g ↦ inr (f ∙ g.0, d ∙ g.1)
    ];
  }

  -- another seat with the same dining and marks, or another edge with the same fork, token and dirt
  other_seat : (s : State) (n j : ℕ) (x : Seat) → j < length s.seats → x.phase.dining ≡ dining s j
      → x.fork_marks ≡ (seat s j).fork_marks → Waits s n → Waits (with_seat s j x) n
  other_seat s n j x inside d m w =
      let dines : (k : ℕ) → dining (with_seat s j x) k ≡ dining s k =
      λ k. elim (seat_cases s j x inside k) [
        | inl h ↦ ap (λ (y : Seat). y.phase.dining) h.1 ∙ (d ∙ ap (dining s) (sym h.0))
        | inr h ↦ ap (λ (y : Seat). y.phase.dining) h.1
      ] in
      let marks : fork_mark (with_seat s j x) v e ≡ fork_mark s v e =
      elim (seat_cases s j x inside v) [
        | inl h ↦ ap (λ (y : Seat). slice_index_or y.fork_marks e false) h.1 ∙ (ap (λ xs. slice_index_or xs e false) m ∙ ap (λ k. fork_mark s k e) (sym h.0))
        | inr h ↦ ap (λ (y : Seat). slice_index_or y.fork_marks e false) h.1
      ] in
      frame s (with_seat s j x) n (dines u) refl refl refl (λ eats. dines v ∙ eats) (λ idle eats. idle (sym (dines v) ∙ eats)) marks w

  other_edge : (s : State) (n e' : ℕ) (x : EdgeState) → e' < length s.edges
      → e ≢ e' ⊎ ((x.fork ≡ fork s e') × (x.token ≡ token s e') × (x.dirty ≡ is_dirty s e')) → Waits s n → Waits (with_edge s e' x) n
  other_edge s n e' x inside h w = elim (edge_cases s e' x inside e) [
    | inr other ↦ frame s (with_edge s e' x) n refl (ap (λ (y : EdgeState). y.fork) other.1)
        (ap (λ (y : EdgeState). y.token) other.1) (ap (λ (y : EdgeState). y.dirty) other.1) (λ eats. eats) (λ idle. idle) refl w
    | inl same ↦ elim h [
      | inl ne ↦ absurd (ne same.0)
      | inr eq ↦ frame s (with_edge s e' x) n refl
          (ap (λ (y : EdgeState). y.fork) same.1 ∙ (eq.0 ∙ ap (fork s) (sym same.0)))
          (ap (λ (y : EdgeState). y.token) same.1 ∙ (eq.1 ∙ ap (token s) (sym same.0))) (ap (λ (y : EdgeState). y.dirty) same.1
          ∙ (eq.2 ∙ ap (is_dirty s) (sym same.0)))
          (λ eats. eats) (λ idle. idle) refl w
    ]
  ]

  -- the fork is not at both ends
  not_both : (s : State) → Here plan u e (fork s e) → Here plan v e (fork s e) → ⊥
  not_both s a b = apart (one_at_end plan u v e mine yours (sym a ∙ b))

  -- v begins a meal: it had one left
  pub sits : (s : State) (n : ℕ) → IsSound plan s → Waits s n → May plan s (Sit v) → (1 ≤ n) × ((m : ℕ) → Waits (after plan s (Sit v)) m)
  sits s n sound w may =
      let x = turned_to (seat s v) Eating in
      let inside : v < length s.seats = omega (arith, sound.fits.seats_there, may.0) in
      let stays : dining (with_seat s v x) u ≡ dining s u = ap (λ (y : Seat). y.phase.dining) (seat_other s v x u apart) in
      let eats : dining (with_seat s v x) v ≡ Eating = ap (λ (y : Seat). y.phase.dining) (seat_same s v x inside) in
      elim w.turn [
        | inr given ↦ absurd (not_both s given.0 (sound.forks.marked v e yours (may.2 e yours)))
        | inl both ↦ elim both.2 [
          | inl one ↦ (one, λ m. record { hungry = stays ∙ w.hungry; turn = inl (both.0, both.1, inr (inl eats)) })
          | inr r ↦ elim r [
            | inl now ↦ absurd (hungry_eats (sym may.1 ∙ now))
            | inr ate ↦ absurd (false≢true (sym ate.2 ∙ may.2 e yours))
          ]
        ]
      ]
    where
      hungry_eats : Hungry ≡ Eating → ⊥
      hungry_eats h = cc

  hungry_thinks : Hungry ≡ Thinking → ⊥
  hungry_thinks h = cc

  eats_hungry : Eating ≡ Hungry → ⊥
  eats_hungry h = cc

  thinks_eats : Thinking ≡ Eating → ⊥
  thinks_eats h = cc

  -- a mark of another job or for another edge is set
  remark : (s : State) (n j e' : ℕ) (m : Bool) (x : Seat) → j < length s.seats → e' < length (seat s j).fork_marks
      → x.phase.dining ≡ dining s j → x.fork_marks ≡ slice_set (seat s j).fork_marks e' m
      → (v ≡ j → e ≡ e' → dining s v ≢ Eating → is_dirty s e ≡ true → Here plan v e (token s e) → m ≡ false) → Waits s n → Waits (with_seat s j x) n
  remark s n j e' m x inside there d is quiet w =
      let dines : (k : ℕ) → dining (with_seat s j x) k ≡ dining s k =
      λ k. elim (seat_cases s j x inside k) [
        | inl h ↦ ap (λ (y : Seat). y.phase.dining) h.1 ∙ (d ∙ ap (dining s) (sym h.0))
        | inr h ↦ ap (λ (y : Seat). y.phase.dining) h.1
      ] in
      record {
        hungry = dines u ∙ w.hungry;
        turn = elim w.turn [
          | inr g ↦ inr g
          | inl h ↦ inl (
            h.0,
            h.1,
            elim h.2 [
              | inl one ↦ inl one
              | inr r ↦ elim r [
                | inl now ↦ inr (inl (dines v ∙ now))
                | inr
                    ate ↦ inr (inr (
                      ate.0,
                      λ eats. ate.1 (sym (dines v) ∙ eats),
                      elim (mark_cases s j e' m x inside there is v e) [ inl at ↦ at.2 ∙ quiet at.0 at.1 ate.1 ate.0 h.1 | inr same ↦ same ∙ ate.2 ],
                    ))
              ]
            ],
          )
        ];
      }

  -- what a look at a dirty, asked fork sets the mark of a job to that does not eat
  is_at_self : (x : End) → is_at x x ≡ true
  is_at_self Lower = refl
  is_at_self Higher = refl

  and_false : (a : Bool) → (a && false) ≡ false
  and_false true = refl
  and_false false = refl

  mark_asked : (d : Dining) (here : End) (x : EdgeState) → d ≢ Eating → x.dirty ≡ true → x.token ≡ here → fork_mark_seen d here x ≡ false
  unfolding fork_mark_seen
  mark_asked Eating here x idle dirty asked = absurd (idle refl)
  mark_asked Thinking here x idle dirty asked =
      ap (λ b. is_at here x.fork && (not b || not (is_at here x.token))) dirty
      ∙ (ap (λ t. is_at here x.fork && not (is_at here t)) asked ∙ (ap (λ b. is_at here x.fork && not b) (is_at_self here) ∙ and_false (is_at here x.fork)))
  mark_asked Hungry here x idle dirty asked =
      ap (λ b. is_at here x.fork && (not b || not (is_at here x.token))) dirty
      ∙ (ap (λ t. is_at here x.fork && not (is_at here t)) asked ∙ (ap (λ b. is_at here x.fork && not b) (is_at_self here) ∙ and_false (is_at here x.fork)))

  -- v gives the fork to u, clean
  given : (s : State) (n : ℕ) (x : EdgeState) → e < length s.edges → Here plan v e (fork s e)
      → x.fork ≡ opposite (fork s e) → x.dirty ≡ false → Waits s n → Waits (with_edge s e x) n
  given s n x inside here f t w = record {
    hungry = w.hungry;
    turn = inr (
      ap (λ (y : EdgeState). y.fork) (edge_same s e x inside) ∙ (f ∙ (ap opposite here ∙ across plan v u e yours mine (λ same. apart (sym same)))),
      ap (λ (y : EdgeState). y.dirty) (edge_same s e x inside) ∙ t,
    );
  }

  -- v soils the fork
  soiled : (s : State) (n : ℕ) (x : EdgeState) → e < length s.edges → dining s v ≡ Eating
      → x.fork ≡ fork s e → x.token ≡ token s e → HasBoth s n → Waits s n → Waits (with_edge s e x) n
  soiled s n x inside eats f t both w = record {
    hungry = w.hungry;
    turn = inl (
      ap (λ (y : EdgeState). y.fork) (edge_same s e x inside) ∙ (f ∙ both.0),
      ap (λ (y : EdgeState). y.token) (edge_same s e x inside) ∙ (t ∙ both.1),
      inr (inl eats),
    );
  }

  -- another job's dining doesn't matter
  other_dines : (s : State) (n j : ℕ) (x : Seat) → j < length s.seats → j ≢ u → j ≢ v → Waits s n → Waits (with_seat s j x) n
  other_dines s n j x inside nu nv w =
      let at_v : seat (with_seat s j x) v ≡ seat s v = seat_other s j x v (λ is. nv (sym is)) in
      frame s (with_seat s j x) n (ap (λ (y : Seat). y.phase.dining) (seat_other s j x u (λ is. nu (sym is)))) refl refl refl
      (λ eats. ap (λ (y : Seat). y.phase.dining) at_v ∙ eats) (λ idle eats. idle (ap (λ (y : Seat). y.phase.dining) (sym at_v) ∙ eats))
      (ap (λ (y : Seat). slice_index_or y.fork_marks e false) at_v) w

  -- v, thinking, gets hungry
  v_hungers : (s : State) (n : ℕ) (x : Seat) → v < length s.seats → dining s v ≡ Thinking
      → x.phase.dining ≡ Hungry → x.fork_marks ≡ (seat s v).fork_marks → Waits s n → Waits (with_seat s v x) n
  v_hungers s n x inside thinks now m w =
      let at_v : seat (with_seat s v x) v ≡ x = seat_same s v x inside in
      frame s (with_seat s v x) n (ap (λ (y : Seat). y.phase.dining) (seat_other s v x u apart)) refl refl refl
      (λ eats. absurd (thinks_eats (sym thinks ∙ eats))) (λ _ eats. eats_hungry (sym eats ∙ (ap (λ (y : Seat). y.phase.dining) at_v ∙ now)))
      (ap (λ (y : Seat). slice_index_or y.fork_marks e false) at_v ∙ ap (λ xs. slice_index_or xs e false) m) w

  -- v ends its meal
  v_leaves : (s : State) (n : ℕ) → v < length s.seats → dining s v ≡ Eating
      → is_dirty s e ≡ true → Waits s n → Waits (with_seat s v (turned_to (seat s v) Thinking)) n
  v_leaves s n inside eats dirty w =
      let x = turned_to (seat s v) Thinking in
      let at_v : seat (with_seat s v x) v ≡ x = seat_same s v x inside in
      record {
        hungry = ap (λ (y : Seat). y.phase.dining) (seat_other s v x u apart) ∙ w.hungry;
        turn = elim w.turn [
          | inr g ↦ inr g
          | inl h ↦ inl (
            h.0,
            h.1,
            inr (inr (
              dirty,
              λ now. thinks_eats (ap (λ (y : Seat). y.phase.dining) (sym at_v)
                  ∙ now),
              ap (λ (y : Seat). slice_index_or y.fork_marks e false) at_v ∙ all_false (length (seat s v).fork_marks) e,
            )),
          )
        ];
      }

  abbrev pub IsNoSit : Event → Type 0
  IsNoSit event = (is_sit u event ≡ false) × (is_sit v event ≡ false)

  give_here : (s : State) (n j : ℕ) → IsSound plan s → Waits s n → May plan s (GiveFork j e) → Waits (after plan s (GiveFork j e)) n
  give_here s n j sound w may =
      let job = own_is_job plan j e may.0 in
      let inside : e < length s.edges = omega (arith, may.0.is_edge, sound.fits.edges_there) in
      elim w.turn [
        | inr g ↦ absurd (false≢true (sym g.1 ∙ may.3))
        | inl both ↦ remark (with_edge s e _) n j e false _ (omega (arith, sound.fits.seats_there, job))
            (omega (arith, may.0.is_edge, (sound.fits.seats_fit j job).fork_marks_there)) refl refl (λ _ _ _ _ _. refl) (given s n _ inside both.0 refl refl w)
      ]

  soil_here : (s : State) (n j : ℕ) → IsSound plan s → Waits s n → May plan s (Soil j e) → Waits (after plan s (Soil j e)) n
  soil_here s n j sound w may =
      let job = own_is_job plan j e may.0 in
      let inside : e < length s.edges = omega (arith, may.0.is_edge, sound.fits.edges_there) in
      elim w.turn [
        | inr g ↦ absurd (eats_hungry (sym may.1 ∙ (ap (dining s) (one_at_end plan j u e may.0 mine (sym may.2 ∙ g.0)) ∙ w.hungry)))
        | inl both ↦
            let eats : dining s v ≡ Eating = ap (dining s) (one_at_end plan v j e yours may.0 (sym both.0 ∙ may.2)) ∙ may.1 in
            remark (with_edge s e _) n j e true _ (omega (arith, sound.fits.seats_there, job))
            (omega (arith, may.0.is_edge, (sound.fits.seats_fit j job).fork_marks_there)) refl refl
            (λ _ _ idle _ _. absurd (idle eats)) (soiled s n _ inside eats refl refl both w)
      ]

  pub keeps : (s : State) (n : ℕ) (event : Event) → IsSound plan s → Waits s n → May plan s event → IsNoSit event → Waits (after plan s event) n
  keeps s n (Look j e' seen) sound w may calm =
      let job = own_is_job plan j e' may.0 in
      remark s n j e' _ _ (omega (arith, sound.fits.seats_there, job)) (omega (arith, may.0.is_edge, (sound.fits.seats_fit j job).fork_marks_there)) refl refl
      (λ is at idle dirty asked. mark_asked (dining s j) (end_of plan j e') seen (λ eats. idle (ap (dining s) is ∙ eats))
      (ap (λ (y : EdgeState). y.dirty) may.1 ∙ (ap (is_dirty s) (sym at) ∙ dirty))
      (ap (λ (y : EdgeState). y.token) may.1 ∙ (ap (token s) (sym at) ∙ (asked ∙ (ap (λ k. end_of plan k e) is ∙ ap (end_of plan j) at))))) w
  keeps s n (AskFork j e') sound w may calm =
      let inside : e' < length s.edges = omega (arith, may.0.is_edge, sound.fits.edges_there) in
      elim (cases_eq e e') [
        | inr other ↦ other_edge s n e' _ inside (inl other) w
        | inl is ↦ elim w.turn [
          | inl both ↦ absurd (may.2 (ap (fork s) (sym is) ∙ (both.0 ∙ (sym both.1 ∙ (ap (token s) is ∙ may.3)))))
          | inr g ↦ subst (λ k. k < length s.edges → Waits (with_edge s k (record (edge s k) { token = opposite (token s k) })) n) is
              (λ here. record {
                hungry = w.hungry;
                turn = inr (ap (λ (y : EdgeState). y.fork) (edge_same s e _ here) ∙ g.0, ap (λ (y : EdgeState). y.dirty) (edge_same s e _ here) ∙ g.1);
              }) inside
        ]
      ]
  keeps s n (GiveFork j e') sound w may calm =
      let job = own_is_job plan j e' may.0 in
      let inside : e' < length s.edges = omega (arith, may.0.is_edge, sound.fits.edges_there) in
      elim (cases_eq e e') [
        | inl is ↦ subst (λ k. May plan s (GiveFork j k) → Waits (after plan s (GiveFork j k)) n) is (give_here s n j sound w) may
        | inr other ↦ remark (with_edge s e' _) n j e' false _ (omega (arith, sound.fits.seats_there, job))
            (omega (arith, may.0.is_edge, (sound.fits.seats_fit j job).fork_marks_there)) refl refl
            (λ _ _ _ _ _. refl) (other_edge s n e' _ inside (inl other) w)
      ]
  keeps s n (Soil j e') sound w may calm =
      let job = own_is_job plan j e' may.0 in
      let inside : e' < length s.edges = omega (arith, may.0.is_edge, sound.fits.edges_there) in
      elim (cases_eq e e') [
        | inl is ↦ subst (λ k. May plan s (Soil j k) → Waits (after plan s (Soil j k)) n) is (soil_here s n j sound w) may
        | inr other ↦ remark (with_edge s e' _) n j e' true _ (omega (arith, sound.fits.seats_there, job))
            (omega (arith, may.0.is_edge, (sound.fits.seats_fit j job).fork_marks_there)) refl refl
            (λ _ at _ _ _. absurd (other at)) (other_edge s n e' _ inside (inl other) w)
      ]
  keeps s n (AskBottles j e' set) sound w may calm = other_edge s n e' _ (omega (arith, may.0.is_edge, sound.fits.edges_there)) (inr (refl, refl, refl)) w
  keeps s n (GiveBottles j e' set) sound w may calm =
      other_seat (with_edge s e' _) n j _ (omega (arith, sound.fits.seats_there, own_is_job plan j e' may.0)) refl refl
      (other_edge s n e' _ (omega (arith, may.0.is_edge, sound.fits.edges_there)) (inr (refl, refl, refl)) w)
  keeps s n (Thirst j) sound w may calm = other_seat s n j _ (omega (arith, sound.fits.seats_there, may.0)) refl refl w
  keeps s n (Hunger j) sound w may calm =
      let inside : j < length s.seats = omega (arith, sound.fits.seats_there, may.0) in
      elim (cases_eq j u) [
        | inl is ↦ absurd (hungry_thinks (sym w.hungry ∙ (ap (dining s) (sym is) ∙ may.1)))
        | inr nu ↦ elim (cases_eq j v) [
          | inr nv ↦ other_dines s n j _ inside nu nv w
          | inl is ↦ subst (λ k. k < length s.seats → dining s k ≡ Thinking → Waits (after plan s (Hunger k)) n)
              (sym is) (λ here thinks. v_hungers s n _ here thinks refl refl w) inside may.1
        ]
      ]
  keeps s n (Sit j) sound w may calm =
      other_dines s n j _ (omega (arith, sound.fits.seats_there, may.0)) (λ is. not_itself j u calm.0 is) (λ is. not_itself j v calm.1 is) w
    where
      not_itself : (a b : ℕ) → is_sit b (Sit a) ≡ false → a ≡ b → ⊥
      not_itself a b h is = grind (arith, nat_tests)
  keeps s n (Leave j) sound w may calm =
      let inside : j < length s.seats = omega (arith, sound.fits.seats_there, may.0) in
      elim (cases_eq j u) [
        | inl is ↦ absurd (eats_hungry (sym may.1 ∙ (ap (dining s) is ∙ w.hungry)))
        | inr nu ↦ elim (cases_eq j v) [
          | inr nv ↦ other_dines s n j _ inside nu nv w
          | inl is ↦ subst (λ k. k < length s.seats → dining s k ≡ Eating → Waits (after plan s (Leave k)) n) (sym is)
              (λ here eats. v_leaves s n here eats
              (sound.forks.soiled v e yours eats (subst (λ k. (e' : ℕ) → IsOwn plan k e' → fork_mark s k e' ≡ true) is may.3 e yours)) w) inside may.1
        ]
      ]
  keeps s n (Drink j) sound w may calm = other_seat s n j _ (omega (arith, sound.fits.seats_there, may.0)) refl refl w
  keeps s n (Reach j) sound w may calm = other_seat s n j _ (omega (arith, sound.fits.seats_there, may.0)) refl refl w
  keeps s n (Act j) sound w may calm =
      let x = other_seat s n j _ (omega (arith, sound.fits.seats_there, may.0)) refl refl w in
      frame (with_phase s j _) _ n refl refl refl refl (λ eats. eats) (λ idle. idle) refl x
  keeps s n (Quit j) sound w may calm = other_seat s n j _ (omega (arith, sound.fits.seats_there, may.0)) refl refl w
  keeps s n (Retire j) sound w may calm = other_seat s n j _ (omega (arith, sound.fits.seats_there, may.0)) refl refl w
  keeps s n (Glance j other seen) sound w may calm = w
  keeps s n (Withdraw j) sound w may calm = other_seat s n j _ (omega (arith, sound.fits.seats_there, may.0)) refl refl w

sit_is : (j : ℕ) (event : Event) → is_sit j event ≡ true → event ≡ Sit j
sit_is j (Sit k) h = ap Sit (grind (arith, nat_tests))
sit_is j _ h = absurd (false≢true h)

-- how many meals of a job an event begins
abbrev pub begins : Bool → ℕ
begins b = cond b 1 0

-- how many meals of job v begin in a list before the next meal of job u
abbrev pub meals_before : ℕ → ℕ → List Event → ℕ
meals_before v u events = meals_of v (before_meal u events)

counted : (v : ℕ) (event : Event) (events : List Event) → meals_of v (event ∷ events) ≡ begins (is_sit v event) + meals_of v events
counted v event events = sum_by-cons (λ e. begins (is_sit v e)) event events

stopped : (u v : ℕ) (event : Event) (events : List Event) → is_sit u event ≡ true → meals_before v u (event ∷ events) ≡ 0
stopped u v event events stop = ap (λ b. meals_of v (cond b [] (event ∷ before_meal u events))) stop

goes_on : (u v : ℕ) (event : Event) (events : List Event) → is_sit u event ≡ false
    → meals_before v u (event ∷ events) ≡ begins (is_sit v event) + meals_before v u events
goes_on u v event events go = ap (λ b. meals_of v (cond b [] (event ∷ before_meal u events))) go ∙ counted v event (before_meal u events)

at_most : (plan : LabPlan) (u v e : ℕ) (mine : IsOwn plan u e) (yours : IsOwn plan v e) (apart : u ≢ v) → (s : State) (n : ℕ) (events : List Event)
    → IsSound plan s → Waits plan u v e mine yours apart s n → IsLegalFrom plan s events → meals_before v u events ≤ n
at_most plan u v e mine yours apart s n [] sound w legal = omega arith
at_most plan u v e mine yours apart s n (event ∷ events) sound w legal =
    elim (cases_Bool (is_sit u event)) [
      | inl stop ↦ omega (arith, stopped u v event events stop)
      | inr go ↦ elim (cases_Bool (is_sit v event)) [
        | inr calm ↦
            let rest = at_most plan u v e mine yours apart (after plan s event) n events (sound_after plan s event sound legal.0)
            (keeps plan u v e mine yours apart s n event sound w legal.0 (go, calm)) legal.1 in
            omega (arith, rest, goes_on u v event events go, ap begins calm)
        | inl sit ↦
            let is = sit_is v event sit in
            let now = sits plan u v e mine yours apart s n sound w (subst (May plan s) is legal.0) in
            let next : Waits plan u v e mine yours apart (after plan s event) (n - 1) =
            subst (λ x. Waits plan u v e mine yours apart (after plan s x) (n - 1)) (sym is) (now.1 (n - 1)) in
            let rest = at_most plan u v e mine yours apart (after plan s event) (n - 1) events (sound_after plan s event sound legal.0) next legal.1 in
            omega (arith, rest, now.0, goes_on u v event events go, ap begins sit)
      ]
    ]

-- after the request u waits, and v has at most one meal left
asked : (plan : LabPlan) (u v e : ℕ) (mine : IsOwn plan u e) (yours : IsOwn plan v e) (apart : u ≢ v) (s : State)
    → IsSound plan s → May plan s (AskFork u e) → Waits plan u v e mine yours apart (after plan s (AskFork u e)) 1
asked plan u v e mine yours apart s sound may =
    let inside : e < length s.edges = omega (arith, mine.is_edge, sound.fits.edges_there) in
    let x : EdgeState = record (edge s e) { token = opposite (token s e) } in
    let now = edge_same s e x inside in
    let mirror : opposite (end_of plan u e) ≡ end_of plan v e = across plan u v e mine yours apart in
    record {
      hungry = may.1;
      turn = inl (
        ap (λ (y : EdgeState). y.fork) now ∙ (at_opposite (fork s e) (end_of plan u e) may.2 ∙ mirror),
        ap (λ (y : EdgeState). y.token) now ∙ (ap opposite may.3 ∙ mirror),
        inl (omega arith),
      );
    }

-- so from the request on
from_ask : (plan : LabPlan) (u v e : ℕ) → IsOwn plan v e → u ≢ v → (s : State) (events : List Event) (place : ℕ) → IsSound plan s
    → IsLegalFrom plan s events → slice_get events place ≡ Some (AskFork u e) → meals_before v u (drop (suc place) events) ≤ 1
from_ask plan u v e yours apart s [] place sound legal here = absurd (cc)
from_ask plan u v e yours apart s (event ∷ events) zero sound legal here =
    let is : event ≡ AskFork u e = cc in
    let may = subst (May plan s) is legal.0 in
    at_most plan u v e may.0 yours apart (after plan s event) 1 events (sound_after plan s event sound legal.0)
    (subst (λ x. Waits plan u v e may.0 yours apart (after plan s x) 1) (sym is) (asked plan u v e may.0 yours apart s sound may)) legal.1
from_ask plan u v e yours apart s (event ∷ events) (suc place) sound legal here =
    from_ask plan u v e yours apart (after plan s event) events place (sound_after plan s event sound legal.0) legal.1 here

-- the request is of an own edge
asks_own : (plan : LabPlan) (s : State) (events : List Event) (place j e : ℕ)
    → IsLegalFrom plan s events → slice_get events place ≡ Some (AskFork j e) → IsOwn plan j e
asks_own plan s [] place j e legal here = absurd (cc)
asks_own plan s (event ∷ events) zero j e legal here = let is : event ≡ AskFork j e = cc in (subst (May plan s) is legal.0).0
asks_own plan s (event ∷ events) (suc place) j e legal here = asks_own plan (after plan s event) events place j e legal.1 here

pub overtaken_once : IsOvertakenOnce
overtaken_once plan opening events place j e opens legal here =
    let own = asks_own plan opening events place j e legal here in
    rw add-one (from_ask plan j (neighbour plan j e) e (neighbour_own plan j e own)
    (neighbour_apart plan j e own) opening events place (sound_opening plan opening opens) legal here)
