-- A bottle mark is true, and a drinking job has every bottle that its session names: after every legal event.
use Rattle.std.proofs.Common.{◌≡◌, ◌⊎◌, ℕ, ◌<◌, length, slice_index_or, slice_set, true, arith, refl, sym, subst, ap, ◌∙◌, inl, inr, get_or-set_same, get_or-set_other}
use Rattle.std.proofs.lemmas.Bool.{cases_eq}
use Rattle.std.specs.Prelude.{bit_xor, bit_and}
use Rattle.lab_plan.specs.LabPlan.{LabPlan, bottles, session_names}
use Rattle.legal_steps.specs.declared.edge_state.EdgeState.{EdgeState}
use Rattle.legal_steps.specs.declared.phase.JobState.{JobState}
use Rattle.legal_steps.specs.declared.phase.Drinking.TheVariants.{Tranquil, Thirsty, Drinking as Drinks, Reaching, Retired}
use Rattle.legal_steps.specs.declared.event.Event.{Event}
use Rattle.legal_steps.specs.declared.event.Event.TheVariants.{Look, AskFork, GiveFork, Soil, AskBottles, GiveBottles, Thirst, Hunger, Sit, Leave, Drink, Reach, Act, Quit, Retire, Glance, Withdraw}
use Rattle.legal_steps.specs.State.{State, Seat, seat, edge, session, bottle_marks, IsOwn, IsInSession, IsDrinking, end_of, Has, bottle_end, bottles_at}
use Rattle.legal_steps.specs.Fitting.{Fits}
use Rattle.legal_steps.specs.Legal.{May, after, with_edge, with_seat, with_phase, with_bottle_marks, Here, instrument_of}
use Rattle.legal_steps.proofs.FitsWrites.{seat_same, seat_cases, edge_cases}
use Rattle.legal_steps.proofs.FitsLaw.{own_is_job}
use Rattle.legal_steps.proofs.ForkEnds.{one_at_end}
use Rattle.legal_steps.proofs.BottleSets.{bottle_end_stays, has_without, at_end}

-- a bottle mark says that the bottle is here; a drinking job has every bottle that its session names
pub record IsServed (plan : LabPlan) (s : State) : Type 0 where
  pub marked : (j e k : ℕ) → IsOwn plan j e → k < length (bottles plan e) → Has (bottle_marks s j e) k → Here plan j e (bottle_end (edge s e).bottles k)
  pub drinks : (j e k : ℕ) → IsOwn plan j e → k < length (bottles plan e) → IsDrinking (seat s j).phase
      → session_names plan j (session s j) (instrument_of plan e k) ≡ true → Here plan j e (bottle_end (edge s e).bottles k)

-- bottles, marks and sessions stay, and who drinks drank
frame : (plan : LabPlan) (s s' : State) → ((k : ℕ) → (seat s' k).bottle_marks ≡ (seat s k).bottle_marks)
    → ((k : ℕ) → IsDrinking (seat s' k).phase → IsDrinking (seat s k).phase × (session s' k ≡ session s k))
    → ((e : ℕ) → (edge s' e).bottles ≡ (edge s e).bottles) → IsServed plan s → IsServed plan s'
frame plan s s' m d b h = record {
  marked = λ j e k own inside set. ap (λ x. bottle_end x k) (b e) ∙ h.marked j e k own inside (subst (λ xs. Has (slice_index_or xs e 0) k) (m j) set);
  drinks = λ j e k own inside now named. ap (λ x. bottle_end x k) (b e)
      ∙ h.drinks j e k own inside (d j now).0 (subst (λ n. session_names plan j n (instrument_of plan e k) ≡ true) (d j now).1 named);
}

-- another seat: its marks stay, and if it drinks, it drank in this session
other_seat : (plan : LabPlan) (s : State) (j : ℕ) (x : Seat) → j < length s.seats → x.bottle_marks ≡ (seat s j).bottle_marks
    → (IsDrinking x.phase → IsDrinking (seat s j).phase × (x.phase.session ≡ session s j)) → IsServed plan s → IsServed plan (with_seat s j x)
other_seat plan s j x inside m d h = frame plan s (with_seat s j x)
    (λ k. elim (seat_cases s j x inside k)
    [ inl w ↦ ap (λ (y : Seat). y.bottle_marks) w.1 ∙ (m ∙ ap (λ n. (seat s n).bottle_marks) (sym w.0)) | inr w ↦ ap (λ (y : Seat). y.bottle_marks) w.1 ])
    (λ k now. elim (seat_cases s j x inside k) [
      | inl w ↦ let old = d (subst (λ (y : Seat). IsDrinking y.phase) w.1 now) in
          (subst (λ n. IsDrinking (seat s n).phase) (sym w.0) old.0, ap (λ (y : Seat). y.phase.session) w.1 ∙ (old.1 ∙ ap (session s) (sym w.0)))
      | inr w ↦ (subst (λ (y : Seat). IsDrinking y.phase) w.1 now, ap (λ (y : Seat). y.phase.session) w.1)
    ])
    (λ e. refl) h

other_edge : (plan : LabPlan) (s : State) (e : ℕ) (x : EdgeState) → e < length s.edges
    → x.bottles ≡ (edge s e).bottles → IsServed plan s → IsServed plan (with_edge s e x)
other_edge plan s e x inside b h = frame plan s (with_edge s e x) (λ k. refl) (λ k now. (now, refl))
    (λ k. elim (edge_cases s e x inside k) [
      | inl w ↦ ap (λ (y : EdgeState). y.bottles) w.1 ∙ (b ∙ ap (λ n. (edge s n).bottles) (sym w.0))
      | inr w ↦ ap (λ (y : EdgeState). y.bottles) w.1
    ]) h

-- a look sets true marks
looks : (plan : LabPlan) (s : State) (j e0 marks : ℕ) (x : Seat) → j < length s.seats → e0 < length (seat s j).bottle_marks
    → x.phase ≡ (seat s j).phase → x.bottle_marks ≡ slice_set (seat s j).bottle_marks e0 marks
    → ((k : ℕ) → k < length (bottles plan e0) → Has marks k → Here plan j e0 (bottle_end (edge s e0).bottles k))
    → IsServed plan s → IsServed plan (with_seat s j x)
looks plan s j e0 marks x inside there p m truth h = record {
  marked = λ k e b own small set. elim (seat_cases s j x inside k) [
    | inr w ↦ h.marked k e b own small (subst (λ (y : Seat). Has (slice_index_or y.bottle_marks e 0) b) w.1 set)
    | inl w ↦
        let now : Has (slice_index_or (slice_set (seat s j).bottle_marks e0 marks) e 0) b =
        subst (λ xs. Has (slice_index_or xs e 0) b) (ap (λ (y : Seat). y.bottle_marks) w.1 ∙ m) set in
        subst (λ n. Here plan n e (bottle_end (edge s e).bottles b)) (sym w.0) (elim (cases_eq e e0) [
          | inr other ↦ h.marked j e b (subst (λ n. IsOwn plan n e) w.0 own) small
              (subst (λ n. Has n b) (get_or-set_other (seat s j).bottle_marks e0 e marks 0 other) now)
          | inl same ↦ subst (λ n. b < length (bottles plan n) → Has (slice_index_or (slice_set (seat s j).bottle_marks e0 marks) n 0) b
              → Here plan j n (bottle_end (edge s n).bottles b)) (sym same)
              (λ small0 now0. truth b small0 (subst (λ n. Has n b) (get_or-set_same (seat s j).bottle_marks e0 marks 0 there) now0)) small now
        ])
  ];
  drinks = λ k e b own small now named. elim (seat_cases s j x inside k) [
    | inr w ↦ h.drinks k e b own small (subst (λ (y : Seat). IsDrinking y.phase) w.1 now)
        (subst (λ n. session_names plan k n (instrument_of plan e b) ≡ true) (ap (λ (y : Seat). y.phase.session) w.1) named)
    | inl w ↦
        let phase : (seat (with_seat s j x) k).phase ≡ (seat s k).phase = ap (λ (y : Seat). y.phase) w.1 ∙ (p ∙ ap (λ n. (seat s n).phase) (sym w.0)) in
        h.drinks k e b own small (subst IsDrinking phase now)
        (subst (λ (y : JobState). session_names plan k y.session (instrument_of plan e b) ≡ true) phase named)
  ];
}

-- bottles that nobody keeps are given
gives : (plan : LabPlan) (s : State) (e0 set : ℕ) (x : EdgeState) → e0 < length s.edges → x.bottles ≡ bit_xor (edge s e0).bottles set
    → ((j k : ℕ) → IsOwn plan j e0 → k < length (bottles plan e0) → Has set k → Has (bottle_marks s j e0) k → ⊥)
    → ((j k : ℕ) → IsOwn plan j e0 → k < length (bottles plan e0) → Has set k → IsDrinking (seat s j).phase
    → session_names plan j (session s j) (instrument_of plan e0 k) ≡ true → ⊥)
    → IsServed plan s → IsServed plan (with_edge s e0 x)
gives plan s e0 set x inside b unmarked unused h =
    let at : edge (with_edge s e0 x) e0 ≡ x = get_or-set_same s.edges e0 x _ inside in
    let stays : (k : ℕ) → (Has set k → ⊥) → bottle_end (edge (with_edge s e0 x) e0).bottles k ≡ bottle_end (edge s e0).bottles k =
    λ k out. ap (λ (y : EdgeState). bottle_end y.bottles k) at ∙ (ap (λ n. bottle_end n k) b ∙ bottle_end_stays (edge s e0).bottles set k out) in
    record {
      marked = λ j e k own small mark. elim (edge_cases s e0 x inside e) [
        | inr w ↦ ap (λ (y : EdgeState). bottle_end y.bottles k) w.1 ∙ h.marked j e k own small mark
        | inl w ↦ subst (λ n. IsOwn plan j n → k < length (bottles plan n) → Has (bottle_marks s j n) k
            → Here plan j n (bottle_end (edge (with_edge s e0 x) n).bottles k)) (sym w.0)
            (λ own0 small0 mark0. stays k (λ member. unmarked j k own0 small0 member mark0) ∙ h.marked j e0 k own0 small0 mark0) own small mark
      ];
      drinks = λ j e k own small now named. elim (edge_cases s e0 x inside e) [
        | inr w ↦ ap (λ (y : EdgeState). bottle_end y.bottles k) w.1 ∙ h.drinks j e k own small now named
        | inl w ↦ subst (λ n. IsOwn plan j n → k < length (bottles plan n) → session_names plan j (session s j) (instrument_of plan n k) ≡ true
            → Here plan j n (bottle_end (edge (with_edge s e0 x) n).bottles k)) (sym w.0)
            (λ own0 small0 named0. stays k (λ member. unused j k own0 small0 member now named0) ∙ h.drinks j e0 k own0 small0 now named0) own small named
      ];
    }

thirsty_has_none : (Thirsty ≡ Drinks) ⊎ (Thirsty ≡ Reaching) → ⊥
thirsty_has_none h = elim h [ inl e ↦ cc | inr e ↦ cc ]

pub tranquil_has_none : (Tranquil ≡ Drinks) ⊎ (Tranquil ≡ Reaching) → ⊥
tranquil_has_none h = elim h [ inl e ↦ cc | inr e ↦ cc ]

retired_has_none : (Retired ≡ Drinks) ⊎ (Retired ≡ Reaching) → ⊥
retired_has_none h = elim h [ inl e ↦ cc | inr e ↦ cc ]

in_session : (phase : JobState) → IsDrinking phase → IsInSession phase.drinking
in_session phase now = inr now

pub served_after : (plan : LabPlan) (s : State) (event : Event) → Fits plan s → IsServed plan s → May plan s event → IsServed plan (after plan s event)
served_after plan s (Look j e seen) fit h may =
    let job = own_is_job plan j e may.0 in
    looks plan s j e (bottles_at plan e (end_of plan j e) seen) _ (omega (arith, fit.seats_there, job))
    (omega (arith, may.0.is_edge, (fit.seats_fit j job).bottle_marks_there)) refl refl
    (λ k small set. ap (λ (y : EdgeState). bottle_end y.bottles k) (sym may.1) ∙ (at_end plan e (end_of plan j e) seen k small).0 set) h
served_after plan s (AskFork j e) fit h may = other_edge plan s e _ (omega (arith, may.0.is_edge, fit.edges_there)) refl h
served_after plan s (GiveFork j e) fit h may =
    other_seat plan (with_edge s e _) j _ (omega (arith, fit.seats_there, own_is_job plan j e may.0)) refl
    (λ now. (now, refl)) (other_edge plan s e _ (omega (arith, may.0.is_edge, fit.edges_there)) refl h)
served_after plan s (Soil j e) fit h may =
    other_seat plan (with_edge s e _) j _ (omega (arith, fit.seats_there, own_is_job plan j e may.0)) refl
    (λ now. (now, refl)) (other_edge plan s e _ (omega (arith, may.0.is_edge, fit.edges_there)) refl h)
served_after plan s (AskBottles j e set) fit h may = other_edge plan s e _ (omega (arith, may.0.is_edge, fit.edges_there)) refl h
served_after plan s (GiveBottles j e set) fit h may =
    let job = own_is_job plan j e may.0 in
    let marks = bottle_marks s j e in
    let left = bit_xor marks (bit_and marks set) in
    let x = with_bottle_marks (seat s j) e left in
    let inside : j < length s.seats = omega (arith, fit.seats_there, job) in
    let there : e < length (seat s j).bottle_marks = omega (arith, may.0.is_edge, (fit.seats_fit j job).bottle_marks_there) in
    let s1 = with_seat s j x in
    let h1 = looks plan s j e left x inside there refl refl (λ k small set'. h.marked j e k may.0 small ((has_without marks set k).0 set').0) h in
    let now : seat s1 j ≡ x = seat_same s j x inside in
    let own_marks : bottle_marks s1 j e ≡ left =
    ap (λ (y : Seat). slice_index_or y.bottle_marks e 0) now ∙ get_or-set_same (seat s j).bottle_marks e left 0 there in
    gives plan s1 e set _ (omega (arith, may.0.is_edge, fit.edges_there)) refl
    (λ a k own small member mark. elim (cases_eq a j) [
      | inl same ↦ ((has_without marks set k).0 (subst (λ n. Has n k) own_marks (subst (λ n. Has (bottle_marks s1 n e) k) same mark))).1 member
      | inr other ↦ other (one_at_end plan a j e own may.0 (sym (h1.marked a e k own small mark) ∙ (may.2 k member).bottle_here))
    ])
    (λ a k own small member drinks named. elim (cases_eq a j) [
      | inr other ↦ other (one_at_end plan a j e own may.0 (sym (h1.drinks a e k own small drinks named) ∙ (may.2 k member).bottle_here))
      | inl same ↦
          let phase : (seat s1 a).phase ≡ (seat s j).phase = ap (λ n. (seat s1 n).phase) same ∙ ap (λ (y : Seat). y.phase) now in
          let drank = subst IsDrinking phase drinks in
          let named_j = subst (λ n. session_names plan n (session s j) (instrument_of plan e k) ≡ true) same
          (subst (λ (y : JobState). session_names plan a y.session (instrument_of plan e k) ≡ true) phase named) in
          (may.2 k member).not_kept (record { in_session = in_session (seat s j).phase drank; named = named_j }, inl drank)
    ])
    h1
served_after plan s (Thirst j) fit h may = other_seat plan s j _ (omega (arith, fit.seats_there, may.0)) refl (λ now. absurd (thirsty_has_none now)) h
served_after plan s (Hunger j) fit h may = other_seat plan s j _ (omega (arith, fit.seats_there, may.0)) refl (λ now. (now, refl)) h
served_after plan s (Sit j) fit h may = other_seat plan s j _ (omega (arith, fit.seats_there, may.0)) refl (λ now. (now, refl)) h
served_after plan s (Leave j) fit h may = other_seat plan s j _ (omega (arith, fit.seats_there, may.0)) refl (λ now. (now, refl)) h
served_after plan s (Drink j) fit h may =
    let inside : j < length s.seats = omega (arith, fit.seats_there, may.0) in
    let x : Seat = record (seat s j) { phase = record (seat s j).phase { drinking = Drinks } } in
    let s' = with_seat s j x in
    let marks : (k : ℕ) → (seat s' k).bottle_marks ≡ (seat s k).bottle_marks =
    λ k. elim (seat_cases s j x inside k) [
      | inl w ↦ ap (λ (y : Seat). y.bottle_marks) w.1 ∙ ap (λ n. (seat s n).bottle_marks) (sym w.0)
      | inr w ↦ ap (λ (y : Seat). y.bottle_marks) w.1
    ] in
    record {
      marked = λ k e b own small set. h.marked k e b own small (subst (λ xs. Has (slice_index_or xs e 0) b) (marks k) set);
      drinks = λ k e b own small now named. elim (seat_cases s j x inside k) [
        | inr w ↦ h.drinks k e b own small (subst (λ (y : Seat). IsDrinking y.phase) w.1 now)
            (subst (λ n. session_names plan k n (instrument_of plan e b) ≡ true) (ap (λ (y : Seat). y.phase.session) w.1) named)
        | inl w ↦
            let named_j : session_names plan j (session s j) (instrument_of plan e b) ≡ true =
            subst (λ n. session_names plan n (session s j) (instrument_of plan e b) ≡ true) w.0
            (subst (λ n. session_names plan k n (instrument_of plan e b) ≡ true) (ap (λ (y : Seat). y.phase.session) w.1) named) in
            let own_j = subst (λ n. IsOwn plan n e) w.0 own in
            subst (λ n. Here plan n e (bottle_end (edge s e).bottles b)) (sym w.0)
            (h.marked j e b own_j small (may.2 e own_j b small (record { in_session = inl may.1; named = named_j })))
      ];
    }
served_after plan s (Reach j) fit h may = other_seat plan s j _ (omega (arith, fit.seats_there, may.0)) refl (λ now. (inl may.1, refl)) h
served_after plan s (Act j) fit h may =
    frame plan (with_phase s j _) _ (λ k. refl) (λ k now. (now, refl)) (λ e. refl)
    (other_seat plan s j _ (omega (arith, fit.seats_there, may.0)) refl (λ now. (inr may.1, refl)) h)
served_after plan s (Quit j) fit h may = other_seat plan s j _ (omega (arith, fit.seats_there, may.0)) refl (λ now. absurd (tranquil_has_none now)) h
served_after plan s (Retire j) fit h may = other_seat plan s j _ (omega (arith, fit.seats_there, may.0)) refl (λ now. absurd (retired_has_none now)) h
served_after plan s (Glance j other seen) fit h may = h
served_after plan s (Withdraw j) fit h may = other_seat plan s j _ (omega (arith, fit.seats_there, may.0)) refl (λ now. absurd (tranquil_has_none now)) h
