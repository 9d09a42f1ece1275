-- A fork mark is true, and an eating job has all its forks: after every legal event.
use Rattle.std.proofs.Common.{◌≡◌, ◌⊎◌, ℕ, ◌<◌, length, slice_index_or, slice_set, replicate, zero, suc, ◌&&◌, Bool, true, false, arith, refl, sym, subst, ap, ◌∙◌, inl, inr, get_or-set_same}
use Rattle.std.proofs.lemmas.Grind.{common_steps}
use Rattle.std.proofs.lemmas.Bool.{cases_eq, false≢true}
use Rattle.lab_plan.specs.LabPlan.{LabPlan}
use Rattle.legal_steps.specs.declared.end.End.{End}
use Rattle.legal_steps.specs.declared.end.End.TheVariants.{Lower, Higher}
use Rattle.legal_steps.specs.declared.phase.Dining.{Dining}
use Rattle.legal_steps.specs.declared.phase.Dining.TheVariants.{Thinking, Hungry, Eating}
use Rattle.legal_steps.specs.declared.edge_state.EdgeState.{EdgeState}
use Rattle.legal_steps.specs.declared.event.Event.{Event}
use Rattle.legal_steps.specs.declared.event.Event.TheVariants.{Look, AskFork, GiveFork, Soil, AskBottles, GiveBottles, Thirst, Hunger, Sit, Leave, Drink, Reach, Act, Quit, Retire, Glance, Withdraw}
use Rattle.legal_steps.specs.State.{State, Seat, seat, edge, dining, fork_mark as mark, IsOwn, end_of}
use Rattle.legal_steps.specs.Fitting.{Fits}
use Rattle.legal_steps.specs.Legal.{May, after, with_edge, with_seat, with_phase, with_fork_mark, Here, fork_mark_seen, is_at, turned_to}
use Rattle.legal_steps.proofs.FitsWrites.{seat_same, seat_cases, edge_cases}
use Rattle.legal_steps.proofs.FitsLaw.{own_is_job}
use Rattle.legal_steps.proofs.ForkEnds.{one_at_end}

-- a mark says that the fork is here; an eating job has all its forks, and its marks say that they are dirty
pub record HasForks (plan : LabPlan) (s : State) : Type 0 where
  pub marked : (j e : ℕ) → IsOwn plan j e → mark s j e ≡ true → Here plan j e (edge s e).fork
  pub eating : (j e : ℕ) → IsOwn plan j e → dining s j ≡ Eating → Here plan j e (edge s e).fork
  pub soiled : (j e : ℕ) → IsOwn plan j e → dining s j ≡ Eating → mark s j e ≡ true → (edge s e).dirty ≡ true

-- nothing changes for forks
same_forks : (plan : LabPlan) (s s' : State) → HasForks plan s
    → ((k : ℕ) → dining s' k ≡ dining s k) → ((k : ℕ) → (seat s' k).fork_marks ≡ (seat s k).fork_marks)
    → ((e : ℕ) → (edge s' e).fork ≡ (edge s e).fork) → ((e : ℕ) → (edge s' e).dirty ≡ (edge s e).dirty) → HasForks plan s'
same_forks plan s s' h d m f t = record {
  marked = λ j e own is. f e ∙ h.marked j e own (ap (λ xs. slice_index_or xs e false) (sym (m j)) ∙ is);
  eating = λ j e own eats. f e ∙ h.eating j e own (sym (d j) ∙ eats);
  soiled = λ j e own eats is. t e ∙ h.soiled j e own (sym (d j) ∙ eats) (ap (λ xs. slice_index_or xs e false) (sym (m j)) ∙ is);
}

-- another seat with the same dining and marks
other_seat : (plan : LabPlan) (s : State) (j : ℕ) (x : Seat) → j < length s.seats → x.phase.dining ≡ dining s j
    → x.fork_marks ≡ (seat s j).fork_marks → HasForks plan s → HasForks plan (with_seat s j x)
other_seat plan s j x inside d m h =
    same_forks plan s (with_seat s j x) h
    (λ k. elim (seat_cases s j x inside k)
    [ inl w ↦ ap (λ (y : Seat). y.phase.dining) w.1 ∙ (d ∙ ap (dining s) (sym w.0)) | inr w ↦ ap (λ (y : Seat). y.phase.dining) w.1 ])
    (λ k. elim (seat_cases s j x inside k)
    [ inl w ↦ ap (λ (y : Seat). y.fork_marks) w.1 ∙ (m ∙ ap (λ n. (seat s n).fork_marks) (sym w.0)) | inr w ↦ ap (λ (y : Seat). y.fork_marks) w.1 ])
    (λ e. refl) (λ e. refl)

-- another edge with the same fork
other_edge : (plan : LabPlan) (s : State) (e : ℕ) (x : EdgeState) → e < length s.edges
    → x.fork ≡ (edge s e).fork → x.dirty ≡ (edge s e).dirty → HasForks plan s → HasForks plan (with_edge s e x)
other_edge plan s e x inside f t h =
    same_forks plan s (with_edge s e x) h (λ k. refl) (λ k. refl)
    (λ k. elim (edge_cases s e x inside k)
    [ inl w ↦ ap (λ (y : EdgeState). y.fork) w.1 ∙ (f ∙ ap (λ n. (edge s n).fork) (sym w.0)) | inr w ↦ ap (λ (y : EdgeState). y.fork) w.1 ])
    (λ k. elim (edge_cases s e x inside k)
    [ inl w ↦ ap (λ (y : EdgeState). y.dirty) w.1 ∙ (t ∙ ap (λ n. (edge s n).dirty) (sym w.0)) | inr w ↦ ap (λ (y : EdgeState). y.dirty) w.1 ])

-- the mark of job k for edge e after job j's mark for edge e0 became m
pub mark_cases : (s : State) (j e0 : ℕ) (m : Bool) (x : Seat) → j < length s.seats
    → e0 < length (seat s j).fork_marks → x.fork_marks ≡ slice_set (seat s j).fork_marks e0 m
    → (k e : ℕ) → ((k ≡ j) × (e ≡ e0) × (mark (with_seat s j x) k e ≡ m)) ⊎ (mark (with_seat s j x) k e ≡ mark s k e)
mark_cases s j e0 m x inside there is k e = elim (seat_cases s j x inside k) [
  | inr w ↦ inr (ap (λ (y : Seat). slice_index_or y.fork_marks e false) w.1)
  | inl w ↦ elim (cases_eq e e0) [
    | inl same ↦ inl (w.0, same, grind (arith, common_steps, is, w.1))
    | inr other ↦ inr (grind (arith, common_steps, is, w.1))
  ]
]

-- one mark is set to m, which tells the truth
remark : (plan : LabPlan) (s : State) (j e0 : ℕ) (m : Bool) (x : Seat) → j < length s.seats
    → e0 < length (seat s j).fork_marks → x.phase.dining ≡ dining s j → x.fork_marks ≡ slice_set (seat s j).fork_marks e0 m
    → (m ≡ true → Here plan j e0 (edge s e0).fork × (dining s j ≡ Eating → (edge s e0).dirty ≡ true)) → HasForks plan s → HasForks plan (with_seat s j x)
remark plan s j e0 m x inside there d is truth h =
    let dines : (k : ℕ) → dining (with_seat s j x) k ≡ dining s k =
    λ k. elim (seat_cases s j x inside k) [
      | inl w ↦ ap (λ (y : Seat). y.phase.dining) w.1 ∙ (d ∙ ap (dining s) (sym w.0))
      | inr w ↦ ap (λ (y : Seat). y.phase.dining) w.1
    ] in
    record {
      marked = λ k e own set. elim (mark_cases s j e0 m x inside there is k e) [
        | inl w ↦ subst (λ n. Here plan n e (edge s e).fork) (sym w.0) (subst (λ n. Here plan j n (edge s n).fork) (sym w.1) (truth (sym w.2 ∙ set)).0)
        | inr same ↦ h.marked k e own (sym same ∙ set)
      ];
      eating = λ k e own eats. h.eating k e own (sym (dines k) ∙ eats);
      soiled = λ k e own eats set. elim (mark_cases s j e0 m x inside there is k e) [
        | inl w ↦ subst (λ n. (edge s n).dirty ≡ true) (sym w.1) ((truth (sym w.2 ∙ set)).1 (ap (dining s) (sym w.0) ∙ (sym (dines k) ∙ eats)))
        | inr same ↦ h.soiled k e own (sym (dines k) ∙ eats) (sym same ∙ set)
      ];
    }

pub and_true : (a b : Bool) → (a && b) ≡ true → (a ≡ true) × (b ≡ true)
and_true true b h = (refl, h)
and_true false b h = absurd (false≢true h)

pub is_at_true : (a b : End) → is_at a b ≡ true → b ≡ a
is_at_true Lower Lower h = refl
is_at_true Higher Higher h = refl
is_at_true Lower Higher h = absurd (false≢true h)
is_at_true Higher Lower h = absurd (false≢true h)

pub all_false : (n e : ℕ) → slice_index_or (replicate n false) e false ≡ false
all_false zero e = refl
all_false (suc n) zero = refl
all_false (suc n) (suc e) = all_false n e

-- a look sets the mark only where it is true
mark_seen : (d : Dining) (here : End) (x : EdgeState) → fork_mark_seen d here x ≡ true → (x.fork ≡ here) × (d ≡ Eating → x.dirty ≡ true)
unfolding fork_mark_seen
mark_seen Eating here x set = let p = and_true _ _ set in (is_at_true here x.fork p.0, λ _. p.1)
mark_seen Thinking here x set = (is_at_true here x.fork (and_true _ _ set).0, λ e. absurd (cc))
mark_seen Hungry here x set = (is_at_true here x.fork (and_true _ _ set).0, λ e. absurd (cc))

-- the fork of an edge moves, while no job at the edge has a mark for it or eats
moved : (plan : LabPlan) (s : State) (e0 : ℕ) (x : EdgeState) → e0 < length s.edges → ((k : ℕ) → IsOwn plan k e0 → mark s k e0 ≡ true → ⊥)
    → ((k : ℕ) → IsOwn plan k e0 → dining s k ≡ Eating → ⊥) → HasForks plan s → HasForks plan (with_edge s e0 x)
moved plan s e0 x inside unmarked idle h =
    let at0 : (e : ℕ) → (k : ℕ) → IsOwn plan k e → e ≡ e0 → IsOwn plan k e0 = λ e k own same. subst (IsOwn plan k) same own in
    record {
      marked = λ k e own set. elim (edge_cases s e0 x inside e) [
        | inl w ↦ absurd (unmarked k (at0 e k own w.0) (ap (mark s k) (sym w.0) ∙ set))
        | inr w ↦ ap (λ (y : EdgeState). y.fork) w.1 ∙ h.marked k e own set
      ];
      eating = λ k e own eats. elim (edge_cases s e0 x inside e) [
        | inl w ↦ absurd (idle k (at0 e k own w.0) eats)
        | inr w ↦ ap (λ (y : EdgeState). y.fork) w.1 ∙ h.eating k e own eats
      ];
      soiled = λ k e own eats set. elim (edge_cases s e0 x inside e) [
        | inl w ↦ absurd (idle k (at0 e k own w.0) eats)
        | inr w ↦ ap (λ (y : EdgeState). y.dirty) w.1 ∙ h.soiled k e own eats set
      ];
    }

-- a fork gets dirty
dirtied : (plan : LabPlan) (s : State) (e0 : ℕ) (x : EdgeState) → e0 < length s.edges
    → x.fork ≡ (edge s e0).fork → x.dirty ≡ true → HasForks plan s → HasForks plan (with_edge s e0 x)
dirtied plan s e0 x inside f t h =
    let fork : (e : ℕ) → (edge (with_edge s e0 x) e).fork ≡ (edge s e).fork =
    λ e. elim (edge_cases s e0 x inside e) [
      | inl w ↦ ap (λ (y : EdgeState). y.fork) w.1 ∙ (f ∙ ap (λ n. (edge s n).fork) (sym w.0))
      | inr w ↦ ap (λ (y : EdgeState). y.fork) w.1
    ] in
    record {
      marked = λ k e own set. fork e ∙ h.marked k e own set;
      eating = λ k e own eats. fork e ∙ h.eating k e own eats;
      soiled = λ k e own eats set. elim (edge_cases s e0 x inside e) [
        | inl w ↦ ap (λ (y : EdgeState). y.dirty) w.1 ∙ t
        | inr w ↦ ap (λ (y : EdgeState). y.dirty) w.1 ∙ h.soiled k e own eats set
      ];
    }

-- a meal begins with all forks, or ends
turned : (plan : LabPlan) (s : State) (j : ℕ) (d : Dining) → j < length s.seats
    → (d ≡ Eating → (e : ℕ) → IsOwn plan j e → Here plan j e (edge s e).fork) → HasForks plan s → HasForks plan (with_seat s j (turned_to (seat s j) d))
turned plan s j d inside all h =
    let x = turned_to (seat s j) d in
    let bare : (e : ℕ) → slice_index_or x.fork_marks e false ≡ false = λ e. all_false (length (seat s j).fork_marks) e in
    record {
      marked = λ k e own set. elim (seat_cases s j x inside k) [
        | inl w ↦ absurd (false≢true (sym (bare e) ∙ (ap (λ (y : Seat). slice_index_or y.fork_marks e false) (sym w.1) ∙ set)))
        | inr w ↦ h.marked k e own (ap (λ (y : Seat). slice_index_or y.fork_marks e false) (sym w.1) ∙ set)
      ];
      eating = λ k e own eats. elim (seat_cases s j x inside k) [
        | inl w ↦ subst (λ n. IsOwn plan n e → Here plan n e (edge s e).fork) (sym w.0) (all (ap (λ (y : Seat). y.phase.dining) (sym w.1) ∙ eats) e) own
        | inr w ↦ h.eating k e own (ap (λ (y : Seat). y.phase.dining) (sym w.1) ∙ eats)
      ];
      soiled = λ k e own eats set. elim (seat_cases s j x inside k) [
        | inl w ↦ absurd (false≢true (sym (bare e) ∙ (ap (λ (y : Seat). slice_index_or y.fork_marks e false) (sym w.1) ∙ set)))
        | inr w ↦ h.soiled k e own (ap (λ (y : Seat). y.phase.dining) (sym w.1) ∙ eats) (ap (λ (y : Seat). slice_index_or y.fork_marks e false) (sym w.1) ∙ set)
      ];
    }

-- another seat with the same marks, of a job that does not eat
not_eating : (plan : LabPlan) (s : State) (j : ℕ) (x : Seat) → j < length s.seats → (x.phase.dining ≡ Eating → ⊥)
    → x.fork_marks ≡ (seat s j).fork_marks → HasForks plan s → HasForks plan (with_seat s j x)
not_eating plan s j x inside idle m h =
    let marks : (k e : ℕ) → mark (with_seat s j x) k e ≡ mark s k e =
    λ k e. elim (seat_cases s j x inside k) [
      | inl w ↦ ap (λ (y : Seat). slice_index_or y.fork_marks e false) w.1 ∙ (ap (λ xs. slice_index_or xs e false) m ∙ ap (λ n. mark s n e) (sym w.0))
      | inr w ↦ ap (λ (y : Seat). slice_index_or y.fork_marks e false) w.1
    ] in
    record {
      marked = λ k e own set. h.marked k e own (sym (marks k e) ∙ set);
      eating = λ k e own eats. elim (seat_cases s j x inside k) [
        | inl w ↦ absurd (idle (ap (λ (y : Seat). y.phase.dining) (sym w.1) ∙ eats))
        | inr w ↦ h.eating k e own (ap (λ (y : Seat). y.phase.dining) (sym w.1) ∙ eats)
      ];
      soiled = λ k e own eats set. elim (seat_cases s j x inside k) [
        | inl w ↦ absurd (idle (ap (λ (y : Seat). y.phase.dining) (sym w.1) ∙ eats))
        | inr w ↦ h.soiled k e own (ap (λ (y : Seat). y.phase.dining) (sym w.1) ∙ eats) (sym (marks k e) ∙ set)
      ];
    }

pub has_forks_after : (plan : LabPlan) (s : State) (event : Event) → Fits plan s → HasForks plan s → May plan s event → HasForks plan (after plan s event)
has_forks_after plan s (Look j e seen) fit h may =
    let job = own_is_job plan j e may.0 in
    let here = end_of plan j e in
    let truth : fork_mark_seen (dining s j) here seen ≡ true → Here plan j e (edge s e).fork × (dining s j ≡ Eating → (edge s e).dirty ≡ true) =
    λ set. let p = mark_seen (dining s j) here seen set in
    (ap (λ (y : EdgeState). y.fork) (sym may.1) ∙ p.0, λ eats. ap (λ (y : EdgeState). y.dirty) (sym may.1) ∙ p.1 eats) in
    remark plan s j e (fork_mark_seen (dining s j) here seen) _ (omega (arith, fit.seats_there, job))
    (omega (arith, may.0.is_edge, (fit.seats_fit j job).fork_marks_there)) refl refl truth h
has_forks_after plan s (AskFork j e) fit h may = other_edge plan s e _ (omega (arith, may.0.is_edge, fit.edges_there)) refl refl h
has_forks_after plan s (GiveFork j e) fit h may =
    let job = own_is_job plan j e may.0 in
    let inside : j < length s.seats = omega (arith, fit.seats_there, job) in
    let there : e < length (seat s j).fork_marks = omega (arith, may.0.is_edge, (fit.seats_fit j job).fork_marks_there) in
    let x = with_fork_mark (seat s j) e false in
    let bare = remark plan s j e false x inside there refl refl (λ no. absurd (false≢true no)) h in
    let cleared : mark (with_seat s j x) j e ≡ false =
    ap (λ (y : Seat). slice_index_or y.fork_marks e false) (seat_same s j x inside) ∙ get_or-set_same (seat s j).fork_marks e false false there in
    moved plan (with_seat s j x) e _ (omega (arith, may.0.is_edge, fit.edges_there))
    (λ k own set. elim (cases_eq k j) [
      | inl same ↦ false≢true (sym cleared ∙ (ap (λ n. mark (with_seat s j x) n e) (sym same) ∙ set))
      | inr other ↦ other (one_at_end plan k j e own may.0 (sym (bare.marked k e own set) ∙ may.2))
    ])
    (λ k own eats. elim (cases_eq k j) [
      | inl same ↦ may.1 (ap (λ (y : Seat). y.phase.dining) (sym (seat_same s j x inside)) ∙ (ap (dining (with_seat s j x)) (sym same) ∙ eats))
      | inr other ↦ other (one_at_end plan k j e own may.0 (sym (bare.eating k e own eats) ∙ may.2))
    ])
    bare
has_forks_after plan s (Soil j e) fit h may =
    let job = own_is_job plan j e may.0 in
    let x : EdgeState = record (edge s e) { dirty = true } in
    let inside : e < length s.edges = omega (arith, may.0.is_edge, fit.edges_there) in
    let soft = dirtied plan s e x inside refl refl h in
    remark plan (with_edge s e x) j e true _ (omega (arith, fit.seats_there, job)) (omega (arith, may.0.is_edge, (fit.seats_fit j job).fork_marks_there))
    refl refl (λ _. (soft.eating j e may.0 may.1, λ _. ap (λ (y : EdgeState). y.dirty) (get_or-set_same s.edges e x _ inside))) soft
has_forks_after plan s (AskBottles j e set) fit h may = other_edge plan s e _ (omega (arith, may.0.is_edge, fit.edges_there)) refl refl h
has_forks_after plan s (GiveBottles j e set) fit h may =
    other_seat plan _ j _ (omega (arith, fit.seats_there, own_is_job plan j e may.0)) refl refl
    (other_edge plan s e _ (omega (arith, may.0.is_edge, fit.edges_there)) refl refl h)
has_forks_after plan s (Thirst j) fit h may = other_seat plan s j _ (omega (arith, fit.seats_there, may.0)) refl refl h
has_forks_after plan s (Hunger j) fit h may = not_eating plan s j _ (omega (arith, fit.seats_there, may.0)) (λ eats. absurd (cc)) refl h
has_forks_after plan s (Sit j) fit h may = turned plan s j Eating (omega (arith, fit.seats_there, may.0)) (λ _ e own. h.marked j e own (may.2 e own)) h
has_forks_after plan s (Leave j) fit h may = turned plan s j Thinking (omega (arith, fit.seats_there, may.0)) (λ no. absurd (cc)) h
has_forks_after plan s (Drink j) fit h may = other_seat plan s j _ (omega (arith, fit.seats_there, may.0)) refl refl h
has_forks_after plan s (Reach j) fit h may = other_seat plan s j _ (omega (arith, fit.seats_there, may.0)) refl refl h
has_forks_after plan s (Act j) fit h may =
    same_forks plan (with_phase s j _) _ (other_seat plan s j _ (omega (arith, fit.seats_there, may.0)) refl refl h)
    (λ k. refl) (λ k. refl) (λ e. refl) (λ e. refl)
has_forks_after plan s (Quit j) fit h may = other_seat plan s j _ (omega (arith, fit.seats_there, may.0)) refl refl h
has_forks_after plan s (Retire j) fit h may = other_seat plan s j _ (omega (arith, fit.seats_there, may.0)) refl refl h
has_forks_after plan s (Glance j other seen) fit h may = h
has_forks_after plan s (Withdraw j) fit h may = other_seat plan s j _ (omega (arith, fit.seats_there, may.0)) refl refl h
