-- A state fits its plan after each legal event.
use Rattle.std.proofs.Common.{ℕ, ◌<◌, length, arith, sym, subst, inl, inr}
use Rattle.std.specs.Prelude.{bit_xor, bit_and}
use Rattle.std.proofs.lemmas.Nat.{xor_lt, and_le_l}
use Rattle.lab_plan.specs.LabPlan.{LabPlan, bottles}
use Rattle.lab_plan.proofs.Edges.{ends_are_pair}
use Rattle.legal_steps.specs.declared.end.End.{End}
use Rattle.legal_steps.specs.declared.end.End.TheVariants.{Lower, Higher}
use Rattle.legal_steps.specs.declared.edge_state.EdgeState.{EdgeState}
use Rattle.legal_steps.specs.declared.phase.Drinking.TheVariants.{Tranquil, Retired}
use Rattle.legal_steps.specs.declared.event.Event.{Event}
use Rattle.legal_steps.specs.declared.event.Event.TheVariants.{Look, AskFork, GiveFork, Soil, AskBottles, GiveBottles, Thirst, Hunger, Sit, Leave, Drink, Reach, Act, Quit, Retire, Glance, Withdraw}
use Rattle.legal_steps.specs.State.{State, IsOwn, IsInSession, IsOfEdge, all_bottles, bottles_at, end_of}
use Rattle.legal_steps.specs.Fitting.{Fits}
use Rattle.legal_steps.specs.Legal.{May, after}
use Rattle.legal_steps.proofs.FitsWrites.{seat_fits_fork_mark, seat_fits_bottle_marks, seat_fits_turned, fits_with_edge, fits_with_seat, fits_with_phase, fits_with_log}

-- an own edge is an edge of a job of the plan
pub own_is_job : (plan : LabPlan) (j e : ℕ) → IsOwn plan j e → j < length plan.jobs
own_is_job plan j e own = let pair = ends_are_pair plan e own.is_edge in elim own.at_end [ inl h ↦ omega (arith, pair, h) | inr h ↦ omega (arith, pair, h) ]

pub not_tranquil : IsInSession Tranquil → ⊥
not_tranquil t = elim t [ inl e ↦ cc | inr r ↦ elim r [ inl e ↦ cc | inr e ↦ cc ] ]

pub not_retired : IsInSession Retired → ⊥
not_retired t = elim t [ inl e ↦ cc | inr r ↦ elim r [ inl e ↦ cc | inr e ↦ cc ] ]

-- ---- sets of bottles stay within their edge

-- those at one end
pub bottles_at_fit : (plan : LabPlan) (e : ℕ) (here : End) (x : EdgeState) → IsOfEdge plan e x.bottles → IsOfEdge plan e (bottles_at plan e here x)
unfolding bottles_at
bottles_at_fit plan e Higher x h = h
bottles_at_fit plan e Lower x h = xor_lt (length (bottles plan e)) (all_bottles plan e) x.bottles (omega (arith, h)) h

-- those that are left of the marks
left_fit : (plan : LabPlan) (e marks set : ℕ) → IsOfEdge plan e marks → IsOfEdge plan e (bit_xor marks (bit_and marks set))
left_fit plan e marks set h = xor_lt (length (bottles plan e)) marks (bit_and marks set) h (omega (arith, h, and_le_l marks set))

-- those after some changed their ends
flipped_fit : (plan : LabPlan) (e b set : ℕ) → IsOfEdge plan e b → IsOfEdge plan e set → IsOfEdge plan e (bit_xor b set)
flipped_fit plan e b set h k = xor_lt (length (bottles plan e)) b set h k

pub fits_after : (plan : LabPlan) (s : State) (event : Event) → Fits plan s → May plan s event → Fits plan (after plan s event)
fits_after plan s (Look j e seen) h may =
    let job = own_is_job plan j e may.0 in
    let here = subst (λ (y : EdgeState). IsOfEdge plan e y.bottles) (sym may.1) (h.bottles_fit e may.0.is_edge) in
    fits_with_seat plan s j _
    job (seat_fits_bottle_marks plan j e _ _ may.0.is_edge (bottles_at_fit plan e (end_of plan j e) seen here)
    (seat_fits_fork_mark plan j e _ _ (h.seats_fit j job))) h
fits_after plan s (AskFork j e) h may = let own = may.0.is_edge in fits_with_edge plan s e _ own (h.bottles_fit e own) (h.tokens_fit e own) h
fits_after plan s (GiveFork j e) h may =
    let own = may.0.is_edge in
    let job = own_is_job plan j e may.0 in
    fits_with_seat plan _ j _ job (seat_fits_fork_mark plan j e _ _ (h.seats_fit j job))
    (fits_with_edge plan s e _ own (h.bottles_fit e own) (h.tokens_fit e own) h)
fits_after plan s (Soil j e) h may =
    let own = may.0.is_edge in
    let job = own_is_job plan j e may.0 in
    fits_with_seat plan _ j _ job (seat_fits_fork_mark plan j e _ _ (h.seats_fit j job))
    (fits_with_edge plan s e _ own (h.bottles_fit e own) (h.tokens_fit e own) h)
fits_after plan s (AskBottles j e set) h may =
    let own = may.0.is_edge in
    fits_with_edge plan s e _ own (h.bottles_fit e own) (flipped_fit plan e _ set (h.tokens_fit e own) may.2.of_edge) h
fits_after plan s (GiveBottles j e set) h may =
    let own = may.0.is_edge in
    let job = own_is_job plan j e may.0 in
    let old = h.seats_fit j job in
    fits_with_seat plan _ j _ job (seat_fits_bottle_marks plan j e _ _ own (left_fit plan e _ set (old.bottle_marks_fit e own)) old)
    (fits_with_edge plan s e _ own (flipped_fit plan e _ set (h.bottles_fit e own) may.1.of_edge) (h.tokens_fit e own) h)
fits_after plan s (Thirst j) h may = fits_with_phase plan s j _ may.0 (omega (arith, may.3)) (λ _. omega arith) (omega arith) (λ e. absurd (cc)) h
fits_after plan s (Hunger j) h may =
    let old = (h.seats_fit j may.0).phase_within in
    fits_with_phase plan s j _ may.0 old.session_there old.begun old.position_there old.command_left h
fits_after plan s (Sit j) h may = fits_with_seat plan s j _ may.0 (seat_fits_turned plan j _ _ (h.seats_fit j may.0)) h
fits_after plan s (Leave j) h may = fits_with_seat plan s j _ may.0 (seat_fits_turned plan j _ _ (h.seats_fit j may.0)) h
fits_after plan s (Drink j) h may =
    let old = (h.seats_fit j may.0).phase_within in
    fits_with_phase plan s j _ may.0 old.session_there (λ _. old.begun (inl may.1)) old.position_there (λ e. absurd (cc)) h
fits_after plan s (Reach j) h may =
    let old = (h.seats_fit j may.0).phase_within in
    fits_with_phase plan s j _ may.0 old.session_there (λ _. old.begun (inr (inl may.1))) old.position_there (λ _. may.2) h
fits_after plan s (Act j) h may =
    let old = (h.seats_fit j may.0).phase_within in
    fits_with_log plan _ _ _
    (fits_with_phase plan s j _ may.0 old.session_there (λ _. old.begun (inr (inr may.1))) (omega (arith, old.command_left may.1)) (λ e. absurd (cc)) h)
fits_after plan s (Quit j) h may =
    let old = (h.seats_fit j may.0).phase_within in
    fits_with_phase plan s j _ may.0 old.session_there (λ t. absurd (not_tranquil t)) (omega arith) (λ e. absurd (cc)) h
fits_after plan s (Retire j) h may =
    let old = (h.seats_fit j may.0).phase_within in
    fits_with_phase plan s j _ may.0 old.session_there (λ t. absurd (not_retired t)) old.position_there (λ e. absurd (cc)) h
fits_after plan s (Glance j other seen) h may = h
fits_after plan s (Withdraw j) h may =
    let old = (h.seats_fit j may.0).phase_within in
    fits_with_phase plan s j _ may.0 old.session_there (λ t. absurd (not_tranquil t)) (omega arith) (λ e. absurd (cc)) h
