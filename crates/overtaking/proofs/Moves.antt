-- Every legal event but looks, glances and Withdraw changes the state, and a look does where a mark isn't up to date.
use Rattle.std.proofs.Common.{◌≡◌, ◌≢◌, ℕ, slice_index_or, false, arith, refl, sym, ap, ◌∙◌, get_or-set_same}
use Rattle.std.proofs.lemmas.Bool.{false≢true}
use Rattle.lab_plan.specs.LabPlan.{LabPlan}
use Rattle.legal_steps.specs.declared.edge_state.EdgeState.{EdgeState}
use Rattle.legal_steps.specs.declared.event.Event.{Event}
use Rattle.legal_steps.specs.declared.event.Event.TheVariants.{Look, AskFork, GiveFork, Soil, AskBottles, GiveBottles, Thirst, Hunger, Sit, Leave, Drink, Reach, Act, Quit, Retire, Glance, Withdraw}
use Rattle.legal_steps.specs.State.{State, Seat, seat, edge, fork, token, is_dirty, dining, drinking, IsOwn, end_of, bottles_at}
use Rattle.legal_steps.specs.Fitting.{Fits}
use Rattle.legal_steps.specs.Legal.{May, after, fork_mark_seen, with_fork_mark, with_bottle_marks}
use Rattle.legal_steps.proofs.FitsWrites.{seat_same, edge_same}
use Rattle.legal_steps.proofs.FitsLaw.{own_is_job}
use Rattle.legal_steps.proofs.ForkEnds.{not_opposite}
use Rattle.overtaking.specs.Stuck.{IsMove, IsNoWithdraw, IsWayOn, IsUpToDate}
use Rattle.legal_steps.proofs.BottleSets.{changes_none}

pub moves_change : (plan : LabPlan) (s : State) (event : Event) → Fits plan s → IsMove event → May plan s event → after plan s event ≢ s
moves_change plan s (Look j e seen) fit move may same = move
moves_change plan s (AskFork j e) fit move may same =
    not_opposite (token s e) (sym (ap (λ (x : EdgeState). x.token) (edge_same s e _ (omega (arith, may.0.is_edge, fit.edges_there))))
    ∙ ap (λ (r : State). token r e) same)
moves_change plan s (GiveFork j e) fit move may same =
    not_opposite (fork s e) (sym (ap (λ (x : EdgeState). x.fork) (edge_same s e _ (omega (arith, may.0.is_edge, fit.edges_there))))
    ∙ ap (λ (r : State). fork r e) same)
moves_change plan s (Soil j e) fit move may same =
    false≢true (sym may.3
    ∙ (sym (ap (λ (r : State). is_dirty r e) same) ∙ ap (λ (x : EdgeState). x.dirty) (edge_same s e _ (omega (arith, may.0.is_edge, fit.edges_there)))))
moves_change plan s (AskBottles j e set) fit move may same =
    may.2.not_empty (changes_none (edge s e).bottle_tokens
    set (sym (ap (λ (x : EdgeState). x.bottle_tokens) (edge_same s e _ (omega (arith, may.0.is_edge, fit.edges_there))))
    ∙ ap (λ (r : State). (edge r e).bottle_tokens) same))
moves_change plan s (GiveBottles j e set) fit move may same =
    may.1.not_empty (changes_none (edge s e).bottles set (sym
    (ap (λ (x : EdgeState). x.bottles) (edge_same s e _ (omega (arith, may.0.is_edge, fit.edges_there)))) ∙ ap (λ (r : State). (edge r e).bottles) same))
moves_change plan s (Thirst j) fit move may same =
    let q = sym (ap (λ (x : Seat). x.phase.drinking) (seat_same s j _ (omega (arith, fit.seats_there, may.0))))
    ∙ (ap (λ (r : State). drinking r j) same ∙ may.1) in
    cc
moves_change plan s (Hunger j) fit move may same =
    let q = sym (ap (λ (x : Seat). x.phase.dining) (seat_same s j _ (omega (arith, fit.seats_there, may.0)))) ∙ (ap (λ (r : State). dining r j) same ∙ may.1) in
    cc
moves_change plan s (Sit j) fit move may same =
    let q = sym (ap (λ (x : Seat). x.phase.dining) (seat_same s j _ (omega (arith, fit.seats_there, may.0)))) ∙ (ap (λ (r : State). dining r j) same ∙ may.1) in
    cc
moves_change plan s (Leave j) fit move may same =
    let q = sym (ap (λ (x : Seat). x.phase.dining) (seat_same s j _ (omega (arith, fit.seats_there, may.0)))) ∙ (ap (λ (r : State). dining r j) same ∙ may.1) in
    cc
moves_change plan s (Drink j) fit move may same =
    let q = sym (ap (λ (x : Seat). x.phase.drinking) (seat_same s j _ (omega (arith, fit.seats_there, may.0))))
    ∙ (ap (λ (r : State). drinking r j) same ∙ may.1) in
    cc
moves_change plan s (Reach j) fit move may same =
    let q = sym (ap (λ (x : Seat). x.phase.drinking) (seat_same s j _ (omega (arith, fit.seats_there, may.0))))
    ∙ (ap (λ (r : State). drinking r j) same ∙ may.1) in
    cc
moves_change plan s (Act j) fit move may same =
    let q = sym (ap (λ (x : Seat). x.phase.drinking) (seat_same s j _ (omega (arith, fit.seats_there, may.0))))
    ∙ (ap (λ (r : State). drinking r j) same ∙ may.1) in
    cc
moves_change plan s (Quit j) fit move may same =
    let q = sym (ap (λ (x : Seat). x.phase.drinking) (seat_same s j _ (omega (arith, fit.seats_there, may.0))))
    ∙ (ap (λ (r : State). drinking r j) same ∙ may.1) in
    cc
moves_change plan s (Retire j) fit move may same =
    let q = sym (ap (λ (x : Seat). x.phase.drinking) (seat_same s j _ (omega (arith, fit.seats_there, may.0))))
    ∙ (ap (λ (r : State). drinking r j) same ∙ may.2) in
    cc
moves_change plan s (Glance j other seen) fit move may same = move
moves_change plan s (Withdraw j) fit move may same = move

no_withdraw : (event : Event) → IsMove event → IsNoWithdraw event
no_withdraw (Withdraw j) move = move
no_withdraw _ move = tt

pub move_leads_on : (plan : LabPlan) (s : State) (event : Event) → Fits plan s → IsMove event → May plan s event → IsWayOn plan s event
move_leads_on plan s event fit move may = record { may = may; no_withdraw = no_withdraw event move; changes = moves_change plan s event fit move may }

-- where a look changes nothing the marks are up to date
pub same_is_up_to_date : (plan : LabPlan) (s : State) (j e : ℕ) → Fits plan s → IsOwn plan j e → after plan s (Look j e (edge s e)) ≡ s → IsUpToDate plan s j e
same_is_up_to_date plan s j e fit own same =
    let job = own_is_job plan j e own in
    let mark = fork_mark_seen (dining s j) (end_of plan j e) (edge s e) in
    let marks = bottles_at plan e (end_of plan j e) (edge s e) in
    let x : Seat = with_bottle_marks (with_fork_mark (seat s j) e mark) e marks in
    let is : x ≡ seat s j = sym (seat_same s j x (omega (arith, fit.seats_there, job))) ∙ ap (λ (r : State). seat r j) same in
    record {
      fork = sym (ap (λ (y : Seat). slice_index_or y.fork_marks e false) is)
          ∙ get_or-set_same (seat s j).fork_marks e mark false (omega (arith, own.is_edge, (fit.seats_fit j job).fork_marks_there));
      bottles = sym (ap (λ (y : Seat). slice_index_or y.bottle_marks e 0) is)
          ∙ get_or-set_same (seat s j).bottle_marks e marks 0 (omega (arith, own.is_edge, (fit.seats_fit j job).bottle_marks_there));
    }

-- so a look at an edge whose marks are not up to date is a way on
pub look_leads_on : (plan : LabPlan) (s : State) (j e : ℕ) → Fits plan s → IsOwn plan j e → ¬ IsUpToDate plan s j e → IsWayOn plan s (Look j e (edge s e))
look_leads_on plan s j e fit own stale = record { may = (own, refl); no_withdraw = tt; changes = λ same. stale (same_is_up_to_date plan s j e fit own same) }
