-- A turn by the state is a turn by what its job knows.
use Rattle.std.proofs.Common.{◌≡◌, ℕ, zero, suc, ◌+◌, ◌<◌, List, [], ◌∷◌, ◌++◌, length, refl, sym, ap, ◌∙◌, subst, arith}
use Rattle.lab_plan.specs.LabPlan.{LabPlan, edges_of}
use Rattle.legal_steps.specs.declared.event.Event.{Event}
use Rattle.legal_steps.specs.State.{State, Seat, seat, phase, session, drinking}
use Rattle.legal_steps.specs.Legal.{IsJob, after}
use Rattle.legal_steps.specs.Opening.{the_opening}
use Rattle.legal_steps.specs.Run.{IsLegalFrom, after_all}
use Rattle.interleaving.specs.World.{WorldView}
use Rattle.turns.specs.History.{events_by, learned_all, IsHistory, state_after}
use Rattle.turns.specs.Patience.{is_waiting, waited_in}
use Rattle.turns.proofs.Frame.{as_many_edges}
use Rattle.turns.proofs.Runs.{after_all-append, legal-append, all_seats, learned_all_seats, learned_all_edges, opening_seats, opening_edges, own_known}
use Rattle.turns.specs.Acts.{AreActs}
use Rattle.turns.specs.Turn.{is_done, count, once, visits_events, IsTurnBy}
use Rattle.session_layer.specs.declared.turning.Turned.{Turned}
use Rattle.session_layer.specs.declared.turning.Turned.TheVariants as answers
use Rattle.session_layer.specs.Turn.{Says}
use Rattle.rounds.specs.Rounds as rounds
use Rattle.rounds.specs.Rounds.{Plays, known_in}
use Rattle.rounds.proofs.OneTurn.{turn_by}
use Rattle.round_trace.specs.declared.player.Player.{Player}
use Rattle.round_trace.specs.Doing.{Does, VisitsEdges, ActsDue}
use Rattle.round_trace.specs.Players.{waits, player_of, waited_then, StandsAt}
use Rattle.round_trace.proofs.Learned.{learned_all_legal}
use Rattle.round_trace.proofs.Doing.{does_both}
use Rattle.round_trace.proofs.Alike.{SameSeat, same_all, turn_alike}

-- the world stands where the longer history led
pub stands_on : (old new : WorldView) (before later events : List Event) → StandsAt old before → Does old before events new later → StandsAt new later
stands_on old new before later events at d =
    let from : IsLegalFrom old.plan (state_after old.plan before) events = subst (λ (z : State). IsLegalFrom old.plan z events) at.led d.run.legal in
    let legal : IsHistory old.plan (before ++ events) = legal-append old.plan (the_opening old.plan) before events at.legal from in
    let led : new.state ≡ state_after old.plan (before ++ events) = d.run.leads ∙ (ap (λ (z : State). after_all old.plan z events) at.led ∙
    sym (after_all-append old.plan (the_opening old.plan) before events)) in
    record {
      legal = subst (λ (z : LabPlan × List Event). IsHistory z.0 z.1) (λ i. (sym d.same_plan i, sym d.added i)) legal;
      led = led ∙ (λ i. state_after (sym d.same_plan i) (sym d.added i));
    }

-- what a turn answers
some_answer : (n : ℕ) → (r : Turned) × Says r n 0
some_answer zero = (answers.Idle, (refl, refl))
some_answer (suc n) = (answers.Acted (suc n), (refl, omega arith))

all_edges : (plan : LabPlan) (s : State) (h : List Event) → length (after_all plan s h).edges ≡ length s.edges
all_edges plan s [] = refl
all_edges plan s (x ∷ h) = all_edges plan (after plan s x) h ∙ as_many_edges plan s x

module _ (w0 w1 w2 : WorldView) (l0 l1 l2 : List Event) (x : Player) (waited : ℕ) (job : IsJob w0.plan x.job) (at : StandsAt w0 l0)
    (v : VisitsEdges w0 l0 x.job (edges_of w0.plan x.job) w1 l1) (a : ActsDue w1 l1 x.job waited w2 l2) where
  abbrev plan : LabPlan
  plan = w0.plan

  abbrev j : ℕ
  j = x.job

  abbrev known : State
  known = known_in plan l0 j

  abbrev events : List Event
  events = visits_events j v.visits ++ a.acts

  pub turned_does : Does w0 l0 events w2 l2
  turned_does = does_both w0 w1 w2 l0 l1 l2 (visits_events j v.visits) a.acts v.does a.does

  by_state : IsTurnBy plan j waited w0.state v.visits a.acts events
  by_state =
      let learns : w1.state ≡ learned_all plan w0.state (visits_events j v.visits) = v.does.run.leads ∙
      sym (learned_all_legal plan w0.state (visits_events j v.visits) v.does.run.legal) in
      record {
        edges = v.edges;
        due = v.due;
        acts_due = subst (λ (z : LabPlan × State). AreActs z.0 z.1 j waited a.acts) (λ i. (v.does.same_plan i, learns i)) a.due;
        events_are = refl;
      }

  same : SameSeat plan j w0.state known
  same =
      let led : State = state_after plan l0 in
      let seats_s : length w0.state.seats ≡ length plan.jobs = ap (λ (z : State). length z.seats) at.led ∙ (all_seats plan (the_opening plan) l0 ∙
      opening_seats plan) in
      let seats_t : length known.seats ≡ length plan.jobs = learned_all_seats plan (the_opening plan) (events_by j l0) ∙ opening_seats plan in
      record {
        job_s = subst (λ n. j < n) (sym seats_s) job;
        job_t = subst (λ n. j < n) (sym seats_t) job;
        edges_s = ap (λ (z : State). length z.edges) at.led ∙ (all_edges plan (the_opening plan) l0 ∙ opening_edges plan);
        edges_t = learned_all_edges plan (the_opening plan) (events_by j l0) ∙ opening_edges plan;
        own = ap (λ (z : State). seat z j) at.led ∙ own_known plan j l0 job;
      }

  -- the seat after the turn
  same_then : seat w2.state j ≡ seat (learned_all plan known events) j
  same_then = ap (λ (z : State). seat z j) (turned_does.run.leads ∙ sym (learned_all_legal plan w0.state events turned_does.run.legal))
      ∙ (same_all plan j w0.state known events (turn_by plan j waited w0.state v.visits a.acts events by_state) same).own

  pub turned : waited ≡ waited_in (waits x) (session w0.state j) → (x' : rounds.Player) →
      x' ≡ record { job = j; waited = waited_then (waits x) (is_waiting (drinking w0.state j)) (phase w2.state j) }
      → (r : Turned) × Plays plan (player_of x) l0 r l2 x'
  turned waited_is x' counted =
      let so_far : waited ≡ waited_in (waits x) (session known j) = waited_is ∙ ap (λ (y : Seat). waited_in (waits x) y.phase.session) same.own in
      let r = some_answer (count is_done v.visits + once a.acts) in (
        r.0,
        record {
          visits = v.visits;
          acts = a.acts;
          events = events;
          after = turned_does.added;
          turn = subst (λ n. IsTurnBy plan j n known v.visits a.acts events) so_far
              (turn_alike plan j w0.state known waited v.visits a.acts events same by_state);
          none_lost = v.none_lost;
          says = r.1;
          counted = counted ∙ (λ i. record { job = j; waited = waited_then (waits x) (is_waiting (same.own i).phase.drinking) (same_then i).phase });
        },
      )
