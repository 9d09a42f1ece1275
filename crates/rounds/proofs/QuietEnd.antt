-- Rounds don't end because nothing is left to do.
use Rattle.std.proofs.Common.{◌≡◌, ℕ, zero, suc, Bool, true, false, if◌then◌else◌, List, [], ◌∷◌, ◌++◌, map, refl, sym, ap, ◌∙◌, subst}
use Rattle.std.proofs.lemmas.Bool.{false≢true}
use Rattle.lab_plan.specs.LabPlan.{LabPlan}
use Rattle.legal_steps.specs.declared.event.Event.{Event}
use Rattle.legal_steps.specs.declared.event.Event.TheVariants.{Look}
use Rattle.legal_steps.specs.declared.phase.Drinking.TheVariants.{Tranquil, Reaching}
use Rattle.legal_steps.specs.State.{State, Seat}
use Rattle.legal_steps.specs.Opening.{the_opening}
use Rattle.legal_steps.proofs.LogRun.{opening_phase}
use Rattle.legal_steps.proofs.ReachedLaws.{the_opening_is_acyclic}
use Rattle.turns.specs.History.{events_by, known_by}
use Rattle.turns.proofs.Runs.{own_known}
use Rattle.turns.specs.Turn.{Visit, IsIdleTurn}
use Rattle.turns.specs.Turns.{is_glance, but_glances}
use Rattle.turns.specs.Laws.{LeavesCalm}
use Rattle.turns.proofs.Idle.{nothing_done_is_idle, idle_turn_is_calm}
use Rattle.rounds.specs.QuietRound.{EndsIdle}
use Rattle.rounds.proofs.QuietRound.{known_but, quiet_round_is_retired}
use Rattle.edge_rule.specs.Ending.{Any}
use Rattle.edge_rule.specs.Company.{Distinct}
use Rattle.rounds.specs.Rounds.{known_in}
use Rattle.rounds.specs.QuietEnd.{jobs_in, NoQuietEnd, NoQuietEndFromRest}
use Rattle.rounds.proofs.InRounds.{OneTurn, round_one, rounds_jobs, rounds_rest}

but_append : (a b : List Event) → but_glances (a ++ b) ≡ but_glances a ++ but_glances b
but_append [] b = refl
but_append (x ∷ a) b = at (is_glance x) (but_append a b) where
  at : (c : Bool) → but_glances (a ++ b) ≡ but_glances a ++ but_glances b
      → (if c then but_glances (a ++ b) else x ∷ but_glances (a ++ b)) ≡ (if c then but_glances a else x ∷ but_glances a) ++ but_glances b
  at true e = e
  at false e = ap (λ l. x ∷ l) e

looks_stay : (j : ℕ) (visits : List Visit) → but_glances (map (λ (v : Visit). Look j v.edge v.saw) visits) ≡ map (λ (v : Visit). Look j v.edge v.saw) visits
looks_stay j [] = refl
looks_stay j (v ∷ visits) = ap (λ l. Look j v.edge v.saw ∷ l) (looks_stay j visits)

-- a job whose turn did nothing ends idle
ends_idle : (plan : LabPlan) (j : ℕ) (h g : List Event) → OneTurn plan j true h g → EndsIdle plan g j
ends_idle plan j h g q =
    let known : known_by plan (but_glances (events_by j h)) ≡ known_in plan h j = known_but plan (the_opening plan) (events_by j h) in
    let idle : IsIdleTurn plan j q.waited (known_in plan h j) q.events =
    nothing_done_is_idle plan j q.waited (known_in plan h j) q.visits q.acts q.events q.turn (q.none_done refl) q.none_lost in
    let calm : LeavesCalm plan j q.waited (known_in plan h j) q.events = idle_turn_is_calm plan j q.waited (known_in plan h j) q.events idle in
    let same : but_glances q.events ≡ q.events = ap but_glances calm.looks ∙ (looks_stay j calm.visits ∙ sym calm.looks) in
    record {
      before = but_glances (events_by j h);
      idle = q.events;
      waited = q.waited;
      events = ap but_glances q.own ∙ (but_append (events_by j h) q.events ∙ ap (λ l. but_glances (events_by j h) ++ l) same);
      turn = subst (λ (s : State). IsIdleTurn plan j q.waited s q.events) (sym known) idle;
    }

pub no_quiet_end_from_rest : NoQuietEndFromRest
no_quiet_end_from_rest plan players players' zero start h all apart rest legal is both = absurd (false≢true (sym is.1))
no_quiet_end_from_rest plan players players' (suc n) start h all apart rest legal (m, before, middle, rounds, going, last) both =
    let same : jobs_in middle ≡ jobs_in players = rounds_jobs plan players middle n before start m rounds in
    quiet_round_is_retired plan h (record {
      legal = legal;
      idle = λ j job. ends_idle plan j m h
          (round_one plan j middle players' true m h (subst Distinct (sym same) apart) (subst (Any (λ (i : ℕ). i ≡ j)) (sym same) (all j job)) last);
      none_reaches = λ j job reaching. rounds_rest plan j job players players' (suc n) true start h apart (all j job) (m, before, middle, rounds, going, last)
          (λ e. rest j job (ap (λ (x : Seat). x.phase.drinking) (own_known plan j start job) ∙ e))
          (ap (λ (x : Seat). x.phase.drinking) (sym (own_known plan j h job)) ∙ reaching);
      both_know = both;
    })

pub no_quiet_end : NoQuietEnd
no_quiet_end plan players players' n h all apart legal rounds both =
    no_quiet_end_from_rest plan players players' n [] h all apart
    (λ j job e. let begins : Tranquil ≡ Reaching = sym (ap (λ x. x.drinking)
    (opening_phase plan (the_opening plan) j (the_opening_is_acyclic plan).0)) ∙ e in cc) legal rounds both
